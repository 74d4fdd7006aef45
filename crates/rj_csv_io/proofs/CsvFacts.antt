-- csv reads the records of a text's derivation, but for its empty lines.
use Rattle.std.specs.Prelude.{ℕ, ◌==◌, ◌≡◌, ◌<◌, ◌&&◌, not, nat_lt, if◌then◌else◌, Bool, true, false, List, [], ◌∷◌, ◌++◌, map, filter, Option, Some, None}
use Rattle.std.specs.List.{list_all}
use Rattle.std.proofs.Common.{refl, sym, ap, subst, ◌∙◌, append_assoc, inl, inr}
use Rattle.std.proofs.lemmas.List.{append-nil, map-append}
use Rattle.std.proofs.lemmas.Bool.{cases_Bool, and_parts, eqb-true, not-true, not_from_false, false≢true, lt-ltb, and_cases, cond-true}
use Rattle.csv.specs.declared.parser.State.TheVariants as st
use Rattle.csv.specs.Reading.{records}
use Rattle.rj_csv_io.specs.Grammar.{Field, escaped, non-escaped, Record, Line, LineEnd, LF, CRLF, File, dquote, cr, lf, is_textdata, doubled, field_text, is_field, fields_text, record_text, is_record, is_blank, end_text, line_text, is_line, lines_text, names_of, rest_text, is_rest, Derives, value_of, values_of, records_of, rest_records}
use Rattle.rj_csv_io.specs.StrictReading.{config_of, without_empty}
use Rattle.rj_csv_io.specs.declared.strict.header.HeaderPlace.{HeaderPlace}
use Rattle.rj_csv_io.proofs.Lawful.{Lawful}
use Rattle.rj_csv_io.proofs.StrictTexts.{line-whole, Plain, textdata-is, ends-so}
use Rattle.rj_csv_io.proofs.StrictRecords.{all_records, records-all}

plain-byte : (d : ℕ) (fields : List (List ℕ)) (u : List ℕ) (c : ℕ) (text : List ℕ) → Plain d c
    → all_records d st.InField fields u (c ∷ text) ≡ all_records d st.InField fields (u ++ c ∷ []) text
unfolding all_records
plain-byte d fields u c text p = rw (p.no-delimiter, p.no-cr, p.no-lf) refl

plain-run : (d : ℕ) (fields : List (List ℕ)) (u v text : List ℕ) → list_all (is_textdata d) v ≡ true
    → all_records d st.InField fields u (v ++ text) ≡ all_records d st.InField fields (u ++ v) text
plain-run d fields u [] text e = rw (append-nil u) refl
plain-run d fields u (c ∷ v) text e =
    let parts = and_parts (is_textdata d c) (list_all (is_textdata d) v) e in
    plain-byte d fields u c (v ++ text) (textdata-is d c parts.0)
    ∙ (plain-run d fields (u ++ c ∷ []) v text parts.1 ∙ ap (λ (x : List ℕ). all_records d st.InField fields x text) (append_assoc u (c ∷ []) v))

start-plain : (d : ℕ) (fields : List (List ℕ)) (c : ℕ) (text : List ℕ) → Plain d c
    → all_records d st.StartField fields [] (c ∷ text) ≡ all_records d st.InField fields (c ∷ []) text
unfolding all_records
start-plain d fields c text p = rw (p.no-dquote, p.no-delimiter, p.no-cr, p.no-lf) refl

opened-byte : (d : ℕ) (fields : List (List ℕ)) (u : List ℕ) (c : ℕ) (text : List ℕ) → (c == dquote) ≡ false
    → all_records d st.InQuoted fields u (c ∷ text) ≡ all_records d st.InQuoted fields (u ++ c ∷ []) text
unfolding all_records
opened-byte d fields u c text q = rw q refl

opened-dquote : (d : ℕ) (fields : List (List ℕ)) (u text : List ℕ)
    → all_records d st.InQuoted fields u (dquote ∷ dquote ∷ text) ≡ all_records d st.InQuoted fields (u ++ dquote ∷ []) text
unfolding all_records
opened-dquote d fields u text = refl

doubled-one : (c : ℕ) (v : List ℕ) → (c == dquote) ≡ false → doubled (c ∷ v) ≡ c ∷ doubled v
unfolding doubled
doubled-one c v q = rw q refl

doubled-two : (v : List ℕ) → doubled (dquote ∷ v) ≡ dquote ∷ dquote ∷ doubled v
unfolding doubled
doubled-two v = refl

doubled-none : doubled [] ≡ []
unfolding doubled
doubled-none = refl

quoted-run : (d : ℕ) (fields : List (List ℕ)) (u v text : List ℕ)
    → all_records d st.InQuoted fields u (doubled v ++ text) ≡ all_records d st.InQuoted fields (u ++ v) text
quoted-run d fields u [] text =
    ap (λ (x : List ℕ). all_records d st.InQuoted fields u (x ++ text)) doubled-none
    ∙ ap (λ (x : List ℕ). all_records d st.InQuoted fields x text) (sym (append-nil u))
quoted-run d fields u (c ∷ v) text = elim (cases_Bool (c == dquote)) [
  | inl same ↦
      subst (λ (x : ℕ). all_records d st.InQuoted fields u (doubled (x ∷ v) ++ text) ≡ all_records d st.InQuoted fields (u ++ x ∷ v) text) (sym (eqb-true c dquote same))
      (ap (λ (x : List ℕ). all_records d st.InQuoted fields u (x ++ text)) (doubled-two v)
      ∙ (opened-dquote d fields u (doubled v ++ text) ∙ (quoted-run d fields (u ++ dquote ∷ []) v text
      ∙ ap (λ (x : List ℕ). all_records d st.InQuoted fields x text) (append_assoc u (dquote ∷ []) v))))
  | inr other ↦
      ap (λ (x : List ℕ). all_records d st.InQuoted fields u (x ++ text)) (doubled-one c v other)
      ∙ (opened-byte d fields u c (doubled v ++ text) other ∙ (quoted-run d fields (u ++ c ∷ []) v text
      ∙ ap (λ (x : List ℕ). all_records d st.InQuoted fields x text) (append_assoc u (c ∷ []) v)))
]

opens : (d : ℕ) (fields : List (List ℕ)) (text : List ℕ) → all_records d st.StartField fields [] (dquote ∷ text) ≡ all_records d st.InQuoted fields [] text
unfolding all_records
opens d fields text = refl

closes : (d : ℕ) (fields : List (List ℕ)) (u text : List ℕ) → all_records d st.InQuoted fields u (dquote ∷ text) ≡ all_records d st.AfterQuote fields u text
unfolding all_records
closes d fields u text = refl

-- a byte that is no quote does behind a closing quote, and at the start of a field, what it does in a field
behind-quote : (d : ℕ) (fields : List (List ℕ)) (u : List ℕ) (c : ℕ) (text : List ℕ) → (c == dquote) ≡ false
    → all_records d st.AfterQuote fields u (c ∷ text) ≡ all_records d st.InField fields u (c ∷ text)
unfolding all_records
behind-quote d fields u c text q = rw q refl

at-start : (d : ℕ) (fields : List (List ℕ)) (u : List ℕ) (c : ℕ) (text : List ℕ) → (c == dquote) ≡ false
    → all_records d st.StartField fields u (c ∷ text) ≡ all_records d st.InField fields u (c ∷ text)
unfolding all_records
at-start d fields u c text q = rw q refl

field-run : (d : ℕ) (fields : List (List ℕ)) (f : Field) (c : ℕ) (text : List ℕ) → is_field d f ≡ true → (c == dquote) ≡ false
    → all_records d st.StartField fields [] (field_text f ++ c ∷ text) ≡ all_records d st.InField fields (value_of f) (c ∷ text)
field-run d fields (non-escaped []) c text e q = at-start d fields [] c text q
field-run d fields (non-escaped (b ∷ v)) c text e q =
    let parts = and_parts (is_textdata d b) (list_all (is_textdata d) v) e in
    start-plain d fields b (v ++ c ∷ text) (textdata-is d b parts.0) ∙ plain-run d fields (b ∷ []) v (c ∷ text) parts.1
field-run d fields (escaped v) c text e q =
    ap (λ (x : List ℕ). all_records d st.StartField fields [] (dquote ∷ x)) (append_assoc (doubled v) (dquote ∷ []) (c ∷ text))
    ∙ (opens d fields (doubled v ++ dquote ∷ c ∷ text) ∙ (quoted-run d fields [] v (dquote ∷ c ∷ text)
    ∙ (closes d fields v (c ∷ text) ∙ behind-quote d fields v c text q)))

-- at the end of the text
ends-start : (d : ℕ) (fields : List (List ℕ)) → all_records d st.StartField fields [] [] ≡ (fields ++ [] ∷ []) ∷ []
unfolding all_records
ends-start d fields = refl

ends-plain : (d : ℕ) (fields : List (List ℕ)) (u : List ℕ) → all_records d st.InField fields u [] ≡ (fields ++ u ∷ []) ∷ []
unfolding all_records
ends-plain d fields u = refl

ends-closed : (d : ℕ) (fields : List (List ℕ)) (u : List ℕ) → all_records d st.AfterQuote fields u [] ≡ (fields ++ u ∷ []) ∷ []
unfolding all_records
ends-closed d fields u = refl

field-end : (d : ℕ) (fields : List (List ℕ)) (f : Field) → is_field d f ≡ true
    → all_records d st.StartField fields [] (field_text f) ≡ (fields ++ value_of f ∷ []) ∷ []
field-end d fields (non-escaped []) e = ends-start d fields
field-end d fields (non-escaped (b ∷ v)) e =
    let parts = and_parts (is_textdata d b) (list_all (is_textdata d) v) e in
    start-plain d fields b v (textdata-is d b parts.0)
    ∙ (ap (λ (x : List ℕ). all_records d st.InField fields (b ∷ []) x) (sym (append-nil v))
    ∙ (plain-run d fields (b ∷ []) v [] parts.1 ∙ ends-plain d fields (b ∷ v)))
field-end d fields (escaped v) e =
    opens d fields (doubled v ++ dquote ∷ []) ∙ (quoted-run d fields [] v (dquote ∷ []) ∙ (closes d fields v [] ∙ ends-closed d fields v))

delimiter-run : (d : ℕ) (law : Lawful d) (fields : List (List ℕ)) (u text : List ℕ) → all_records d st.InField fields u (d ∷ text) ≡ all_records d st.StartField (fields ++ u ∷ []) [] text
unfolding all_records
delimiter-run d law fields u text = rw law.is-self refl

fields-run : (d : ℕ) (law : Lawful d) (fields : List (List ℕ)) (more : List Field) (text : List ℕ) → list_all (is_field d) more ≡ true
    → all_records d st.StartField fields [] (fields_text d more ++ text) ≡ all_records d st.StartField (fields ++ map value_of more) [] text
fields-run d law fields [] text e = ap (λ (x : List (List ℕ)). all_records d st.StartField x [] text) (sym (append-nil fields))
fields-run d law fields (f ∷ more) text e =
    let parts = and_parts (is_field d f) (list_all (is_field d) more) e in
    let spelled : ((field_text f ++ d ∷ []) ++ fields_text d more) ++ text ≡ field_text f ++ (d ∷ (fields_text d more ++ text)) =
    append_assoc (field_text f ++ d ∷ []) (fields_text d more) text ∙ append_assoc (field_text f) (d ∷ []) (fields_text d more ++ text) in
    ap (λ (x : List ℕ). all_records d st.StartField fields [] x) spelled
    ∙ (field-run d fields f d (fields_text d more ++ text) parts.0 law.no-dquote
    ∙ (delimiter-run d law fields (value_of f) (fields_text d more ++ text)
    ∙ (fields-run d law (fields ++ value_of f ∷ []) more text parts.1
    ∙ ap (λ (x : List (List ℕ)). all_records d st.StartField x [] text) (append_assoc fields (value_of f ∷ []) (map value_of more)))))

-- a line's end behind a field
at-lf : (d : ℕ) (law : Lawful d) (fields : List (List ℕ)) (u text : List ℕ) → all_records d st.InField fields u (lf ∷ text) ≡ (fields ++ u ∷ []) ∷ all_records d st.StartRecord [] [] text
unfolding all_records
at-lf d law fields u text = rw law.lf-not refl

at-cr : (d : ℕ) (law : Lawful d) (fields : List (List ℕ)) (u text : List ℕ) → all_records d st.InField fields u (cr ∷ lf ∷ text) ≡ (fields ++ u ∷ []) ∷ all_records d st.StartRecord [] [] text
unfolding all_records
at-cr d law fields u text = rw law.cr-not refl

line-end : (d : ℕ) (law : Lawful d) (fields : List (List ℕ)) (f : Field) (e : LineEnd) (text : List ℕ) → is_field d f ≡ true
    → all_records d st.StartField fields [] (field_text f ++ (end_text e ++ text)) ≡ (fields ++ value_of f ∷ []) ∷ all_records d st.StartRecord [] [] text
line-end d law fields f LF text ok = field-run d fields f lf text ok refl ∙ at-lf d law fields (value_of f) text
line-end d law fields f CRLF text ok = field-run d fields f cr (lf ∷ text) ok refl ∙ at-cr d law fields (value_of f) text

values-more : (fields : List Field) (f : Field) → map value_of fields ++ value_of f ∷ [] ≡ map value_of (fields ++ f ∷ [])
values-more fields f = sym (map-append value_of fields (f ∷ []))

-- a record that is not empty begins as a field does
record-byte : (d c : ℕ) (text : List ℕ) → (c == cr) ≡ false → (c == lf) ≡ false
    → all_records d st.StartRecord [] [] (c ∷ text) ≡ all_records d st.StartField [] [] (c ∷ text)
unfolding all_records
record-byte d c text r n = rw (r, n) refl

field-begins : (d : ℕ) (f : Field) (text : List ℕ) → is_field d f ≡ true → is_blank (record { before = []; last = f }) ≡ false
    → all_records d st.StartRecord [] [] (field_text f ++ text) ≡ all_records d st.StartField [] [] (field_text f ++ text)
field-begins d (escaped v) text e n = record-byte d dquote ((doubled v ++ dquote ∷ []) ++ text) refl refl
field-begins d (non-escaped []) text e n = absurd (false≢true (sym n))
field-begins d (non-escaped (b ∷ v)) text e n =
    let p = textdata-is d b (and_parts (is_textdata d b) (list_all (is_textdata d) v) e).0 in
    record-byte d b (v ++ text) p.no-cr p.no-lf

first-begins : (d : ℕ) (law : Lawful d) (f : Field) (text : List ℕ) → is_field d f ≡ true
    → all_records d st.StartRecord [] [] (field_text f ++ d ∷ text) ≡ all_records d st.StartField [] [] (field_text f ++ d ∷ text)
first-begins d law (escaped v) text e = field-begins d (escaped v) (d ∷ text) e refl
first-begins d law (non-escaped []) text e = record-byte d d text law.no-cr law.no-lf
first-begins d law (non-escaped (b ∷ v)) text e = field-begins d (non-escaped (b ∷ v)) (d ∷ text) e refl

begins : (d : ℕ) (law : Lawful d) (fields : List Field) (f : Field) (text : List ℕ) → list_all (is_field d) fields ≡ true → is_field d f ≡ true → is_blank (record { before = fields; last = f }) ≡ false
    → all_records d st.StartRecord [] [] (fields_text d fields ++ (field_text f ++ text)) ≡ all_records d st.StartField [] [] (fields_text d fields ++ (field_text f ++ text))
begins d law [] f text e ok n = field-begins d f text ok n
begins d law (g ∷ fields) f text e ok n =
    let first = (and_parts (is_field d g) (list_all (is_field d) fields) e).0 in
    let more = fields_text d fields ++ (field_text f ++ text) in
    let spelled : ((field_text g ++ d ∷ []) ++ fields_text d fields) ++ (field_text f ++ text) ≡ field_text g ++ (d ∷ more) =
    append_assoc (field_text g ++ d ∷ []) (fields_text d fields) (field_text f ++ text) ∙ append_assoc (field_text g) (d ∷ []) more in
    ap (λ (x : List ℕ). all_records d st.StartRecord [] [] x) spelled
    ∙ (first-begins d law g more first ∙ ap (λ (x : List ℕ). all_records d st.StartField [] [] x) (sym spelled))

line-run : (d : ℕ) (law : Lawful d) (l : Line) (text : List ℕ) → is_record d l.fields ≡ true → is_blank l.fields ≡ false
    → all_records d st.StartRecord [] [] (line_text d l ++ text) ≡ values_of l.fields ∷ all_records d st.StartRecord [] [] text
line-run d law l text e n =
    let parts = and_parts (list_all (is_field d) l.fields.before) (is_field d l.fields.last) e in
    ap (λ (x : List ℕ). all_records d st.StartRecord [] [] x) (line-whole d l text)
    ∙ (begins d law l.fields.before l.fields.last (end_text l.ended ++ text) parts.0 parts.1 n
    ∙ (fields-run d law [] l.fields.before (field_text l.fields.last ++ (end_text l.ended ++ text)) parts.0
    ∙ (line-end d law (map value_of l.fields.before) l.fields.last l.ended text parts.1
    ∙ ap (λ (x : List (List ℕ)). x ∷ all_records d st.StartRecord [] [] text) (values-more l.fields.before l.fields.last))))

-- an empty line
empty-end : (d : ℕ) (e : LineEnd) (text : List ℕ) → all_records d st.StartRecord [] [] (end_text e ++ text) ≡ all_records d st.StartRecord [] [] text
unfolding all_records
empty-end d LF text = refl
empty-end d CRLF text = refl

blank-text : (d : ℕ) (fields : List Field) (f : Field) → is_blank (record { before = fields; last = f }) ≡ true → record_text d (record { before = fields; last = f }) ≡ []
blank-text d [] (non-escaped []) e = refl
blank-text d [] (non-escaped (b ∷ v)) e = absurd (false≢true e)
blank-text d [] (escaped v) e = absurd (false≢true e)
blank-text d (g ∷ fields) f e = absurd (false≢true e)

empty-run : (d : ℕ) (l : Line) (text : List ℕ) → is_blank l.fields ≡ true → all_records d st.StartRecord [] [] (line_text d l ++ text) ≡ all_records d st.StartRecord [] [] text
empty-run d l text b =
    ap (λ (x : List ℕ). all_records d st.StartRecord [] [] ((x ++ end_text l.ended) ++ text)) (blank-text d l.fields.before l.fields.last b)
    ∙ empty-end d l.ended text

abbrev pub solid : Line → Bool
solid l = not (is_blank l.fields)

abbrev pub line_values : Line → List (List ℕ)
line_values l = values_of l.fields

lines-run : (d : ℕ) (law : Lawful d) (names : ℕ) (lines : List Line) (text : List ℕ) → list_all (is_line d names) lines ≡ true
    → all_records d st.StartRecord [] [] (lines_text d lines ++ text) ≡ map line_values (filter solid lines) ++ all_records d st.StartRecord [] [] text
lines-run d law names [] text e = refl
lines-run d law names (l ∷ lines) text e =
    let parts = and_parts (is_line d names l) (list_all (is_line d names) lines) e in
    let ok = (and_parts (is_record d l.fields) _ parts.0).0 in
    ap (λ (x : List ℕ). all_records d st.StartRecord [] [] x) (append_assoc (line_text d l) (lines_text d lines) text)
    ∙ (go (is_blank l.fields) refl ok (lines-run d law names lines text parts.1))
  where
    go : (b : Bool) → is_blank l.fields ≡ b → is_record d l.fields ≡ true
        → all_records d st.StartRecord [] [] (lines_text d lines ++ text) ≡ map line_values (filter solid lines) ++ all_records d st.StartRecord [] [] text
        → all_records d st.StartRecord [] [] (line_text d l ++ (lines_text d lines ++ text))
        ≡ map line_values (if not b then l ∷ filter solid lines else filter solid lines) ++ all_records d st.StartRecord [] [] text
    go true b ok more = empty-run d l (lines_text d lines ++ text) b ∙ more
    go false b ok more = line-run d law l (lines_text d lines ++ text) ok b ∙ ap (λ (x : List (List (List ℕ))). line_values l ∷ x) more

no-text : (d : ℕ) → all_records d st.StartRecord [] [] [] ≡ []
unfolding all_records
no-text d = refl

rest-run : (d : ℕ) (law : Lawful d) (full : Bool) (rest : Option Record) → is_rest d full rest ≡ true → all_records d st.StartRecord [] [] (rest_text d rest) ≡ rest_records rest
rest-run d law full None e = no-text d
rest-run d law full (Some r) e =
    let parts = and_parts (is_record d r && not (is_blank r)) (not full) e in
    let more = and_parts (is_record d r) (not (is_blank r)) parts.0 in
    let lawful = and_parts (list_all (is_field d) r.before) (is_field d r.last) more.0 in
    let plain : fields_text d r.before ++ (field_text r.last ++ []) ≡ fields_text d r.before ++ field_text r.last = ap (λ (x : List ℕ). fields_text d r.before ++ x) (append-nil (field_text r.last)) in
    ap (λ (x : List ℕ). all_records d st.StartRecord [] [] x) (sym plain)
    ∙ (begins d law r.before r.last [] lawful.0 lawful.1 (not-true (is_blank r) more.1)
    ∙ (ap (λ (x : List ℕ). all_records d st.StartField [] [] x) plain
    ∙ (fields-run d law [] r.before (field_text r.last) lawful.0
    ∙ (field-end d (map value_of r.before) r.last lawful.1
    ∙ ap (λ (x : List (List ℕ)). x ∷ []) (values-more r.before r.last)))))

-- what csv reads of a text that is derived
pub reads : (d : ℕ) (law : Lawful d) (h : HeaderPlace) (full : Bool) (text : List ℕ) (file : File) → Derives d h full text file → records (config_of d) text ≡ records_of (without_empty file)
reads d law h full text file derives =
    records-all d text
    ∙ (ap (λ (x : List ℕ). all_records d st.StartRecord [] [] x) derives.spelled
    ∙ (lines-run d law (names_of h file.lines) file.lines (rest_text d file.rest) derives.lines
    ∙ ap (λ (x : List (List (List ℕ))). map line_values (filter solid file.lines) ++ x) (rest-run d law full file.rest derives.rest)))

-- under more than one name no line is empty
pub line-solid : (d names : ℕ) (l : Line) → nat_lt 1 names ≡ true → is_line d names l ≡ true → solid l ≡ true
line-solid d names l n e = elim (and_cases (is_blank l.fields) (nat_lt 1 names) (ends-so d names l e)) [
  | inl full ↦ not_from_false (is_blank l.fields) full
  | inr few ↦ absurd (false≢true (sym few ∙ n))
]

all-solid : (d names : ℕ) (lines : List Line) → nat_lt 1 names ≡ true → list_all (is_line d names) lines ≡ true → filter solid lines ≡ lines
all-solid d names [] n e = refl
all-solid d names (l ∷ lines) n e =
    let parts = and_parts (is_line d names l) (list_all (is_line d names) lines) e in
    let full = line-solid d names l n parts.0 in
    cond-true (solid l) (l ∷ filter solid lines) (filter solid lines) full ∙ ap (λ (x : List Line). l ∷ x) (all-solid d names lines n parts.1)

pub reads-all : (d : ℕ) (law : Lawful d) (h : HeaderPlace) (full : Bool) (text : List ℕ) (file : File) → Derives d h full text file → 1 < names_of h file.lines → records (config_of d) text ≡ records_of file
reads-all d law h full text file derives n =
    reads d law h full text file derives
    ∙ ap (λ (lines : List Line). map line_values lines ++ rest_records file.rest) (all-solid d (names_of h file.lines) file.lines (lt-ltb 1 (names_of h file.lines) n) derives.lines)
