-- A text that is derived, or that has a fault, is taken apart so.
use Rattle.std.specs.Prelude.{ℕ, ◌+◌, ◌==◌, ◌≡◌, ◌&&◌, not, nat_lt, if◌then◌else◌, Bool, true, false, List, [], ◌∷◌, ◌++◌, length, Option, Some, None, Result, Ok, Err}
use Rattle.std.specs.List.{list_all}
use Rattle.std.proofs.Common.{refl, sym, ap, subst, arith, ◌∙◌, append_assoc, inl, inr}
use Rattle.std.proofs.lemmas.List.{append-nil}
use Rattle.std.proofs.lemmas.Bool.{cases_Bool, and_parts, eqb-true, lt-ltb, not-true}
use Rattle.rj_csv_io.specs.Grammar.{Field, escaped, non-escaped, Record, Line, LineEnd, LF, CRLF, File, dquote, cr, lf, is_textdata, doubled, field_text, is_field, fields_text, is_record, is_blank, end_text, line_text, is_line, lines_text, names_of, rest_text, is_rest, Derives}
use Rattle.rj_csv_io.specs.StrictFaults.{first_row, starts_with_lf, FieldAt, HasFault}
use Rattle.rj_csv_io.specs.declared.strict.header.HeaderPlace.{HeaderPlace}
use Rattle.rj_csv_io.specs.declared.strict.fault.StrictFault.{StrictFault}
use Rattle.rj_csv_io.specs.declared.strict.fault.StrictFault.TheVariants as fault
use Rattle.rj_csv_io.proofs.Lawful.{Lawful}
use Rattle.rj_csv_io.proofs.Parsing.{within, opened, returned, Taken, nothing, take_byte, taken_then, parse, untaken}
use Rattle.rj_csv_io.proofs.StrictTexts.{line-whole, Plain, textdata-is, line-among}

either : {X : Type 0} (b : Bool) (x y z : X) → x ≡ z → y ≡ z → (if b then x else y) ≡ z
either true x y z e f = e
either false x y z e f = f

module _ (d : ℕ) (h : HeaderPlace) (full : Bool) (lines : List Line) (fields : List Field) where
  -- a byte of TEXTDATA
  plain-byte : (u : List ℕ) (c : ℕ) (text : List ℕ) → Plain d c
      → parse d h full (record { lines = lines; fields = fields; part = within (non-escaped u) }) (c ∷ text)
      ≡ parse d h full (record { lines = lines; fields = fields; part = within (non-escaped (u ++ c ∷ [])) }) text
  unfolding parse
  plain-byte u c text p = rw (p.no-lf, p.no-cr, p.no-dquote, p.no-delimiter) refl

  plain-run : (u v text : List ℕ) → list_all (is_textdata d) v ≡ true
      → parse d h full (record { lines = lines; fields = fields; part = within (non-escaped u) }) (v ++ text)
      ≡ parse d h full (record { lines = lines; fields = fields; part = within (non-escaped (u ++ v)) }) text
  plain-run u [] text e = rw (append-nil u) refl
  plain-run u (c ∷ v) text e =
      let parts = and_parts (is_textdata d c) (list_all (is_textdata d) v) e in
      plain-byte u c (v ++ text) (textdata-is d c parts.0)
      ∙ (plain-run (u ++ c ∷ []) v text parts.1
      ∙ ap (λ (x : List ℕ). parse d h full (record { lines = lines; fields = fields; part = within (non-escaped x) }) text) (append_assoc u (c ∷ []) v))

  -- a byte between quotes that is no quote
  opened-takes : (u : List ℕ) (c : ℕ) → (c == dquote) ≡ false
      → take_byte d h (record { lines = lines; fields = fields; part = opened u }) c ≡ Ok (record { lines = lines; fields = fields; part = opened (u ++ c ∷ []) })
  opened-takes u c q =
      either (c == lf) _ _ _ refl (either (c == cr) _ _ _ refl (rw q (either (c == d) _ _ _ refl refl)))

  opened-byte : (u : List ℕ) (c : ℕ) (text : List ℕ) → (c == dquote) ≡ false
      → parse d h full (record { lines = lines; fields = fields; part = opened u }) (c ∷ text)
      ≡ parse d h full (record { lines = lines; fields = fields; part = opened (u ++ c ∷ []) }) text
  unfolding parse
  opened-byte u c text q = ap (λ (r : Result Taken StrictFault). taken_then r (λ t2. parse d h full t2 text)) (opened-takes u c q)

  opened-dquotes : (u text : List ℕ)
      → parse d h full (record { lines = lines; fields = fields; part = opened u }) (dquote ∷ dquote ∷ text)
      ≡ parse d h full (record { lines = lines; fields = fields; part = opened (u ++ dquote ∷ []) }) text
  unfolding parse
  opened-dquotes u text = refl

  doubled-byte : (c : ℕ) (v : List ℕ) → (c == dquote) ≡ false → doubled (c ∷ v) ≡ c ∷ doubled v
  unfolding doubled
  doubled-byte c v q = rw q refl

  doubled-two : (v : List ℕ) → doubled (dquote ∷ v) ≡ dquote ∷ dquote ∷ doubled v
  unfolding doubled
  doubled-two v = refl

  doubled-none : doubled [] ≡ []
  unfolding doubled
  doubled-none = refl

  quoted-run : (u v text : List ℕ)
      → parse d h full (record { lines = lines; fields = fields; part = opened u }) (doubled v ++ text)
      ≡ parse d h full (record { lines = lines; fields = fields; part = opened (u ++ v) }) text
  quoted-run u [] text =
      ap (λ (x : List ℕ). parse d h full (record { lines = lines; fields = fields; part = opened u }) (x ++ text)) doubled-none
      ∙ ap (λ (x : List ℕ). parse d h full (record { lines = lines; fields = fields; part = opened x }) text) (sym (append-nil u))
  quoted-run u (c ∷ v) text = elim (cases_Bool (c == dquote)) [
    | inl same ↦
        let is : c ≡ dquote = eqb-true c dquote same in
        subst (λ (x : ℕ). parse d h full (record { lines = lines; fields = fields; part = opened u }) (doubled (x ∷ v) ++ text)
        ≡ parse d h full (record { lines = lines; fields = fields; part = opened (u ++ x ∷ v) }) text) (sym is)
        (ap (λ (x : List ℕ). parse d h full (record { lines = lines; fields = fields; part = opened u }) (x ++ text)) (doubled-two v)
        ∙ (opened-dquotes u (doubled v ++ text) ∙ (quoted-run (u ++ dquote ∷ []) v text
        ∙ ap (λ (x : List ℕ). parse d h full (record { lines = lines; fields = fields; part = opened x }) text) (append_assoc u (dquote ∷ []) v))))
    | inr other ↦
        ap (λ (x : List ℕ). parse d h full (record { lines = lines; fields = fields; part = opened u }) (x ++ text)) (doubled-byte c v other)
        ∙ (opened-byte u c (doubled v ++ text) other ∙ (quoted-run (u ++ c ∷ []) v text
        ∙ ap (λ (x : List ℕ). parse d h full (record { lines = lines; fields = fields; part = opened x }) text) (append_assoc u (c ∷ []) v)))
  ]

  opens : (text : List ℕ)
      → parse d h full (record { lines = lines; fields = fields; part = nothing }) (dquote ∷ text) ≡ parse d h full (record { lines = lines; fields = fields; part = opened [] }) text
  unfolding parse
  opens text = refl

  closes : (u text : List ℕ)
      → parse d h full (record { lines = lines; fields = fields; part = opened u }) (dquote ∷ text) ≡ parse d h full (record { lines = lines; fields = fields; part = within (escaped u) }) text
  unfolding parse
  closes u text = refl

  field-run : (f : Field) (text : List ℕ) → is_field d f ≡ true
      → parse d h full (record { lines = lines; fields = fields; part = nothing }) (field_text f ++ text)
      ≡ parse d h full (record { lines = lines; fields = fields; part = within f }) text
  field-run (non-escaped v) text e = plain-run [] v text e
  field-run (escaped v) text e =
      ap (λ (x : List ℕ). parse d h full (record { lines = lines; fields = fields; part = nothing }) (dquote ∷ x)) (append_assoc (doubled v) (dquote ∷ []) text)
      ∙ (opens (doubled v ++ dquote ∷ text) ∙ (quoted-run [] v (dquote ∷ text) ∙ closes v text))

  delimiter-run : Lawful d → (f : Field) (text : List ℕ)
      → parse d h full (record { lines = lines; fields = fields; part = within f }) (d ∷ text)
      ≡ parse d h full (record { lines = lines; fields = fields ++ f ∷ []; part = nothing }) text
  unfolding parse
  delimiter-run law f text = rw (law.no-lf, law.no-cr, law.no-dquote, law.is-self) refl

  -- the end of a line, where it may be there
  end-run : (f : Field) (e : LineEnd) (text : List ℕ) → (is_blank (record { before = fields; last = f }) && nat_lt 1 (names_of h lines)) ≡ false
      → parse d h full (record { lines = lines; fields = fields; part = within f }) (end_text e ++ text)
      ≡ parse d h full (record { lines = lines ++ record { fields = record { before = fields; last = f }; ended = e } ∷ []; fields = []; part = nothing }) text
  unfolding parse
  end-run f LF text n = rw n refl
  end-run f CRLF text n = rw n refl

fields-run : (d : ℕ) (law : Lawful d) (h : HeaderPlace) (full : Bool) (lines : List Line) (fields more : List Field) (text : List ℕ) → list_all (is_field d) more ≡ true
    → parse d h full (record { lines = lines; fields = fields; part = nothing }) (fields_text d more ++ text)
    ≡ parse d h full (record { lines = lines; fields = fields ++ more; part = nothing }) text
fields-run d law h full lines fields [] text e = ap (λ (x : List Field). parse d h full (record { lines = lines; fields = x; part = nothing }) text) (sym (append-nil fields))
fields-run d law h full lines fields (f ∷ more) text e =
    let parts = and_parts (is_field d f) (list_all (is_field d) more) e in
    let spelled : ((field_text f ++ d ∷ []) ++ fields_text d more) ++ text ≡ field_text f ++ (d ∷ (fields_text d more ++ text)) =
    append_assoc (field_text f ++ d ∷ []) (fields_text d more) text ∙ append_assoc (field_text f) (d ∷ []) (fields_text d more ++ text) in
    ap (λ (x : List ℕ). parse d h full (record { lines = lines; fields = fields; part = nothing }) x) spelled
    ∙ (field-run d h full lines fields f (d ∷ (fields_text d more ++ text)) parts.0
    ∙ (delimiter-run d h full lines fields law f (fields_text d more ++ text)
    ∙ (fields-run d law h full lines (fields ++ f ∷ []) more text parts.1
    ∙ ap (λ (x : List Field). parse d h full (record { lines = lines; fields = x; part = nothing }) text) (append_assoc fields (f ∷ []) more))))

line-run : (d : ℕ) (law : Lawful d) (h : HeaderPlace) (full : Bool) (lines : List Line) (l : Line) (text : List ℕ) → is_record d l.fields ≡ true
    → (is_blank l.fields && nat_lt 1 (names_of h lines)) ≡ false
    → parse d h full (record { lines = lines; fields = []; part = nothing }) (line_text d l ++ text)
    ≡ parse d h full (record { lines = lines ++ l ∷ []; fields = []; part = nothing }) text
line-run d law h full lines l text e n =
    let parts = and_parts (list_all (is_field d) l.fields.before) (is_field d l.fields.last) e in
    ap (λ (x : List ℕ). parse d h full (record { lines = lines; fields = []; part = nothing }) x) (line-whole d l text)
    ∙ (fields-run d law h full lines [] l.fields.before (field_text l.fields.last ++ (end_text l.ended ++ text)) parts.0
    ∙ (field-run d h full lines l.fields.before l.fields.last (end_text l.ended ++ text) parts.1
    ∙ end-run d h full lines l.fields.before l.fields.last l.ended text n))

lines-run : (d : ℕ) (law : Lawful d) (h : HeaderPlace) (full : Bool) (done more : List Line) (text : List ℕ) → list_all (is_line d (names_of h (done ++ more))) more ≡ true
    → parse d h full (record { lines = done; fields = []; part = nothing }) (lines_text d more ++ text)
    ≡ parse d h full (record { lines = done ++ more; fields = []; part = nothing }) text
lines-run d law h full done [] text e = ap (λ (x : List Line). parse d h full (record { lines = x; fields = []; part = nothing }) text) (sym (append-nil done))
lines-run d law h full done (l ∷ more) text e =
    let names = names_of h (done ++ l ∷ more) in
    let parts = and_parts (is_line d names l) (list_all (is_line d names) more) e in
    let lawful = and_parts (is_record d l.fields) _ parts.0 in
    let same : (done ++ l ∷ []) ++ more ≡ done ++ l ∷ more = append_assoc done (l ∷ []) more in
    let rest : list_all (is_line d (names_of h ((done ++ l ∷ []) ++ more))) more ≡ true = rw same parts.1 in
    ap (λ (x : List ℕ). parse d h full (record { lines = done; fields = []; part = nothing }) x) (append_assoc (line_text d l) (lines_text d more) text)
    ∙ (line-run d law h full done l (lines_text d more ++ text) lawful.0 (line-among d h done l more parts.0)
    ∙ (lines-run d law h full (done ++ l ∷ []) more text rest
    ∙ ap (λ (x : List Line). parse d h full (record { lines = x; fields = []; part = nothing }) text) same))

end-none : (d : ℕ) (h : HeaderPlace) (full : Bool) (lines : List Line) → parse d h full (record { lines = lines; fields = []; part = nothing }) [] ≡ Ok (record { lines = lines; rest = None })
unfolding parse
end-none d h full lines = refl

end-some : (d : ℕ) (h : HeaderPlace) (full : Bool) (lines : List Line) (fields : List Field) (f : Field) → is_blank (record { before = fields; last = f }) ≡ false → full ≡ false
    → parse d h full (record { lines = lines; fields = fields; part = within f }) [] ≡ Ok (record { lines = lines; rest = Some (record { before = fields; last = f }) })
unfolding parse
end-some d h full lines fields f n part = rw (n, part) refl

rest-run : (d : ℕ) (law : Lawful d) (h : HeaderPlace) (full : Bool) (lines : List Line) (rest : Option Record) → is_rest d full rest ≡ true
    → parse d h full (record { lines = lines; fields = []; part = nothing }) (rest_text d rest) ≡ Ok (record { lines = lines; rest = rest })
rest-run d law h full lines None e = end-none d h full lines
rest-run d law h full lines (Some r) e =
    let parts = and_parts (is_record d r && not (is_blank r)) (not full) e in
    let more = and_parts (is_record d r) (not (is_blank r)) parts.0 in
    let lawful = and_parts (list_all (is_field d) r.before) (is_field d r.last) more.0 in
    let plain : field_text r.last ++ [] ≡ field_text r.last = append-nil (field_text r.last) in
    fields-run d law h full lines [] r.before (field_text r.last) lawful.0
    ∙ (ap (λ (x : List ℕ). parse d h full (record { lines = lines; fields = r.before; part = nothing }) x) (sym plain)
    ∙ (field-run d h full lines r.before r.last [] lawful.1
    ∙ end-some d h full lines r.before r.last (not-true (is_blank r) more.1) (not-true full parts.1)))

-- a text that is derived
pub derived : (d : ℕ) (law : Lawful d) (h : HeaderPlace) (full : Bool) (text : List ℕ) (file : File) → Derives d h full text file → parse d h full untaken text ≡ Ok file
derived d law h full text file derives =
    ap (λ (x : List ℕ). parse d h full untaken x) derives.spelled
    ∙ (lines-run d law h full [] file.lines (rest_text d file.rest) derives.lines ∙ rest-run d law h full file.lines file.rest derives.rest)

-- up to a field
module _ (d : ℕ) (law : Lawful d) (h : HeaderPlace) (full : Bool) (text : List ℕ) (row column : ℕ) (left : List ℕ) (at : FieldAt d h text row column left) where
  to-field : parse d h full untaken text ≡ parse d h full (record { lines = at.lines; fields = at.fields; part = nothing }) left
  to-field =
      ap (λ (x : List ℕ). parse d h full untaken x) at.spelled
      ∙ (lines-run d law h full [] at.lines (fields_text d at.fields ++ left) at.are_lines ∙ fields-run d law h full at.lines [] at.fields left at.are_fields)

module _ (d : ℕ) (h : HeaderPlace) (full : Bool) (lines : List Line) (fields : List Field) where
  ends-opened : (u : List ℕ) → parse d h full (record { lines = lines; fields = fields; part = opened u }) [] ≡ Err (fault.OpenQuote (first_row h + length lines) (length fields + 1))
  unfolding parse
  ends-opened u = refl

  after-quote : (u : List ℕ) (c : ℕ) (text : List ℕ) → Plain d c
      → parse d h full (record { lines = lines; fields = fields; part = within (escaped u) }) (c ∷ text) ≡ Err (fault.AfterQuote (first_row h + length lines) (length fields + 1))
  unfolding parse
  after-quote u c text p = rw (p.no-lf, p.no-cr, p.no-dquote, p.no-delimiter) refl

  bare-quote : (c : ℕ) (u text : List ℕ)
      → parse d h full (record { lines = lines; fields = fields; part = within (non-escaped (c ∷ u)) }) (dquote ∷ text) ≡ Err (fault.BareQuote (first_row h + length lines) (length fields + 1))
  unfolding parse
  bare-quote c u text = refl

  returned-takes : (f : Field) (c : ℕ) → (c == lf) ≡ false
      → take_byte d h (record { lines = lines; fields = fields; part = returned f }) c ≡ Err (fault.BareReturn (first_row h + length lines) (length fields + 1))
  returned-takes f c n =
      rw n (either (c == cr) _ _ _ refl (either (c == dquote) _ _ _ refl (either (c == d) _ _ _ refl refl)))

  bare-return : (f : Field) (text : List ℕ) → starts_with_lf text ≡ false
      → parse d h full (record { lines = lines; fields = fields; part = within f }) (cr ∷ text) ≡ Err (fault.BareReturn (first_row h + length lines) (length fields + 1))
  unfolding parse
  bare-return f [] n = refl
  bare-return f (c ∷ text) n = ap (λ (r : Result Taken StrictFault). taken_then r (λ t2. parse d h full t2 text)) (returned-takes f c n)

  cut-short : (f : Field) → is_blank (record { before = fields; last = f }) ≡ false → full ≡ true
      → parse d h full (record { lines = lines; fields = fields; part = within f }) [] ≡ Err (fault.CutShort (first_row h + length lines))
  unfolding parse
  cut-short f n whole = rw (n, whole) refl

empty-line : (d : ℕ) (h : HeaderPlace) (full : Bool) (lines : List Line) (e : LineEnd) (text : List ℕ) → nat_lt 1 (names_of h lines) ≡ true
    → parse d h full (record { lines = lines; fields = []; part = nothing }) (end_text e ++ text) ≡ Err (fault.EmptyLine (first_row h + length lines))
unfolding parse
empty-line d h full lines LF text n = rw n refl
empty-line d h full lines CRLF text n = rw n refl

no-fields : (fields : List Field) → 1 ≡ length fields + 1 → fields ≡ []
no-fields [] e = refl
no-fields (f ∷ fields) e = absurd (omega arith)

told-at : (k : ℕ → ℕ → StrictFault) (row column r c : ℕ) → row ≡ r → column ≡ c → ◌≡◌ {A = Result File StrictFault} (Err (k r c)) (Err (k row column))
told-at k row column r c e f = rw (e, f) refl

told-row : (k : ℕ → StrictFault) (row r : ℕ) → row ≡ r → ◌≡◌ {A = Result File StrictFault} (Err (k r)) (Err (k row))
told-row k row r e = rw e refl

-- a text that has a fault
pub faulty : (d : ℕ) (law : Lawful d) (h : HeaderPlace) (full : Bool) (text : List ℕ) (e : StrictFault) → HasFault d h full text e → parse d h full untaken text ≡ Err e
faulty d law h full text (fault.OpenQuote row column) (bytes, at) =
    let plain : doubled bytes ++ [] ≡ doubled bytes = append-nil (doubled bytes) in
    to-field d law h full text row column _ at
    ∙ (opens d h full at.lines at.fields (doubled bytes)
    ∙ (ap (λ (x : List ℕ). parse d h full (record { lines = at.lines; fields = at.fields; part = opened [] }) x) (sym plain)
    ∙ (quoted-run d h full at.lines at.fields [] bytes []
    ∙ (ends-opened d h full at.lines at.fields bytes ∙ told-at (λ r k. fault.OpenQuote r k) row column (first_row h + length at.lines) (length at.fields + 1) at.at_row at.at_column))))
faulty d law h full text (fault.AfterQuote row column) (bytes, c, more, plain, at) =
    to-field d law h full text row column _ at
    ∙ (field-run d h full at.lines at.fields (escaped bytes) (c ∷ more) refl
    ∙ (after-quote d h full at.lines at.fields bytes c more (textdata-is d c plain) ∙ told-at (λ r k. fault.AfterQuote r k) row column (first_row h + length at.lines) (length at.fields + 1) at.at_row at.at_column))
faulty d law h full text (fault.BareQuote row column) (c, bytes, more, plain, at) =
    to-field d law h full text row column _ at
    ∙ (field-run d h full at.lines at.fields (non-escaped (c ∷ bytes)) (dquote ∷ more) plain
    ∙ (bare-quote d h full at.lines at.fields c bytes more ∙ told-at (λ r k. fault.BareQuote r k) row column (first_row h + length at.lines) (length at.fields + 1) at.at_row at.at_column))
faulty d law h full text (fault.BareReturn row column) (f, more, lawful, none, at) =
    to-field d law h full text row column _ at
    ∙ (field-run d h full at.lines at.fields f (cr ∷ more) lawful
    ∙ (bare-return d h full at.lines at.fields f more none ∙ told-at (λ r k. fault.BareReturn r k) row column (first_row h + length at.lines) (length at.fields + 1) at.at_row at.at_column))
faulty d law h full text (fault.EmptyLine row) (ended, more, at, names) =
    let none : at.fields ≡ [] = no-fields at.fields at.at_column in
    to-field d law h full text row 1 _ at
    ∙ (ap (λ (x : List Field). parse d h full (record { lines = at.lines; fields = x; part = nothing }) (end_text ended ++ more)) none
    ∙ (empty-line d h full at.lines ended more (lt-ltb 1 (names_of h at.lines) names) ∙ told-row (λ r. fault.EmptyLine r) row (first_row h + length at.lines) at.at_row))
faulty d law h full text (fault.CutShort row) (whole, column, last, lawful, at, n) =
    let plain : field_text last ++ [] ≡ field_text last = append-nil (field_text last) in
    to-field d law h full text row column _ at
    ∙ (ap (λ (x : List ℕ). parse d h full (record { lines = at.lines; fields = at.fields; part = nothing }) x) (sym plain)
    ∙ (field-run d h full at.lines at.fields last [] lawful ∙ (cut-short d h full at.lines at.fields last n whole ∙ told-row (λ r. fault.CutShort r) row (first_row h + length at.lines) at.at_row)))

ok-same : {T E : Type 0} (a b : T) → ◌≡◌ {A = Result T E} (Ok a) (Ok b) → a ≡ b
ok-same a b e = cc

-- a text has one derivation
pub one : (d : ℕ) (law : Lawful d) (h : HeaderPlace) (full : Bool) (text : List ℕ) (file other : File) → Derives d h full text file → Derives d h full text other → file ≡ other
one d law h full text file other derives e = ok-same {E = StrictFault} file other (sym (derived d law h full text file derives) ∙ derived d law h full text other e)
