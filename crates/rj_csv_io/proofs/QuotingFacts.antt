-- What is written of a text with `""` in each empty line.
use Rattle.std.specs.Prelude.{ℕ, ◌+◌, ◌==◌, ◌≡◌, ◌<◌, ◌≤◌, ◌&&◌, nat_lt, if◌then◌else◌, Bool, true, false, List, [], ◌∷◌, ◌++◌, length, map, drop, Some, None, Result, Ok, Err}
use Rattle.std.proofs.Common.{refl, sym, ap, subst, ◌∙◌, get_or, append_assoc}
use Rattle.std.proofs.lemmas.Bool.{eqb-true}
use Rattle.std.proofs.lemmas.List.{append-nil, map-append, at_drop_more, at_drop_all}
use Rattle.csv.specs.Reading.{strip_bom}
use Rattle.rj_csv_io.specs.Grammar.{Field, escaped, non-escaped, Line, LineEnd, LF, CRLF, File, dquote, cr, lf, doubled, field_text, fields_text, is_blank, end_text, lines_text, names_of, file_text, Derives}
use Rattle.rj_csv_io.specs.StrictReading.{begins_empty, quoted, quoted_line}
use Rattle.rj_csv_io.specs.Internal.StrictSteps.{initial_standing, step_of}
use Rattle.rj_csv_io.specs.declared.strict.header.HeaderPlace.{HeaderPlace}
use Rattle.rj_csv_io.specs.declared.strict.header.HeaderPlace.TheVariants.{First}
use Rattle.rj_csv_io.specs.declared.strict.fault.StrictFault.{StrictFault}
use Rattle.rj_csv_io.specs.declared.strict.fault.StrictFault.TheVariants as fault
use Rattle.rj_csv_io.specs.declared.strict.standing.Place.{Place}
use Rattle.rj_csv_io.specs.declared.strict.standing.Place.TheVariants as place
use Rattle.rj_csv_io.specs.declared.strict.standing.Standing.{Standing}
use Rattle.rj_csv_io.proofs.Lawful.{Lawful}
use Rattle.rj_csv_io.proofs.Parsing.{Part, within, opened, returned, Taken, row_of, record_with, with_line, end_line, end_within, take_delimiter, take_lf, take_cr, take_dquote, take_textdata, take_byte, take_end, taken_then, parse, untaken}
use Rattle.rj_csv_io.proofs.Seen.{all_seen, initial-seen, byte-seen, opens, place_of, seen}
use Rattle.rj_csv_io.proofs.Sound.{nothing-doubled}
use Rattle.rj_csv_io.proofs.StrictTexts.{doubled-dquote, doubled-plain, fields-more, lines-more}
use Rattle.rj_csv_io.proofs.Complete.{derived}
use Rattle.rj_csv_io.proofs.HeaderFacts.{same-file}

-- the last field of a line, as it is written
abbrev quoted_last : List Field → Field → Field
quoted_last [] (non-escaped []) = escaped []
quoted_last [] (non-escaped (b ∷ bytes)) = non-escaped (b ∷ bytes)
quoted_last [] (escaped bytes) = escaped bytes
quoted_last (g ∷ fields) f = f

abbrev quoted_part : List Field → Part → List ℕ → List ℕ
quoted_part fields (within f) rest = field_text f ++ rest
quoted_part fields (opened bytes) rest = dquote ∷ (doubled bytes ++ rest)
quoted_part fields (returned f) rest = field_text (quoted_last fields f) ++ cr ∷ rest

abbrev lines_quoted : ℕ → List Line → List ℕ
lines_quoted d lines = lines_text d (map quoted_line lines)

-- what is written for what is taken of a text, and then what is written behind it
abbrev pub written : ℕ → Taken → List ℕ → List ℕ
written d t rest = lines_quoted d t.lines ++ (fields_text d t.fields ++ quoted_part t.fields t.part rest)

-- what is written for a byte
abbrev pub added : Place → ℕ → List ℕ → List ℕ
added p c rest = if begins_empty p c then dquote ∷ dquote ∷ c ∷ rest else c ∷ rest

other-byte : (p : Place) (c : ℕ) (rest : List ℕ) → (c == lf) ≡ false → (c == cr) ≡ false → added p c rest ≡ c ∷ rest
other-byte place.Start c rest n r = rw (n, r) refl
other-byte place.Fresh c rest n r = refl
other-byte place.Inside c rest n r = refl
other-byte place.Open c rest n r = refl
other-byte place.Closed c rest n r = refl
other-byte place.Blank c rest n r = refl
other-byte place.Return c rest n r = refl

-- written with a byte more: what is taken then
abbrev Writes : ℕ → Taken → ℕ → List ℕ → Result Taken StrictFault → Type 0
Writes d t c rest (Ok t2) = written d t (added (place_of t.fields t.part) c rest) ≡ written d t2 rest
Writes d t c rest (Err e) = Unit {0}

two-quotes : (rest : List ℕ) → ◌≡◌ {A = List ℕ} (dquote ∷ dquote ∷ rest) (field_text (escaped []) ++ rest)
unfolding doubled
two-quotes rest = refl

module _ (d : ℕ) (lines : List Line) (fields : List Field) where
  -- what stands behind the fields
  behind : (x y : List ℕ) → x ≡ y → lines_quoted d lines ++ (fields_text d fields ++ x) ≡ lines_quoted d lines ++ (fields_text d fields ++ y)
  behind x y e = ap (λ (z : List ℕ). lines_quoted d lines ++ (fields_text d fields ++ z)) e

-- the end of a field and of its line
ended-part : (fields : List Field) (f : Field) (c : ℕ) (rest : List ℕ) → begins_empty place.Start c ≡ true
    → field_text f ++ added (place_of fields (within f)) c rest ≡ field_text (quoted_last fields f) ++ c ∷ rest
ended-part [] (non-escaped []) c rest e = rw e (two-quotes (c ∷ rest))
ended-part [] (non-escaped (b ∷ bytes)) c rest e = refl
ended-part [] (escaped bytes) c rest e = refl
ended-part (g ∷ fields) (non-escaped []) c rest e = refl
ended-part (g ∷ fields) (non-escaped (b ∷ bytes)) c rest e = refl
ended-part (g ∷ fields) (escaped bytes) c rest e = refl

returned-lf : (fields : List Field) (f : Field) (rest : List ℕ) → added (place_of fields (returned f)) lf rest ≡ lf ∷ rest
returned-lf [] (non-escaped []) rest = refl
returned-lf [] (non-escaped (b ∷ bytes)) rest = refl
returned-lf [] (escaped bytes) rest = refl
returned-lf (g ∷ fields) (non-escaped []) rest = refl
returned-lf (g ∷ fields) (non-escaped (b ∷ bytes)) rest = refl
returned-lf (g ∷ fields) (escaped bytes) rest = refl

abbrev line_of : List Field → Field → LineEnd → Line
line_of fields f e = record { fields = record { before = fields; last = f }; ended = e }

-- a line as it is written
line-quoted : (d : ℕ) (fields : List Field) (f : Field) (e : LineEnd) (rest : List ℕ)
    → fields_text d fields ++ (field_text (quoted_last fields f) ++ (end_text e ++ rest))
    ≡ fields_text d (quoted_line (line_of fields f e)).fields.before ++ (field_text (quoted_line (line_of fields f e)).fields.last ++ (end_text (quoted_line (line_of fields f e)).ended ++ rest))
line-quoted d [] (non-escaped []) e rest = refl
line-quoted d [] (non-escaped (b ∷ bytes)) e rest = refl
line-quoted d [] (escaped bytes) e rest = refl
line-quoted d (g ∷ fields) f e rest = refl

line-written : (d : ℕ) (lines : List Line) (fields : List Field) (f : Field) (e : LineEnd) (rest : List ℕ)
    → lines_quoted d lines ++ (fields_text d fields ++ (field_text (quoted_last fields f) ++ (end_text e ++ rest))) ≡ lines_quoted d (lines ++ line_of fields f e ∷ []) ++ rest
line-written d lines fields f e rest =
    ap (λ (x : List ℕ). lines_quoted d lines ++ x) (line-quoted d fields f e rest)
    ∙ (sym (lines-more d (map quoted_line lines) (quoted_line (line_of fields f e)) rest)
    ∙ ap (λ (x : List Line). lines_text d x ++ rest) (sym (map-append quoted_line lines (line_of fields f e ∷ []))))

module _ (d : ℕ) (h : HeaderPlace) (lines : List Line) (fields : List Field) (rest : List ℕ) where
  line-writes : (p : Part) (c : ℕ) (f : Field) (e : LineEnd)
      → written d (record { lines = lines; fields = fields; part = p }) (added (place_of fields p) c rest)
      ≡ lines_quoted d lines ++ (fields_text d fields ++ (field_text (quoted_last fields f) ++ (end_text e ++ rest)))
      → Writes d (record { lines = lines; fields = fields; part = p }) c rest (end_line h (record { lines = lines; fields = fields; part = p }) f e)
  line-writes p c f e same = go (is_blank (record { before = fields; last = f }) && nat_lt 1 (names_of h lines))
    where
      t : Taken
      t = record { lines = lines; fields = fields; part = p }

      go : (b : Bool) → Writes d t c rest (if b then Err (fault.EmptyLine (row_of h t)) else Ok (with_line t f e))
      go true = tt
      go false = same ∙ line-written d lines fields f e rest

  opened-writes : (bytes : List ℕ) (c : ℕ) → (c == dquote) ≡ false
      → written d (record { lines = lines; fields = fields; part = opened bytes }) (added (place_of fields (opened bytes)) c rest)
      ≡ written d (record { lines = lines; fields = fields; part = opened (bytes ++ c ∷ []) }) rest
  opened-writes bytes c q =
      behind d lines fields _ _ (ap (λ (p : Place). dquote ∷ (doubled bytes ++ added p c rest)) (opens fields bytes) ∙ ap (λ (x : List ℕ). dquote ∷ x) (sym (doubled-plain bytes c rest q)))

  delimiter-writes : (p : Part) → (d == lf) ≡ false → (d == cr) ≡ false → (d == dquote) ≡ false → Writes d (record { lines = lines; fields = fields; part = p }) d rest (take_delimiter h (record { lines = lines; fields = fields; part = p }) p d)
  delimiter-writes (within f) n r q =
      behind d lines fields _ _ (ap (λ (x : List ℕ). field_text f ++ x) (other-byte (place_of fields (within f)) d rest n r))
      ∙ ap (λ (x : List ℕ). lines_quoted d lines ++ x) (sym (fields-more d fields f rest))
  delimiter-writes (opened bytes) n r q = opened-writes bytes d q
  delimiter-writes (returned f) n r q = tt

  lf-writes : (p : Part) → Writes d (record { lines = lines; fields = fields; part = p }) lf rest (take_lf h (record { lines = lines; fields = fields; part = p }) p lf)
  lf-writes (within f) = line-writes (within f) lf f LF (behind d lines fields _ _ (ended-part fields f lf rest refl))
  lf-writes (opened bytes) = opened-writes bytes lf refl
  lf-writes (returned f) =
      line-writes (returned f) lf f CRLF (behind d lines fields _ _ (ap (λ (x : List ℕ). field_text (quoted_last fields f) ++ cr ∷ x) (returned-lf fields f rest)))

  cr-writes : (p : Part) → Writes d (record { lines = lines; fields = fields; part = p }) cr rest (take_cr h (record { lines = lines; fields = fields; part = p }) p cr)
  cr-writes (within f) = behind d lines fields _ _ (ended-part fields f cr rest refl)
  cr-writes (opened bytes) = opened-writes bytes cr refl
  cr-writes (returned f) = tt

  dquote-writes : (p : Part) → Writes d (record { lines = lines; fields = fields; part = p }) dquote rest (take_dquote h (record { lines = lines; fields = fields; part = p }) p dquote)
  dquote-writes (within (non-escaped [])) =
      behind d lines fields _ _ (other-byte (place_of fields (within (non-escaped []))) dquote rest refl refl ∙ nothing-doubled rest)
  dquote-writes (within (non-escaped (b ∷ bytes))) = tt
  dquote-writes (within (escaped bytes)) =
      behind d lines fields _ _ (ap (λ (x : List ℕ). field_text (escaped bytes) ++ x) (other-byte (place_of fields (within (escaped bytes))) dquote rest refl refl)
      ∙ ap (λ (x : List ℕ). dquote ∷ x) (sym (doubled-dquote bytes rest)))
  dquote-writes (opened bytes) =
      behind d lines fields _ _ (ap (λ (p : Place). dquote ∷ (doubled bytes ++ added p dquote rest)) (opens fields bytes) ∙ ap (λ (x : List ℕ). dquote ∷ x) (sym (append_assoc (doubled bytes) (dquote ∷ []) rest)))
  dquote-writes (returned f) = tt

  textdata-writes : (p : Part) (c : ℕ) → (c == lf) ≡ false → (c == cr) ≡ false → (c == dquote) ≡ false
      → Writes d (record { lines = lines; fields = fields; part = p }) c rest (take_textdata h (record { lines = lines; fields = fields; part = p }) p c)
  textdata-writes (within (non-escaped bytes)) c n r q =
      behind d lines fields _ _ (ap (λ (x : List ℕ). bytes ++ x) (other-byte (place_of fields (within (non-escaped bytes))) c rest n r) ∙ sym (append_assoc bytes (c ∷ []) rest))
  textdata-writes (within (escaped bytes)) c n r q = tt
  textdata-writes (opened bytes) c n r q = opened-writes bytes c q
  textdata-writes (returned f) c n r q = tt

module _ (d : ℕ) (h : HeaderPlace) (t : Taken) (rest : List ℕ) where
  writes-if : (c : ℕ) (b : Bool) (x y : Result Taken StrictFault) → (b ≡ true → Writes d t c rest x) → (b ≡ false → Writes d t c rest y) → Writes d t c rest (if b then x else y)
  writes-if c true x y p q = p refl
  writes-if c false x y p q = q refl

  byte-writes : (c : ℕ) → Writes d t c rest (take_byte d h t c)
  byte-writes c =
      writes-if c (c == lf) _ _ (λ n. subst (λ (x : ℕ). Writes d t x rest (take_lf h t t.part x)) (sym (eqb-true c lf n)) (lf-writes d h t.lines t.fields rest t.part))
      (λ n. writes-if c (c == cr) _ _ (λ r. subst (λ (x : ℕ). Writes d t x rest (take_cr h t t.part x)) (sym (eqb-true c cr r)) (cr-writes d h t.lines t.fields rest t.part))
      (λ r. writes-if c (c == dquote) _ _ (λ q. subst (λ (x : ℕ). Writes d t x rest (take_dquote h t t.part x)) (sym (eqb-true c dquote q)) (dquote-writes d h t.lines t.fields rest t.part))
      (λ q. writes-if c (c == d) _ _
      (λ k. subst (λ (x : ℕ). (x == lf) ≡ false → (x == cr) ≡ false → (x == dquote) ≡ false → Writes d t x rest (take_delimiter h t t.part x)) (sym (eqb-true c d k))
      (delimiter-writes d h t.lines t.fields rest t.part) n r q)
      (λ k. textdata-writes d h t.lines t.fields rest t.part c n r q))))

abbrev mark : List ℕ
mark = 239 ∷ 187 ∷ 191 ∷ []

-- where the walk stands in a text that is derived, and what is written so far
pub record Quotes (d : ℕ) (text : List ℕ) (at : ℕ) (s : Standing) (out : List ℕ) : Type 0 where
  pub full : Bool
  pub file : File
  pub derives : Derives d First full text file
  pub taken : Taken
  pub sees : s ≡ seen First taken
  pub parsed : parse d First full taken (drop at text) ≡ Ok file
  pub wrote : (rest : List ℕ) → out ++ rest ≡ mark ++ written d taken rest

pub quotes-initial : (d : ℕ) (law : Lawful d) (text : List ℕ) (s : Standing) (out : List ℕ) → (full : Bool) × (file : File) × Derives d First full text file → s ≡ initial_standing First → out ≡ mark → Quotes d text 0 s out
quotes-initial d law text s out has is empty = record {
  full = has.0;
  file = has.1;
  derives = has.2;
  taken = untaken;
  sees = is ∙ initial-seen First;
  parsed = derived d law First has.0 text has.1 has.2;
  wrote = λ rest. ap (λ (x : List ℕ). x ++ rest) empty;
}

parse-byte : (d : ℕ) (h : HeaderPlace) (full : Bool) (t : Taken) (c : ℕ) (text : List ℕ) → parse d h full t (c ∷ text) ≡ taken_then (take_byte d h t c) (λ t2. parse d h full t2 text)
unfolding parse
parse-byte d h full t c text = refl

parse-end : (d : ℕ) (h : HeaderPlace) (full : Bool) (t : Taken) → parse d h full t [] ≡ take_end h full t t.part
unfolding parse
parse-end d h full t = refl

ok-standing : (s t : Standing) → ◌≡◌ {A = Result Standing StrictFault} (Ok s) (Ok t) → s ≡ t
ok-standing s t e = cc

-- what stands behind the text so far, by whether quotes were written first
pub wrote-quotes : (p : Place) (c : ℕ) (out mid out2 rest : List ℕ) (b : Bool) → b ≡ begins_empty p c → b ≡ true → mid ≡ out ++ dquote ∷ dquote ∷ [] → out2 ≡ mid ++ c ∷ []
    → out2 ++ rest ≡ out ++ added p c rest
wrote-quotes p c out mid out2 rest b is with-quotes m o =
    ap (λ (x : List ℕ). x ++ rest) (o ∙ ap (λ (x : List ℕ). x ++ c ∷ []) m)
    ∙ (ap (λ (x : List ℕ). x ++ rest) (append_assoc out (dquote ∷ dquote ∷ []) (c ∷ []))
    ∙ (append_assoc out (dquote ∷ dquote ∷ c ∷ []) rest
    ∙ ap (λ (x : Bool). out ++ (if x then dquote ∷ dquote ∷ c ∷ rest else c ∷ rest)) (sym with-quotes ∙ is)))

pub wrote-byte : (p : Place) (c : ℕ) (out mid out2 rest : List ℕ) (b : Bool) → b ≡ begins_empty p c → b ≡ false → mid ≡ out → out2 ≡ mid ++ c ∷ []
    → out2 ++ rest ≡ out ++ added p c rest
wrote-byte p c out mid out2 rest b is no-quotes m o =
    ap (λ (x : List ℕ). x ++ rest) (o ∙ ap (λ (x : List ℕ). x ++ c ∷ []) m)
    ∙ (append_assoc out (c ∷ []) rest
    ∙ ap (λ (x : Bool). out ++ (if x then dquote ∷ dquote ∷ c ∷ rest else c ∷ rest)) (sym no-quotes ∙ is))

module _ (d : ℕ) (text : List ℕ) (at : ℕ) (s : Standing) (out : List ℕ) (q : Quotes d text at s out) where
  here-byte : at < length text → drop at text ≡ get_or text at 0 ∷ drop (at + 1) text
  here-byte lt = at_drop_more (λ (x : List ℕ). x) text at 0 lt

  taken-byte : at < length text → taken_then (take_byte d First q.taken (get_or text at 0)) (λ t2. parse d First q.full t2 (drop (at + 1) text)) ≡ Ok q.file
  taken-byte lt =
      sym (parse-byte d First q.full q.taken (get_or text at 0) (drop (at + 1) text))
      ∙ (ap (λ (x : List ℕ). parse d First q.full q.taken x) (sym (here-byte lt)) ∙ q.parsed)

  sees-byte : (c : ℕ) → step_of d s c ≡ all_seen First (take_byte d First q.taken c)
  sees-byte c = ap (λ (x : Standing). step_of d x c) q.sees ∙ byte-seen d First q.taken c

  quotes-next : (s2 : Standing) (c : ℕ) (out2 : List ℕ) (r : Result Taken StrictFault) → Ok s2 ≡ all_seen First r
      → taken_then r (λ t2. parse d First q.full t2 (drop (at + 1) text)) ≡ Ok q.file → ((rest : List ℕ) → Writes d q.taken c rest r)
      → ((rest : List ℕ) → out2 ++ rest ≡ out ++ added s.place c rest) → Quotes d text (at + 1) s2 out2
  quotes-next s2 c out2 (Ok t2) e p w o = record {
    full = q.full;
    file = q.file;
    derives = q.derives;
    taken = t2;
    sees = ok-standing s2 (seen First t2) e;
    parsed = p;
    wrote = λ rest.
        o rest ∙ (q.wrote (added s.place c rest)
        ∙ (ap (λ (x : Standing). mark ++ written d q.taken (added x.place c rest)) q.sees
        ∙ ap (λ (x : List ℕ). mark ++ x) (w rest)));
  }
  quotes-next s2 c out2 (Err x) e p w o = cc e

  -- a byte more
  pub quotes-more : (s2 : Standing) (out2 : List ℕ) → at < length text → Ok s2 ≡ step_of d s (get_or text at 0)
      → ((rest : List ℕ) → out2 ++ rest ≡ out ++ added s.place (get_or text at 0) rest) → Quotes d text (at + 1) s2 out2
  quotes-more s2 out2 lt is o =
      quotes-next s2 (get_or text at 0) out2 (take_byte d First q.taken (get_or text at 0)) (is ∙ sees-byte (get_or text at 0)) (taken-byte lt)
      (λ rest. byte-writes d First q.taken rest (get_or text at 0)) o

  no-err : (e : StrictFault) (r : Result Taken StrictFault) → Err e ≡ all_seen First r → taken_then r (λ t2. parse d First q.full t2 (drop (at + 1) text)) ≡ Ok q.file → ⊥
  no-err e (Ok t2) told p = cc told
  no-err e (Err x) told p = cc p

  -- no byte has a fault
  pub never : (e : StrictFault) → at < length text → Err e ≡ step_of d s (get_or text at 0) → ⊥
  never e lt is = no-err e (take_byte d First q.taken (get_or text at 0)) (is ∙ sees-byte (get_or text at 0)) (taken-byte lt)

end-written-within : (d : ℕ) (full : Bool) (t : Taken) (f : Field) (file : File) → end_within First full t f ≡ Ok file
    → lines_quoted d t.lines ++ (fields_text d t.fields ++ (field_text f ++ [])) ≡ file_text d (quoted file)
end-written-within d full t f file e = go (is_blank (record_with t f)) refl full e
  where
    nothing-left : is_blank (record_with t f) ≡ true → fields_text d t.fields ++ (field_text f ++ []) ≡ []
    nothing-left b = left t.fields f b
      where
        left : (fields : List Field) (g : Field) → is_blank (record { before = fields; last = g }) ≡ true → fields_text d fields ++ (field_text g ++ []) ≡ []
        left [] (non-escaped []) b2 = refl
        left [] (non-escaped (x ∷ bytes)) b2 = cc b2
        left [] (escaped bytes) b2 = cc b2
        left (k ∷ fields) g b2 = cc b2

    go : (b : Bool) → is_blank (record_with t f) ≡ b → (full2 : Bool)
        → (if b then Ok (record { lines = t.lines; rest = None }) else if full2 then Err (fault.CutShort (row_of First t)) else Ok (record { lines = t.lines; rest = Some (record_with t f) })) ≡ Ok file
        → lines_quoted d t.lines ++ (fields_text d t.fields ++ (field_text f ++ [])) ≡ file_text d (quoted file)
    go true b full2 is =
        let same : record { lines = t.lines; rest = None } ≡ file = cc is in
        ap (λ (x : List ℕ). lines_quoted d t.lines ++ x) (nothing-left b) ∙ ap (λ (x : File). file_text d (quoted x)) same
    go false b true is = cc is
    go false b false is =
        let same : record { lines = t.lines; rest = Some (record_with t f) } ≡ file = cc is in
        ap (λ (x : List ℕ). lines_quoted d t.lines ++ (fields_text d t.fields ++ x)) (append-nil (field_text f)) ∙ ap (λ (x : File). file_text d (quoted x)) same

end-written : (d : ℕ) (full : Bool) (t : Taken) (p : Part) (file : File) → take_end First full t p ≡ Ok file
    → lines_quoted d t.lines ++ (fields_text d t.fields ++ quoted_part t.fields p []) ≡ file_text d (quoted file)
end-written d full t (within f) file e = end-written-within d full t f file e
end-written d full t (opened bytes) file e = cc e
end-written d full t (returned f) file e = cc e

-- the mark is left out
marked : (text : List ℕ) → strip_bom (mark ++ text) ≡ text
unfolding strip_bom
marked text = refl

-- at the end the whole file is written
pub quotes-end : (d : ℕ) (law : Lawful d) (text : List ℕ) (at : ℕ) (s : Standing) (out : List ℕ) → Quotes d text at s out → length text ≤ at
    → (full : Bool) (file : File) → Derives d First full text file → strip_bom out ≡ file_text d (quoted file)
quotes-end d law text at s out q all full file derives =
    let told : take_end First q.full q.taken q.taken.part ≡ Ok q.file = sym (parse-end d First q.full q.taken) ∙ (sym (at_drop_all (parse d First q.full q.taken) text at all) ∙ q.parsed) in
    let whole : out ≡ mark ++ written d q.taken [] = sym (append-nil out) ∙ q.wrote [] in
    ap (λ (x : List ℕ). strip_bom x) whole
    ∙ (marked (written d q.taken []) ∙ (end-written d q.full q.taken q.taken.part q.file told
    ∙ ap (λ (x : File). file_text d (quoted x)) (same-file d law First q.full full text q.file file q.derives derives)))
