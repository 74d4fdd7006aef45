-- What is taken apart is derived, or has the fault.
use Rattle.std.specs.Prelude.{ℕ, ◌+◌, ◌==◌, ◌≡◌, ◌&&◌, not, nat_lt, if◌then◌else◌, Bool, true, false, List, [], ◌∷◌, ◌++◌, length, Some, None, Result, Ok, Err}
use Rattle.std.specs.List.{list_all}
use Rattle.std.proofs.Common.{refl, sym, ap, subst, ◌∙◌, append_assoc}
use Rattle.std.proofs.lemmas.List.{append-nil}
use Rattle.std.proofs.lemmas.Bool.{and_parts, and_from, eqb-true, ltb-true, not_from_false}
use Rattle.rj_csv_io.specs.Grammar.{Field, escaped, non-escaped, LineEnd, LF, CRLF, File, dquote, cr, lf, is_textdata, doubled, field_text, is_field, fields_text, is_record, is_blank, end_text, is_line, lines_text, names_of, Derives}
use Rattle.rj_csv_io.specs.StrictFaults.{FieldAt, HasFault, starts_with_lf}
use Rattle.rj_csv_io.specs.declared.strict.header.HeaderPlace.{HeaderPlace}
use Rattle.rj_csv_io.specs.declared.strict.fault.StrictFault.{StrictFault}
use Rattle.rj_csv_io.specs.declared.strict.fault.StrictFault.TheVariants as fault
use Rattle.rj_csv_io.proofs.Parsing.{Part, within, opened, returned, Taken, part_text, taken_text, row_of, column_of, grown, record_with, with_line, end_line, take_delimiter, take_lf, take_cr, take_dquote, take_textdata, take_byte, take_end, end_within, taken_then, parse, untaken}
use Rattle.rj_csv_io.proofs.StrictTexts.{all-more, fields-more, lines-more, doubled-plain, doubled-dquote, is-textdata, blank-is, all-lines-more}

abbrev pub is_part : ℕ → Part → Bool
is_part d (within f) = is_field d f
is_part d (opened bytes) = true
is_part d (returned f) = is_field d f

-- what is taken is lawful
pub record IsTaken (d : ℕ) (h : HeaderPlace) (t : Taken) : Type 0 where
  pub lines : list_all (is_line d (names_of h t.lines)) t.lines ≡ true
  pub fields : list_all (is_field d) t.fields ≡ true
  pub part : is_part d t.part ≡ true

-- what a byte gives is lawful with what is left of the text, or the text's fault
abbrev pub Good : ℕ → HeaderPlace → Bool → List ℕ → List ℕ → Result Taken StrictFault → Type 0
Good d h full whole rest (Ok t) = IsTaken d h t × (whole ≡ taken_text d t rest)
Good d h full whole rest (Err e) = HasFault d h full whole e

abbrev pub GoodEnd : ℕ → HeaderPlace → Bool → List ℕ → Result File StrictFault → Type 0
GoodEnd d h full whole (Ok file) = Derives d h full whole file
GoodEnd d h full whole (Err e) = HasFault d h full whole e

pub nothing-doubled : (rest : List ℕ) → ◌≡◌ {A = List ℕ} (dquote ∷ rest) (dquote ∷ (doubled [] ++ rest))
unfolding doubled
nothing-doubled rest = refl

module _ (d : ℕ) (h : HeaderPlace) (full : Bool) (whole rest : List ℕ) (t : Taken) (lawful : IsTaken d h t) where
  field-at : (left : List ℕ) → whole ≡ lines_text d t.lines ++ (fields_text d t.fields ++ left) → FieldAt d h whole (row_of h t) (column_of t) left
  field-at left e = record {
    lines = t.lines;
    fields = t.fields;
    spelled = e;
    are_lines = lawful.lines;
    are_fields = lawful.fields;
    at_row = refl;
    at_column = refl;
  }

  same-left : (left other : List ℕ) → left ≡ other → whole ≡ lines_text d t.lines ++ (fields_text d t.fields ++ left) → whole ≡ lines_text d t.lines ++ (fields_text d t.fields ++ other)
  same-left left other e f = f ∙ ap (λ (x : List ℕ). lines_text d t.lines ++ (fields_text d t.fields ++ x)) e

  grown-good : (p : Part) → is_part d p ≡ true → whole ≡ lines_text d t.lines ++ (fields_text d t.fields ++ part_text p rest) → Good d h full whole rest (Ok (grown t p))
  grown-good p e f = (record { lines = lawful.lines; fields = lawful.fields; part = e }, f)

  bare-good : (f : Field) (more : List ℕ) → is_field d f ≡ true → starts_with_lf more ≡ false → whole ≡ lines_text d t.lines ++ (fields_text d t.fields ++ (field_text f ++ cr ∷ more))
      → HasFault d h full whole (fault.BareReturn (row_of h t) (column_of t))
  bare-good f more e n s = (f, more, e, n, field-at (field_text f ++ cr ∷ more) s)

  record-good : (f : Field) → is_field d f ≡ true → is_record d (record_with t f) ≡ true
  record-good f e = and_from (list_all (is_field d) t.fields) (is_field d f) lawful.fields e

  line-good : (f : Field) (e : LineEnd) → is_field d f ≡ true → whole ≡ lines_text d t.lines ++ (fields_text d t.fields ++ (field_text f ++ (end_text e ++ rest)))
      → Good d h full whole rest (end_line h t f e)
  unfolding field-at
  line-good f e ok s = go (is_blank (record_with t f) && nat_lt 1 (names_of h t.lines)) refl
    where
      empty : (is_blank (record_with t f) && nat_lt 1 (names_of h t.lines)) ≡ true → HasFault d h full whole (fault.EmptyLine (row_of h t))
      empty b =
          let parts = and_parts (is_blank (record_with t f)) (nat_lt 1 (names_of h t.lines)) b in
          let none = blank-is t.fields f parts.0 in
          let at = field-at (end_text e ++ rest) (s ∙ ap (λ (g : Field). lines_text d t.lines ++ (fields_text d t.fields ++ (field_text g ++ (end_text e ++ rest)))) none.no-bytes) in
          let first : column_of t ≡ 1 = ap (λ (g : List Field). length g + 1) none.no-fields in (
            e,
            rest,
            record {
              lines = t.lines;
              fields = t.fields;
              spelled = at.spelled;
              are_lines = lawful.lines;
              are_fields = lawful.fields;
              at_row = refl;
              at_column = sym first;
            },
            ltb-true 1 (names_of h t.lines) parts.1,
          )

      go : (b : Bool) → (is_blank (record_with t f) && nat_lt 1 (names_of h t.lines)) ≡ b
          → Good d h full whole rest (if b then Err (fault.EmptyLine (row_of h t)) else Ok (with_line t f e))
      go true b = empty b
      go false b = (
        record { lines = all-lines-more d h t.lines (record { fields = record_with t f; ended = e }) lawful.lines (record-good f ok) b; fields = refl; part = refl },
        s ∙ sym (lines-more d t.lines (record { fields = record_with t f; ended = e }) rest),
      )

  -- between quotes
  opened-good : (bytes : List ℕ) (c : ℕ) → (c == dquote) ≡ false → whole ≡ lines_text d t.lines ++ (fields_text d t.fields ++ part_text (opened bytes) (c ∷ rest))
      → Good d h full whole rest (Ok (grown t (opened (bytes ++ c ∷ []))))
  opened-good bytes c e s =
      grown-good (opened (bytes ++ c ∷ [])) refl (same-left (dquote ∷ (doubled bytes ++ c ∷ rest)) (dquote ∷ (doubled (bytes ++ c ∷ []) ++ rest))
      (ap (λ (x : List ℕ). dquote ∷ x) (sym (doubled-plain bytes c rest e))) s)

  delimiter-good : (p : Part) → (d == lf) ≡ false → (d == dquote) ≡ false → is_part d p ≡ true → whole ≡ lines_text d t.lines ++ (fields_text d t.fields ++ part_text p (d ∷ rest)) → Good d h full whole rest (take_delimiter h t p d)
  delimiter-good (within f) n q e s = (
    record { lines = lawful.lines; fields = all-more (is_field d) t.fields f lawful.fields e; part = refl },
    s ∙ ap (λ (x : List ℕ). lines_text d t.lines ++ x) (sym (fields-more d t.fields f rest)),
  )
  delimiter-good (opened bytes) n q e s = opened-good bytes d q s
  delimiter-good (returned f) n q e s = bare-good f (d ∷ rest) e n s

  lf-good : (p : Part) → is_part d p ≡ true → whole ≡ lines_text d t.lines ++ (fields_text d t.fields ++ part_text p (lf ∷ rest)) → Good d h full whole rest (take_lf h t p lf)
  lf-good (within f) e s = line-good f LF e s
  lf-good (opened bytes) e s = opened-good bytes lf refl s
  lf-good (returned f) e s = line-good f CRLF e s

  cr-good : (p : Part) → is_part d p ≡ true → whole ≡ lines_text d t.lines ++ (fields_text d t.fields ++ part_text p (cr ∷ rest)) → Good d h full whole rest (take_cr h t p cr)
  cr-good (within f) e s = grown-good (returned f) e s
  cr-good (opened bytes) e s = opened-good bytes cr refl s
  cr-good (returned f) e s = bare-good f (cr ∷ rest) e refl s

  dquote-good : (p : Part) → is_part d p ≡ true → whole ≡ lines_text d t.lines ++ (fields_text d t.fields ++ part_text p (dquote ∷ rest)) → Good d h full whole rest (take_dquote h t p dquote)
  dquote-good (within (non-escaped [])) e s = grown-good (opened []) refl (same-left (dquote ∷ rest) (dquote ∷ (doubled [] ++ rest)) (nothing-doubled rest) s)
  dquote-good (within (non-escaped (b ∷ bytes))) e s = (b, bytes, rest, e, field-at ((b ∷ bytes) ++ dquote ∷ rest) s)
  dquote-good (within (escaped bytes)) e s =
      grown-good (opened (bytes ++ dquote ∷ [])) refl (same-left (dquote ∷ ((doubled bytes ++ dquote ∷ []) ++ dquote ∷ rest)) (dquote ∷ (doubled (bytes ++ dquote ∷ []) ++ rest))
      (ap (λ (x : List ℕ). dquote ∷ x) (sym (doubled-dquote bytes rest))) s)
  dquote-good (opened bytes) e s =
      grown-good (within (escaped bytes)) refl (same-left (dquote ∷ (doubled bytes ++ dquote ∷ rest)) (dquote ∷ ((doubled bytes ++ dquote ∷ []) ++ rest))
      (ap (λ (x : List ℕ). dquote ∷ x) (sym (append_assoc (doubled bytes) (dquote ∷ []) rest))) s)
  dquote-good (returned f) e s = bare-good f (dquote ∷ rest) e refl s

  textdata-good : (p : Part) (c : ℕ) → (c == d) ≡ false → (c == lf) ≡ false → (c == cr) ≡ false → (c == dquote) ≡ false → is_part d p ≡ true
      → whole ≡ lines_text d t.lines ++ (fields_text d t.fields ++ part_text p (c ∷ rest)) → Good d h full whole rest (take_textdata h t p c)
  textdata-good (within (non-escaped bytes)) c k n r q e s =
      grown-good (within (non-escaped (bytes ++ c ∷ []))) (all-more (is_textdata d) bytes c e (is-textdata d c k q r n))
      (same-left (bytes ++ c ∷ rest) ((bytes ++ c ∷ []) ++ rest) (sym (append_assoc bytes (c ∷ []) rest)) s)
  textdata-good (within (escaped bytes)) c k n r q e s = (bytes, c, rest, is-textdata d c k q r n, field-at (field_text (escaped bytes) ++ c ∷ rest) s)
  textdata-good (opened bytes) c k n r q e s = opened-good bytes c q s
  textdata-good (returned f) c k n r q e s = bare-good f (c ∷ rest) e n s

  good-if : (b : Bool) (x y : Result Taken StrictFault) → (b ≡ true → Good d h full whole rest x) → (b ≡ false → Good d h full whole rest y) → Good d h full whole rest (if b then x else y)
  good-if true x y p q = p refl
  good-if false x y p q = q refl

  pub byte-good : (c : ℕ) → whole ≡ taken_text d t (c ∷ rest) → Good d h full whole rest (take_byte d h t c)
  byte-good c s =
      good-if (c == lf) _ _ (λ n. subst (λ (x : ℕ). whole ≡ taken_text d t (x ∷ rest) → Good d h full whole rest (take_lf h t t.part x)) (sym (eqb-true c lf n)) (lf-good t.part lawful.part) s)
      (λ n. good-if (c == cr) _ _ (λ r. subst (λ (x : ℕ). whole ≡ taken_text d t (x ∷ rest) → Good d h full whole rest (take_cr h t t.part x)) (sym (eqb-true c cr r)) (cr-good t.part lawful.part) s)
      (λ r. good-if (c == dquote) _ _ (λ q. subst (λ (x : ℕ). whole ≡ taken_text d t (x ∷ rest) → Good d h full whole rest (take_dquote h t t.part x)) (sym (eqb-true c dquote q)) (dquote-good t.part lawful.part) s)
      (λ q. good-if (c == d) _ _
      (λ k. subst (λ (x : ℕ). (x == lf) ≡ false → (x == dquote) ≡ false → whole ≡ taken_text d t (x ∷ rest) → Good d h full whole rest (take_delimiter h t t.part x)) (sym (eqb-true c d k))
      (λ n2 q2. delimiter-good t.part n2 q2 lawful.part) n q s)
      (λ k. textdata-good t.part c k n r q lawful.part s))))

module _ (d : ℕ) (h : HeaderPlace) (full : Bool) (whole : List ℕ) (t : Taken) (lawful : IsTaken d h t) where
  within-end : (f : Field) → is_field d f ≡ true → whole ≡ lines_text d t.lines ++ (fields_text d t.fields ++ (field_text f ++ [])) → GoodEnd d h full whole (end_within h full t f)
  unfolding field-at
  within-end f e s = go (is_blank (record_with t f)) refl
    where
      plain : whole ≡ lines_text d t.lines ++ (fields_text d t.fields ++ field_text f)
      plain = same-left d h full whole [] t lawful (field_text f ++ []) (field_text f) (append-nil (field_text f)) s

      none : is_blank (record_with t f) ≡ true → whole ≡ lines_text d t.lines ++ []
      none b =
          let no = blank-is t.fields f b in
          plain ∙ (ap (λ (g : Field). lines_text d t.lines ++ (fields_text d t.fields ++ field_text g)) no.no-bytes
          ∙ ap (λ (fields : List Field). lines_text d t.lines ++ (fields_text d fields ++ [])) no.no-fields)

      last : is_blank (record_with t f) ≡ false → (b : Bool) → b ≡ full
          → GoodEnd d h full whole (if b then Err (fault.CutShort (row_of h t)) else Ok (record { lines = t.lines; rest = Some (record_with t f) }))
      last n true b = (sym b, column_of t, f, e, field-at d h full whole [] t lawful (field_text f) plain, n)
      last n false b = record {
        spelled = plain;
        lines = lawful.lines;
        rest = and_from (is_record d (record_with t f) && not (is_blank (record_with t f))) (not full)
            (and_from (is_record d (record_with t f)) (not (is_blank (record_with t f))) (record-good d h full whole [] t lawful f e) (not_from_false (is_blank (record_with t f)) n))
            (not_from_false full (sym b));
      }

      go : (b : Bool) → is_blank (record_with t f) ≡ b
          → GoodEnd d h full whole (if b then Ok (record { lines = t.lines; rest = None }) else if full then Err (fault.CutShort (row_of h t)) else Ok (record { lines = t.lines; rest = Some (record_with t f) }))
      go true b = record { spelled = none b; lines = lawful.lines; rest = refl }
      go false b = last b full refl

  end-good : (p : Part) → is_part d p ≡ true → whole ≡ lines_text d t.lines ++ (fields_text d t.fields ++ part_text p []) → GoodEnd d h full whole (take_end h full t p)
  end-good (within f) e s = within-end f e s
  end-good (opened bytes) e s = (
    bytes,
    field-at d h full whole [] t lawful (dquote ∷ doubled bytes)
        (same-left d h full whole [] t lawful (dquote ∷ (doubled bytes ++ [])) (dquote ∷ doubled bytes) (ap (λ (x : List ℕ). dquote ∷ x) (append-nil (doubled bytes))) s),
  )
  end-good (returned f) e s = bare-good d h full whole [] t lawful f [] e refl s

sound-from : (d : ℕ) (h : HeaderPlace) (full : Bool) (whole text : List ℕ) (t : Taken) → IsTaken d h t → whole ≡ taken_text d t text → GoodEnd d h full whole (parse d h full t text)
unfolding parse
sound-from d h full whole [] t lawful s = end-good d h full whole t lawful t.part lawful.part s
sound-from d h full whole (c ∷ text) t lawful s = go (take_byte d h t c) (byte-good d h full whole text t lawful c s) (λ t2 ok more. sound-from d h full whole text t2 ok more)
  where
    go : (r : Result Taken StrictFault) → Good d h full whole text r
        → ((t2 : Taken) → IsTaken d h t2 → whole ≡ taken_text d t2 text → GoodEnd d h full whole (parse d h full t2 text))
        → GoodEnd d h full whole (taken_then r (λ t2. parse d h full t2 text))
    go (Ok t2) g more = more t2 g.0 g.1
    go (Err e) g more = g

-- a text's derivation derives it, and its fault is one
pub sound : (d : ℕ) (h : HeaderPlace) (full : Bool) (text : List ℕ) → GoodEnd d h full text (parse d h full untaken text)
sound d h full text = sound-from d h full text text untaken (record { lines = refl; fields = refl; part = refl }) refl
