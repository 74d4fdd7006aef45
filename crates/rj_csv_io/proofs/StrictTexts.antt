-- The texts of derivations that grow, and what stays lawful.
use Rattle.std.specs.Prelude.{ℕ, ◌==◌, ◌≡◌, ◌&&◌, ◌||◌, not, nat_lt, nat_le, if◌then◌else◌, Bool, true, false, List, [], ◌∷◌, ◌++◌}
use Rattle.std.specs.List.{list_all}
use Rattle.std.proofs.Common.{refl, sym, ap, ◌∙◌, inl, inr, append_assoc}
use Rattle.std.proofs.lemmas.List.{append-nil}
use Rattle.std.proofs.lemmas.Bool.{cases_Bool, and_parts, and_from, and_cases, and_right, and_left, or_right, or_left, or_cases, or_parts, not-true, not_from_false, ltb-false, leb-true, le-leb, le-ltb, false≢true}
use Rattle.rj_csv_io.specs.Grammar.{Field, escaped, non-escaped, Record, Line, dquote, cr, lf, is_textdata, doubled, field_text, fields_text, record_text, is_record, is_blank, end_text, line_text, is_line, lines_text, names_of, width}
use Rattle.rj_csv_io.specs.declared.strict.header.HeaderPlace.{HeaderPlace}
use Rattle.rj_csv_io.specs.declared.strict.header.HeaderPlace.TheVariants.{First, Above}

-- one more that passes
pub all-more : {X : Type 0} (p : X → Bool) (xs : List X) (x : X) → list_all p xs ≡ true → p x ≡ true → list_all p (xs ++ x ∷ []) ≡ true
all-more p [] x e f = and_from (p x) true f refl
all-more p (y ∷ xs) x e f =
    let parts = and_parts (p y) (list_all p xs) e in
    and_from (p y) (list_all p (xs ++ x ∷ [])) parts.0 (all-more p xs x parts.1 f)

pub fields-more : (d : ℕ) (fields : List Field) (f : Field) (rest : List ℕ) → fields_text d (fields ++ f ∷ []) ++ rest ≡ fields_text d fields ++ (field_text f ++ d ∷ rest)
fields-more d [] f rest = rw (append-nil (field_text f ++ d ∷ [])) (append_assoc (field_text f) (d ∷ []) rest)
fields-more d (g ∷ fields) f rest =
    append_assoc (field_text g ++ d ∷ []) (fields_text d (fields ++ f ∷ [])) rest
    ∙ (ap (λ (t : List ℕ). (field_text g ++ d ∷ []) ++ t) (fields-more d fields f rest)
    ∙ sym (append_assoc (field_text g ++ d ∷ []) (fields_text d fields) (field_text f ++ d ∷ rest)))

pub line-whole : (d : ℕ) (l : Line) (rest : List ℕ) → line_text d l ++ rest ≡ fields_text d l.fields.before ++ (field_text l.fields.last ++ (end_text l.ended ++ rest))
line-whole d l rest =
    append_assoc (record_text d l.fields) (end_text l.ended) rest
    ∙ append_assoc (fields_text d l.fields.before) (field_text l.fields.last) (end_text l.ended ++ rest)

pub lines-more : (d : ℕ) (lines : List Line) (l : Line) (rest : List ℕ)
    → lines_text d (lines ++ l ∷ []) ++ rest ≡ lines_text d lines ++ (fields_text d l.fields.before ++ (field_text l.fields.last ++ (end_text l.ended ++ rest)))
lines-more d [] l rest = rw (append-nil (line_text d l)) (line-whole d l rest)
lines-more d (k ∷ lines) l rest =
    append_assoc (line_text d k) (lines_text d (lines ++ l ∷ [])) rest
    ∙ (ap (λ (t : List ℕ). line_text d k ++ t) (lines-more d lines l rest)
    ∙ sym (append_assoc (line_text d k) (lines_text d lines) (fields_text d l.fields.before ++ (field_text l.fields.last ++ (end_text l.ended ++ rest)))))

-- a byte more between quotes, and a quote
pub doubled-plain : (bytes : List ℕ) (c : ℕ) (rest : List ℕ) → (c == dquote) ≡ false → doubled (bytes ++ c ∷ []) ++ rest ≡ doubled bytes ++ c ∷ rest
unfolding doubled
doubled-plain [] c rest e = rw e refl
doubled-plain (b ∷ bytes) c rest e = go (b == dquote) (doubled-plain bytes c rest e)
  where
    go : (x : Bool) → doubled (bytes ++ c ∷ []) ++ rest ≡ doubled bytes ++ c ∷ rest → (if x then dquote ∷ dquote ∷ doubled (bytes ++ c ∷ []) else b ∷ doubled (bytes ++ c ∷ [])) ++ rest
        ≡ (if x then dquote ∷ dquote ∷ doubled bytes else b ∷ doubled bytes) ++ c ∷ rest
    go true same = ap (λ (t : List ℕ). dquote ∷ dquote ∷ t) same
    go false same = ap (λ (t : List ℕ). b ∷ t) same

pub doubled-dquote : (bytes rest : List ℕ) → doubled (bytes ++ dquote ∷ []) ++ rest ≡ (doubled bytes ++ dquote ∷ []) ++ dquote ∷ rest
unfolding doubled
doubled-dquote [] rest = refl
doubled-dquote (b ∷ bytes) rest = go (b == dquote) (doubled-dquote bytes rest)
  where
    go : (x : Bool) → doubled (bytes ++ dquote ∷ []) ++ rest ≡ (doubled bytes ++ dquote ∷ []) ++ dquote ∷ rest → (if x then dquote ∷ dquote ∷ doubled (bytes ++ dquote ∷ []) else b ∷ doubled (bytes ++ dquote ∷ [])) ++ rest
        ≡ ((if x then dquote ∷ dquote ∷ doubled bytes else b ∷ doubled bytes) ++ dquote ∷ []) ++ dquote ∷ rest
    go true same = ap (λ (t : List ℕ). dquote ∷ dquote ∷ t) same
    go false same = ap (λ (t : List ℕ). b ∷ t) same

-- the bytes of TEXTDATA
pub is-textdata : (d c : ℕ) → (c == d) ≡ false → (c == dquote) ≡ false → (c == cr) ≡ false → (c == lf) ≡ false → is_textdata d c ≡ true
is-textdata d c a q r n = rw (a, q, r, n) refl

pub record Plain (d c : ℕ) : Type 0 where
  pub no-delimiter : (c == d) ≡ false
  pub no-dquote : (c == 34) ≡ false
  pub no-cr : (c == 13) ≡ false
  pub no-lf : (c == 10) ≡ false

pub textdata-is : (d c : ℕ) → is_textdata d c ≡ true → Plain d c
textdata-is d c e =
    let all : ((c == d) || (c == dquote) || (c == cr) || (c == lf)) ≡ false = not-true ((c == d) || (c == dquote) || (c == cr) || (c == lf)) e in
    let three = or_parts ((c == d) || (c == dquote) || (c == cr)) (c == lf) all in
    let two = or_parts ((c == d) || (c == dquote)) (c == cr) three.0 in
    let one = or_parts (c == d) (c == dquote) two.0 in
    record { no-delimiter = one.0; no-dquote = one.1; no-cr = two.1; no-lf = three.1 }

-- nothing at all
pub record IsNothing (fields : List Field) (f : Field) : Type 0 where
  pub no-fields : fields ≡ []
  pub no-bytes : f ≡ non-escaped []

pub blank-is : (fields : List Field) (f : Field) → is_blank (record { before = fields; last = f }) ≡ true → IsNothing fields f
blank-is [] (non-escaped []) e = record { no-fields = refl; no-bytes = refl }
blank-is [] (non-escaped (b ∷ bytes)) e = absurd (false≢true e)
blank-is [] (escaped bytes) e = absurd (false≢true e)
blank-is (g ∷ fields) f e = absurd (false≢true e)

-- a line that is not empty under more than one name
may-end : (d names : ℕ) (l : Line) → is_record d l.fields ≡ true → (is_blank l.fields && nat_lt 1 names) ≡ false → is_line d names l ≡ true
may-end d names l e f = elim (and_cases (is_blank l.fields) (nat_lt 1 names) f) [
  | inl full ↦ and_from (is_record d l.fields) (nat_le names 1 || not (is_blank l.fields)) e (or_right (nat_le names 1) (not (is_blank l.fields)) (not_from_false (is_blank l.fields) full))
  | inr few ↦ and_from (is_record d l.fields) (nat_le names 1 || not (is_blank l.fields)) e (or_left (nat_le names 1) (not (is_blank l.fields)) (le-leb names 1 (ltb-false 1 names few)))
]

pub ends-so : (d names : ℕ) (l : Line) → is_line d names l ≡ true → (is_blank l.fields && nat_lt 1 names) ≡ false
ends-so d names l e =
    let parts = and_parts (is_record d l.fields) (nat_le names 1 || not (is_blank l.fields)) e in
    elim (or_cases (nat_le names 1) (not (is_blank l.fields)) parts.1) [
      | inl few ↦ and_right (is_blank l.fields) (nat_lt 1 names) (le-ltb 1 names (leb-true names 1 few))
      | inr full ↦ and_left (is_blank l.fields) (nat_lt 1 names) (not-true (is_blank l.fields) full)
    ]

blank-width : (r : Record) → (is_blank r && nat_lt 1 (width r)) ≡ false
blank-width r = elim (cases_Bool (is_blank r)) [
  | inl blank ↦
      let none = (blank-is r.before r.last blank).no-fields in
      let one : width r ≡ 1 = rw none refl in
      and_right (is_blank r) (nat_lt 1 (width r)) (rw one refl)
  | inr full ↦ and_left (is_blank r) (nat_lt 1 (width r)) full
]

-- a line more
pub all-lines-more : (d : ℕ) (h : HeaderPlace) (lines : List Line) (l : Line) → list_all (is_line d (names_of h lines)) lines ≡ true → is_record d l.fields ≡ true
    → (is_blank l.fields && nat_lt 1 (names_of h lines)) ≡ false → list_all (is_line d (names_of h (lines ++ l ∷ []))) (lines ++ l ∷ []) ≡ true
all-lines-more d First [] l e f g = and_from (is_line d (width l.fields) l) true (may-end d (width l.fields) l f (blank-width l.fields)) refl
all-lines-more d First (k ∷ lines) l e f g = all-more (is_line d (width k.fields)) (k ∷ lines) l e (may-end d (width k.fields) l f g)
all-lines-more d (Above names) lines l e f g = all-more (is_line d names) lines l e (may-end d names l f g)

-- what a line among others may be
pub line-among : (d : ℕ) (h : HeaderPlace) (done : List Line) (l : Line) (more : List Line) → is_line d (names_of h (done ++ l ∷ more)) l ≡ true
    → (is_blank l.fields && nat_lt 1 (names_of h done)) ≡ false
line-among d First [] l more e = and_right (is_blank l.fields) false refl
line-among d First (k ∷ done) l more e = ends-so d (width k.fields) l e
line-among d (Above names) done l more e = ends-so d names l e
