-- Names with numbers behind them.
use Rattle.std.proofs.Common.{◌≡◌, ◌∙◌, ◌<◌, ◌≤◌, ◌+◌, ◌^◌, ◌%◌, ℕ, List, [], ◌∷◌, ◌++◌, length, map, All, true, false, refl, sym, ap, arith, inl, inr}
use Rattle.std.specs.Prelude.{◌&&◌, codes, decimal, nat_le, nat_lt, IsUtf8}
use Rattle.std.specs.Char.{to_ascii_lowercase}
use Rattle.std.specs.Str.{is_utf8}
use Rattle.std.proofs.lemmas.Bool.{and_parts, cases_Bool, le-leb, lt-ltb, leb-true, ltb-true}
use Rattle.std.proofs.lemmas.Fmt.{IsAscii-decimal, decimal_by_steps, decimal_injective, length-decimal-le}
use Rattle.std.proofs.lemmas.List.{append_cancel_left, length-append, length-map, map-append}
use Rattle.std.proofs.lemmas.List.Elements.{All-cons, All-nil}
use Rattle.std.proofs.lemmas.Str.Ascii.{IsAscii-from_all}
use Rattle.std.proofs.lemmas.Str.{IsUtf8-append, IsUtf8-from_ascii, IsUtf8-from_is_utf8, is_utf8-from_IsUtf8}
use Rattle.rj_columns.specs.Names.{is_name}
use Rattle.rj_csv_io.specs.Named.{is_stem, numbered, stem_of}

abbrev lower : List ℕ → List ℕ
lower = map to_ascii_lowercase

-- digits have no case
lower-digit : (n : ℕ) → n < 10 → to_ascii_lowercase (48 + n) ≡ 48 + n
lower-digit n h = rw (lt-ltb (48 + n) 65 (omega arith)) refl

lower-decimal : (n : ℕ) → n < 2 ^ 64 → lower (decimal n) ≡ decimal n
lower-decimal n h = decimal_by_steps (λ n ds. lower ds ≡ ds)
    (λ n small. ap (λ c. c ∷ []) (lower-digit n small))
    (λ n ds large same. map-append to_ascii_lowercase ds ((48 + n % 10) ∷ []) ∙ rw (same, lower-digit (n % 10) (omega arith)) refl)
    n h

-- how long a stem with a number is
suffix-size : (stem : List ℕ) (n : ℕ) → length (stem ++ (codes "_" ++ decimal n)) ≡ length stem + 1 + length (decimal n)
suffix-size stem n =
    let one : length (codes "_") ≡ 1 = refl in
    omega (arith, one, length-append stem (codes "_" ++ decimal n), length-append (codes "_") (decimal n))

-- two numbers make two names, ignoring ASCII case
pub numbered-one : (stem : List ℕ) (i j : ℕ) → i < 2 ^ 40 → j < 2 ^ 40 → lower (numbered stem (i + 1)) ≡ lower (numbered stem (j + 1)) → i ≡ j
numbered-one stem i j hi hj e = elim (cases_Bool (nat_le (i + 1) 1)) [
  | inl a ↦ elim (cases_Bool (nat_le (j + 1) 1)) [
    | inl b ↦ omega (arith, leb-true (i + 1) 1 a, leb-true (j + 1) 1 b)
    | inr b ↦ absurd (apart (j + 1) (omega arith) (rw (a, b) at e))
  ]
  | inr a ↦ elim (cases_Bool (nat_le (j + 1) 1)) [
    | inl b ↦ absurd (apart (i + 1) (omega arith) (sym (rw (a, b) at e)))
    | inr b ↦ both (rw (a, b) at e)
  ]
]
  where
    apart : (n : ℕ) → n < 2 ^ 64 → lower stem ≡ lower (stem ++ (codes "_" ++ decimal n)) → ⊥
    apart n h e = let size = ap length e in omega (arith, size, suffix-size stem n, length-map stem to_ascii_lowercase, length-map (stem ++ (codes "_" ++ decimal n)) to_ascii_lowercase)

    both : lower (stem ++ (codes "_" ++ decimal (i + 1))) ≡ lower (stem ++ (codes "_" ++ decimal (j + 1))) → i ≡ j
    both e =
        let split = λ (n : ℕ). map-append to_ascii_lowercase stem (codes "_" ++ decimal n) in
        let rest = append_cancel_left (lower stem) (lower (codes "_" ++ decimal (i + 1))) (lower (codes "_" ++ decimal (j + 1))) (sym (split (i + 1)) ∙ (e ∙ split (j + 1))) in
        let digits : lower (decimal (i + 1)) ≡ lower (decimal (j + 1)) = append_cancel_left (95 ∷ []) _ _ rest in
        let same = decimal_injective (i + 1) (j + 1) (omega arith) (omega arith) (sym (lower-decimal (i + 1) (omega arith)) ∙ (digits ∙ lower-decimal (j + 1) (omega arith))) in
        omega (arith, same)

name-of : (n : List ℕ) → 0 < length n → length n ≤ 128 → IsUtf8 n → is_name n ≡ true
name-of n a b u = rw (lt-ltb 0 (length n) a, le-leb (length n) 128 b, is_utf8-from_IsUtf8 n u) refl

-- a stem is a name of at most 100 bytes
pub record IsStem (stem : List ℕ) : Type 0 where
  pub some : 0 < length stem
  pub short : length stem ≤ 100
  pub text : IsUtf8 stem

underscore-text : IsUtf8 (codes "_")
underscore-text = IsUtf8-from_ascii (95 ∷ []) (IsAscii-from_all (95 ∷ []) (All-cons (λ c. c < 128) 95 [] (omega arith) (All-nil (λ c. c < 128))))

column-text : IsUtf8 (codes "column_")
column-text = IsUtf8-from_ascii word (IsAscii-from_all word
    (low 99 (111 ∷ 108 ∷ 117 ∷ 109 ∷ 110 ∷ 95 ∷ []) (omega arith) (low 111 (108 ∷ 117 ∷ 109 ∷ 110 ∷ 95 ∷ []) (omega arith) (low 108 (117 ∷ 109 ∷ 110 ∷ 95 ∷ []) (omega arith) (low 117 (109 ∷ 110 ∷ 95 ∷ []) (omega arith) (low 109 (110 ∷ 95 ∷ []) (omega arith) (low 110 (95 ∷ []) (omega arith) (low 95 [] (omega arith) (All-nil (λ c. c < 128))))))))))
  where
    word : List ℕ
    word = 99 ∷ 111 ∷ 108 ∷ 117 ∷ 109 ∷ 110 ∷ 95 ∷ []

    low : (c : ℕ) (xs : List ℕ) → c < 128 → All (λ c. c < 128) xs → All (λ c. c < 128) (c ∷ xs)
    low c xs h more = All-cons (λ c. c < 128) c xs h more

-- a field that may stand before a number
pub stem-is : (field : List ℕ) → 0 < length field → length field ≤ 100 → IsUtf8 field → is_stem field ≡ true
stem-is field a b u = rw (lt-ltb 0 (length field) a, le-leb (length field) 100 b, is_utf8-from_IsUtf8 field u) refl

pub stem-not : (field : List ℕ) → 0 < length field → length field ≤ 100 → ¬ (IsUtf8 field) → is_stem field ≡ false
stem-not field a b u = elim (cases_Bool (is_utf8 field)) [
  | inl good ↦ absurd (u (IsUtf8-from_is_utf8 field good))
  | inr bad ↦ rw (lt-ltb 0 (length field) a, le-leb (length field) 100 b, bad) refl
]

ascii-text : (n : ℕ) → n < 2 ^ 40 → IsUtf8 (decimal n)
ascii-text n h = IsUtf8-from_ascii (decimal n) (IsAscii-decimal n (omega arith))

pub stem-good : (column : ℕ) (field : List ℕ) → column < 2 ^ 40 → IsStem (stem_of column field)
stem-good column field h = elim (cases_Bool (is_stem field)) [
  | inl good ↦
      let parts = and_parts (nat_lt 0 (length field) && nat_le (length field) 100) (is_utf8 field) good in
      let sizes = and_parts (nat_lt 0 (length field)) (nat_le (length field) 100) parts.0 in
      rw good (record { some = ltb-true 0 (length field) sizes.0; short = leb-true (length field) 100 sizes.1; text = IsUtf8-from_is_utf8 field parts.1 })
  | inr bad ↦
      let digits = length-decimal-le 20 column (omega arith) (omega arith) (omega arith) in
      let seven : length (codes "column_") ≡ 7 = refl in
      let size = length-append (codes "column_") (decimal column) in
      rw bad (record {
        some = omega (arith, seven, size);
        short = omega (arith, seven, size, digits);
        text = IsUtf8-append (codes "column_") (decimal column) column-text (ascii-text column h);
      })
]

-- a stem with a number behind it is a name
pub numbered-name : (stem : List ℕ) (n : ℕ) → n < 2 ^ 40 → IsStem stem → is_name (numbered stem n) ≡ true
numbered-name stem n h is = elim (cases_Bool (nat_le n 1)) [
  | inl a ↦ rw a (name-of stem is.some (omega (arith, is.short)) is.text)
  | inr b ↦
      let digits = length-decimal-le 20 n (omega arith) (omega arith) (omega arith) in
      let size = suffix-size stem n in
      let text = IsUtf8-append stem (codes "_" ++ decimal n) is.text (IsUtf8-append (codes "_") (decimal n) underscore-text (ascii-text n h)) in
      rw b (name-of (stem ++ (codes "_" ++ decimal n)) (omega (arith, size)) (omega (arith, size, digits, is.short)) text)
]
