-- The first free number is found: so many names can't be among fewer.
use Rattle.std.proofs.Common.{◌≡◌, ◌∙◌, ◌<◌, ◌≤◌, ◌+◌, ◌^◌, ℕ, zero, suc, List, [], ◌∷◌, length, map, get_or, Bool, true, false, refl, sym, ap, arith, inl, inr}
use Rattle.std.specs.Prelude.{◌||◌, ◌⊎◌, if◌then◌else◌}
use Rattle.std.specs.Bool.{Decides}
use Rattle.std.specs.Char.{to_ascii_lowercase}
use Rattle.std.specs.Str.{str_eq_ignore_ascii_case}
use Rattle.std.proofs.lemmas.Bool.{cases_Bool, cases_lt, false≢true}
use Rattle.std.proofs.lemmas.Slice.Eq.{bytes_eq-Decides}
use Rattle.indexmap.proofs.IndexTableLemmas.Probe.{pigeonhole}
use Rattle.rj_csv_io.specs.Named.{free_from, free_name, is_taken, numbered}
use Rattle.rj_csv_io.proofs.NumberFacts.{numbered-one}

abbrev pub lower : List ℕ → List ℕ
lower = map to_ascii_lowercase

-- names are alike where their forms in lower case are the same
pub alike-lower : (a b : List ℕ) → str_eq_ignore_ascii_case a b ≡ true → lower a ≡ lower b
alike-lower a b e = (bytes_eq-Decides (lower a) (lower b)).0 e

pub lower-alike : (a b : List ℕ) → lower a ≡ lower b → str_eq_ignore_ascii_case a b ≡ true
lower-alike a b e = (bytes_eq-Decides (lower a) (lower b)).1 e

-- a test that decides whether the forms in lower case are the same
pub alike-decided : (a b : List ℕ) (r : Bool) → Decides r (lower a ≡ lower b) → str_eq_ignore_ascii_case a b ≡ r
alike-decided a b r h = elim (cases_Bool (str_eq_ignore_ascii_case a b)) [
  | inl same ↦ same ∙ sym (h.1 (alike-lower a b same))
  | inr apart ↦ elim (cases_Bool r) [
    | inl is ↦ absurd (false≢true (sym apart ∙ lower-alike a b (h.0 is)))
    | inr not ↦ apart ∙ sym not
  ]
]

pub alike-swap : (a b : List ℕ) → str_eq_ignore_ascii_case a b ≡ false → str_eq_ignore_ascii_case b a ≡ false
alike-swap a b e = elim (cases_Bool (str_eq_ignore_ascii_case b a)) [
  | inl same ↦ absurd (false≢true (sym e ∙ lower-alike a b (sym (alike-lower b a same))))
  | inr apart ↦ apart
]

-- the place of the first taken name that is alike
place_in : List (List ℕ) → List ℕ → ℕ
place_in [] name = zero
place_in (t ∷ taken) name = if str_eq_ignore_ascii_case name t then zero else suc (place_in taken name)

place-found : (taken : List (List ℕ)) (name : List ℕ) → is_taken taken name ≡ true
    → (place_in taken name < length taken) × (lower name ≡ lower (get_or taken (place_in taken name) []))
unfolding place_in
place-found [] name e = absurd (false≢true e)
place-found (t ∷ taken) name e = go (str_eq_ignore_ascii_case name t) refl e (place-found taken name)
  where
    go : (b : Bool) → str_eq_ignore_ascii_case name t ≡ b → (b || is_taken taken name) ≡ true
        → (is_taken taken name ≡ true → (place_in taken name < length taken) × (lower name ≡ lower (get_or taken (place_in taken name) [])))
        → ((if b then zero else suc (place_in taken name)) < length (t ∷ taken)) × (lower name ≡ lower (get_or (t ∷ taken) (if b then zero else suc (place_in taken name)) []))
    go true is e again = (omega arith, alike-lower name t is)
    go false is e again = let more = again e in (omega (arith, more.0), more.1)

-- the result of a search among numbers
record IsFound (taken : List (List ℕ)) (stem : List ℕ) (n more : ℕ) (name : List ℕ) : Type 0 where
  pub number : ℕ
  pub within : number ≤ n + more
  pub is : name ≡ numbered stem number
  pub free : (is_taken taken name ≡ false) ⊎ ((k : ℕ) → n ≤ k → k ≤ n + more → is_taken taken (numbered stem k) ≡ true)

found : (taken : List (List ℕ)) (stem : List ℕ) (n more : ℕ) → IsFound taken stem n more (free_from taken stem n more)
unfolding free_from
found taken stem n zero = elim (cases_Bool (is_taken taken (numbered stem n))) [
  | inl is ↦ record { number = n; within = omega arith; is = refl; free = inr (λ k a b. let same : n ≡ k = omega arith in rw (← same) is) }
  | inr none ↦ record { number = n; within = omega arith; is = refl; free = inl none }
]
found taken stem n (suc more) = go (is_taken taken (numbered stem n)) refl (found taken stem (n + 1) more)
  where
    go : (b : Bool) → is_taken taken (numbered stem n) ≡ b → IsFound taken stem (n + 1) more (free_from taken stem (n + 1) more)
        → IsFound taken stem n (suc more) (if b then free_from taken stem (n + 1) more else numbered stem n)
    go false is again = record { number = n; within = omega arith; is = refl; free = inl is }
    go true is again = record {
      number = again.number;
      within = omega (arith, again.within);
      is = again.is;
      free = elim again.free [
        | inl none ↦ inl none
        | inr all ↦ inr (λ k a b. elim (cases_lt n k) [
          | inl above ↦ all k (omega arith) (omega arith)
          | inr here ↦ let same : n ≡ k = omega arith in rw (← same) is
        ])
      ];
    }

module _ (taken : List (List ℕ)) (stem : List ℕ) (few : length taken < 2 ^ 39) where
  not-all : ((k : ℕ) → 1 ≤ k → k ≤ 1 + length taken → is_taken taken (numbered stem k) ≡ true) → ⊥
  not-all all =
      let place : ℕ → ℕ = λ i. place_in taken (numbered stem (i + 1)) in
      let at = λ (i : ℕ) (h : i < length taken + 1). place-found taken (numbered stem (i + 1)) (all (i + 1) (omega arith) (omega arith)) in
      let one = λ (i j : ℕ) (hi : i < length taken + 1) (hj : j < length taken + 1) (e : place i ≡ place j).
      numbered-one stem i j (omega arith) (omega arith) ((at i hi).1 ∙ (ap (λ p. lower (get_or taken p [])) e ∙ sym (at j hj).1)) in
      let less = pigeonhole (length taken + 1) (length taken) place (λ i h. (at i h).0) one in
      omega (arith, less)

  -- it is none of the taken names, and it is the stem with a number
  pub free-is : (is_taken taken (free_name taken stem) ≡ false) × ((n : ℕ) × (n < 2 ^ 40) × (free_name taken stem ≡ numbered stem n))
  free-is =
      let f = found taken stem 1 (length taken) in
      let number : (n : ℕ) × (n < 2 ^ 40) × (free_name taken stem ≡ numbered stem n) = (f.number, omega (arith, f.within), f.is) in
      elim f.free [
        | inl none ↦ (none, number)
        | inr all ↦ absurd (not-all all)
      ]
