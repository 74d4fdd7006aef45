-- The text of an error without its side.
use Rattle.std.proofs.Common.{◌≡◌, ◌∙◌, ◌⊎◌, ◌+◌, ◌<◌, ◌≤◌, ◌++◌, ◌∷◌, [], ℕ, zero, suc, Bor, List, ap, arith, codes, drop, false, inl, inr, length, nat_eq, refl, take}
use Rattle.std.specs.Prelude.{None, Some}
use Rattle.std.specs.List.{starts_with}
use Rattle.std.specs.Str.Pattern.{FindsText, LacksTextAt}
use Rattle.std.proofs.lemmas.Bool.{cases_Bool}
use Rattle.std.proofs.lemmas.Bool.Decides.{Decides-eqb}
use Rattle.std.proofs.lemmas.Slice.Eq.{starts_is}
use Rattle.rj_files.specs.Told.{without_side}

-- a text that doesn't begin with it
not_here : (s : List ℕ) → LacksTextAt (codes " left") s 0 → starts_with nat_eq s (codes " left") ≡ false
not_here s lacks = elim (cases_Bool (starts_with nat_eq s (codes " left"))) [
  | inl here ↦ absurd (lacks _ ((starts_is Decides-eqb s (codes " left") (starts_with nat_eq s (codes " left")) refl).0 here))
  | inr other ↦ other
]

-- a text that doesn't have it
unchanged : (s : List ℕ) → ((i : ℕ) → i ≤ length s → LacksTextAt (codes " left") s i) → s ≡ without_side s
unchanged [] lacks = refl
unchanged (b ∷ s) lacks =
    rw (not_here (b ∷ s) (lacks 0 (omega arith)))
    (ap (λ l. b ∷ l) (unchanged s (λ i small. lacks (suc i) (omega (arith, small)))))

-- a text that has it from one place to another, and not before
cut : (i j : ℕ) (s : List ℕ) → j ≡ i + 5 → ((k : ℕ) → k < i → LacksTextAt (codes " left") s k) → drop i s ≡ codes " left" ++ drop j s
    → take i s ++ drop j s ≡ without_side s
cut i zero s ends first here = absurd (omega (arith, ends))
cut zero (suc j) [] ends first here = absurd cc
cut zero (suc j) (b ∷ s) ends first here =
    let five : j ≡ 4 = omega (arith, ends) in
    let begins = (starts_is Decides-eqb (b ∷ s) (codes " left") (starts_with nat_eq (b ∷ s) (codes " left")) refl).1 (drop j s) here in
    rw (begins, five) refl
cut (suc i) (suc j) [] ends first here = absurd cc
cut (suc i) (suc j) (b ∷ s) ends first here =
    rw (not_here (b ∷ s) (first 0 (omega arith)))
    (ap (λ l. b ∷ l) (cut i j s (omega (arith, ends)) (λ k small. first (suc k) (omega (arith, small))) here))

-- what stands in place of its first match, if there is one
pub without : {K : Bor (List ℕ) → Type 0} {X : ℕ → ℕ → Bor (List ℕ) → List ℕ → Type 0} (s out : List ℕ)
    → (FindsText (codes " left") s None × (out ≡ s))
    ⊎ ((i : ℕ) × (j : ℕ) × (q : Bor (List ℕ)) × (rest : List ℕ) × FindsText (codes " left") s (Some (i, j)) × K q
    × (((i < j) × (rest ≡ drop j s)) ⊎ ((i ≡ j) × X i j q rest)) × (out ≡ take i s ++ ([] ++ rest)))
    → out ≡ without_side s
without s out (inl (none, same)) = same ∙ unchanged s none
without s out (inr (i, j, q, rest, found, keeps, inl (later, behind), whole)) =
    whole ∙ ap (λ l. take i s ++ l) behind ∙ cut i j s found.1.ends found.0 found.1.split
without s out (inr (i, j, q, rest, found, keeps, inr (empty, more), whole)) =
    let ends : j ≡ i + 5 = found.1.ends in
    absurd (omega (arith, empty, ends))
