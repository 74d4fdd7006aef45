-- The columns that an entry of a list of columns means, and their names.
use Rattle.std.proofs.Common.{◌≡◌, ℕ, ◌<◌, ◌≤◌, Bool, true, false, cond, List, [], ◌∷◌, length, map, refl, ap, arith}
use Rattle.std.specs.Prelude.{Option, None, Some, filter, option_map}
use Rattle.rj_condition.specs.declared.tree.Name.{Name}
use Rattle.rj_engine.specs.Naming.{new_or_own}
use Rattle.rj_explain.specs.Lines.{both_words}
use Rattle.rj_explain.specs.Selected.{IsWhy, name_among}

-- the names of those columns whose names pass a test
pub filter-map : {A : Type 0} (p : List ℕ → Bool) (f : A → List ℕ) (columns : List A) → filter p (map f columns) ≡ map f (filter (λ o. p (f o)) columns)
filter-map p f [] = refl
filter-map p f (o ∷ columns) = by_test (p (f o)) (filter-map p f columns)
  where
    by_test : (t : Bool) → filter p (map f columns) ≡ map f (filter (λ o. p (f o)) columns)
        → cond t (f o ∷ filter p (map f columns)) (filter p (map f columns)) ≡ map f (cond t (o ∷ filter (λ o. p (f o)) columns) (filter (λ o. p (f o)) columns))
    by_test true e = ap (λ names. f o ∷ names) e
    by_test false e = e

-- the name of the column that is meant, if it is alone
pub name-among : {A : Type 0} (only : List A → Option A) (new : Option Name) (f : A → List ℕ)
    → None ≡ only [] → ((o : A) → Some o ≡ only (o ∷ [])) → ((o p : A) (columns : List A) → None ≡ only (o ∷ (p ∷ columns)))
    → (columns : List A) → name_among new (map f columns) ≡ option_map (λ o. new_or_own new (f o)) (only columns)
name-among only new f none one more [] = ap (option_map (λ o. new_or_own new (f o))) none
name-among only new f none one more (o ∷ []) = ap (option_map (λ o. new_or_own new (f o))) (one o)
name-among only new f none one more (o ∷ (p ∷ columns)) = ap (option_map (λ o. new_or_own new (f o))) (more o p columns)

-- how many columns are meant
pub one-meant : (names : List (List ℕ)) (unknown : List ℕ → Type 0) (files repeated words : List ℕ) → 1 ≤ length names → length names < 2 → words ≡ repeated
    → IsWhy names unknown files repeated words
one-meant [] unknown files repeated words some few told = absurd (omega arith)
one-meant (own ∷ []) unknown files repeated words some few told = told
one-meant (own ∷ (other ∷ names)) unknown files repeated words some few told = absurd (omega arith)

pub both-meant : (names : List (List ℕ)) (unknown : List ℕ → Type 0) (files repeated words : List ℕ) → 2 ≤ length names → words ≡ both_words → IsWhy names unknown files repeated words
both-meant [] unknown files repeated words many told = absurd (omega arith)
both-meant (own ∷ []) unknown files repeated words many told = absurd (omega arith)
both-meant (own ∷ (other ∷ names)) unknown files repeated words many told = told
