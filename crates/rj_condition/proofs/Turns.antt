-- One turn of a list with separators, and one factor.
use Rattle.std.proofs.Common.{◌≡◌, ℕ, suc, ◌+◌, ◌-◌, ◌<◌, List, [], ◌∷◌, ◌++◌, length, Option, Some, None, Ok, Err, refl, ap, ◌∙◌, arith}
use Rattle.rj_condition.specs.declared.token.Keyword.TheVariants as keyword
use Rattle.rj_condition.specs.declared.token.Token.{Token}
use Rattle.rj_condition.specs.declared.tree.Condition.{Condition}
use Rattle.rj_condition.specs.declared.tree.Condition.TheVariants as tree
use Rattle.rj_condition.specs.Internal.Reading.{Read, separated, go_on, ◌>>=◌, after, factor_of, factor_at, test_at, negated}

module _ {A : Type 0} (item : List Token → Read A) (next : List Token → Option (List Token)) where
  pub turn_of : (n : ℕ) (found : List A) (ts : List Token) (x : A) (us : List Token) → item ts ≡ Ok (x, us) →
      separated item next (suc n) found ts ≡ go_on (next us) (Ok (found ++ x ∷ [], us)) (λ vs. separated item next n (found ++ x ∷ []) vs)
  unfolding separated
  turn_of n found ts x us e = ap (λ r. r >>= λ z. go_on (next z.1) (Ok (found ++ z.0 ∷ [], z.1)) (λ vs. separated item next n (found ++ z.0 ∷ []) vs)) e

  left_of : (limit turn : ℕ) → turn < limit → limit - turn ≡ suc (limit - (turn + 1))
  left_of limit turn lt = omega arith

  pub separated_more : (limit turn : ℕ) (found : List A) (ts : List Token) (x : A) (us vs : List Token) → turn < limit → item ts ≡ Ok (x, us) → next us ≡ Some vs →
      separated item next (limit - turn) found ts ≡ separated item next (limit - (turn + 1)) (found ++ x ∷ []) vs
  separated_more limit turn found ts x us vs lt e f =
      ap (λ n. separated item next n found ts) (left_of limit turn lt)
      ∙ turn_of (limit - (turn + 1)) found ts x us e
      ∙ ap (λ o. go_on o (Ok (found ++ x ∷ [], us)) (λ ws. separated item next (limit - (turn + 1)) (found ++ x ∷ []) ws)) f

  pub separated_end : (limit turn : ℕ) (found : List A) (ts : List Token) (x : A) (us : List Token) → turn < limit → item ts ≡ Ok (x, us) → next us ≡ None →
      separated item next (limit - turn) found ts ≡ Ok (found ++ x ∷ [], us)
  separated_end limit turn found ts x us lt e f =
      ap (λ n. separated item next n found ts) (left_of limit turn lt)
      ∙ turn_of (limit - (turn + 1)) found ts x us e
      ∙ ap (λ o. go_on o (Ok (found ++ x ∷ [], us)) (λ ws. separated item next (limit - (turn + 1)) (found ++ x ∷ []) ws)) f

  pub separated_stop : (limit turn : ℕ) (found : List A) (ts : List Token) (left : ℕ) → turn < limit → item ts ≡ Err left → separated item next (limit - turn) found ts ≡ Err left
  unfolding separated
  separated_stop limit turn found ts left lt e =
      ap (λ n. separated item next n found ts) (left_of limit turn lt)
      ∙ ap (λ (r : Read A). r >>= λ z. go_on (next z.1) (Ok (found ++ z.0 ∷ [], z.1)) (λ vs. separated item next (limit - (turn + 1)) (found ++ z.0 ∷ []) vs)) e

-- one turn of a list with separators
pub ruleset turns = (separated_more, separated_end, separated_stop)

pub factor_none : (ts : List Token) → factor_at 0 ts ≡ Err (length ts)
unfolding factor_at
factor_none ts = refl

next_down : (n : ℕ) → 0 < n → n ≡ suc (n - 1)
next_down n lt = omega arith

factor_next : (n : ℕ) (ts : List Token) → factor_at (suc n) ts ≡ factor_of (factor_at n) n ts (after keyword.Not ts)
unfolding factor_at
factor_next n ts = refl

pub factor_not : (n : ℕ) (ts us : List Token) (r : Read Condition) → 0 < n → after keyword.Not ts ≡ Some us → factor_at (n - 1) us ≡ r → factor_at n ts ≡ (r >>= λ x. Ok (tree.Not x.0, x.1))
factor_not n ts us r lt e f =
    ap (λ m. factor_at m ts) (next_down n lt) ∙ factor_next (n - 1) ts ∙ ap (factor_of (factor_at (n - 1)) (n - 1) ts) e ∙ ap negated f

pub factor_test : (n : ℕ) (ts : List Token) → 0 < n → after keyword.Not ts ≡ None → factor_at n ts ≡ test_at (n - 1) ts
factor_test n ts lt e = ap (λ m. factor_at m ts) (next_down n lt) ∙ factor_next (n - 1) ts ∙ ap (factor_of (factor_at (n - 1)) (n - 1) ts) e
