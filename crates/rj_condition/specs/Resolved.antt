-- A condition with its names resolved, or the first error in the order of the text.
use Rattle.std.specs.Prelude.{ℕ, List, [], ◌∷◌, ◌++◌, map, Result, Ok, Err, if◌then◌else◌}
use Rattle.rj_columns.specs.Tables.{TableValue}
use Rattle.rj_condition.specs.Names.{resolved_operand}
use Rattle.rj_condition.specs.Fits.{condition_fits}
use Rattle.rj_condition.specs.declared.tree.Condition.{Condition}
use Rattle.rj_condition.specs.declared.tree.Condition.TheFolds.{fold-Condition}
use Rattle.rj_condition.specs.declared.tree.Condition.TheOpen.{Condition-F}
use Rattle.rj_condition.specs.declared.bound.BoundCondition.{BoundCondition, Compare, Between, In, IsNull, Is, Not, All, Any}
use Rattle.rj_condition.specs.declared.refused.BindRefused.{BindRefused}
use Rattle.rj_condition.specs.declared.refused.BindRefused.TheVariants as refused

abbrev pub Resolved : Type 0
Resolved = Result BoundCondition BindRefused

-- goes on if all went well so far
abbrev pub and_then : {A B : Type 0} → Result A BindRefused → (A → Result B BindRefused) → Result B BindRefused
and_then (Ok x) f = f x
and_then (Err e) f = Err e

-- these before those, unless one of those failed
abbrev pub onto : {A : Type 0} → List A → Result (List A) BindRefused → Result (List A) BindRefused
onto xs (Ok ys) = Ok (xs ++ ys)
onto xs (Err e) = Err e

-- all of them, or the first error
abbrev pub all_ok : {A : Type 0} → List (Result A BindRefused) → Result (List A) BindRefused
all_ok [] = Ok []
all_ok (Ok x ∷ rs) = onto (x ∷ []) (all_ok rs)
all_ok (Err e ∷ rs) = Err e

-- the names of the left and the right table come first
abbrev pub resolved_at : List (List ℕ) → List (List ℕ) → Condition-F Resolved → Resolved
resolved_at left right (Condition-F.Compare a op b) =
    and_then (resolved_operand left right a) (λ x. and_then (resolved_operand left right b) (λ y. Ok (Compare x op y)))
resolved_at left right (Condition-F.Between a b c negated) =
    and_then (resolved_operand left right a)
    (λ x. and_then (resolved_operand left right b) (λ y. and_then (resolved_operand left right c) (λ z. Ok (Between x y z negated))))
resolved_at left right (Condition-F.In a members negated) =
    and_then (resolved_operand left right a) (λ x. and_then (all_ok (map (resolved_operand left right) members)) (λ ys. Ok (In x ys negated)))
resolved_at left right (Condition-F.IsNull a negated) = and_then (resolved_operand left right a) (λ x. Ok (IsNull x negated))
resolved_at left right (Condition-F.Is r truth negated) = and_then r (λ b. Ok (Is b truth negated))
resolved_at left right (Condition-F.Not r) = and_then r (λ b. Ok (Not b))
resolved_at left right (Condition-F.All rs) = and_then (all_ok rs) (λ bs. Ok (All bs))
resolved_at left right (Condition-F.Any rs) = and_then (all_ok rs) (λ bs. Ok (Any bs))

abbrev pub resolved : List (List ℕ) → List (List ℕ) → Condition → Resolved
resolved left right c = fold-Condition Resolved (resolved_at left right) c

-- first all names in the order of the text, then the types of all comparisons
abbrev pub bound_on : TableValue → TableValue → Condition → Resolved
bound_on l r c = and_then (resolved l.names r.names c) (λ b. if condition_fits l.types r.types b then Ok b else Err refused.TypeMismatch)
