use Rattle.std.proofs.Common.{◌≡◌, ◌∙◌, ◌+◌, ℕ, List, None, Option, Some, drop, refl, sym}
use Rattle.std.specs.Prelude.{slice_get}
use Rattle.rj_condition.specs.Undeclared.{first_some, marked, needing_called}
use Rattle.rj_condition.proofs.StepFacts.{drop_get}
use Rattle.rj_condition.proofs.undeclared.needing_in_common.Goals as goal

-- the first answer from a place on, where that place has one
found_at : {A B : Type 0} (f : A → Option B) (xs : List A) (i : ℕ) (x : A) (y : B) → slice_get xs i ≡ Some x → f x ≡ Some y → first_some f (drop i xs) ≡ Some y
found_at f xs i x y h e = rw (drop_get xs i x h, e) refl

-- and where it has none
next_at : {A B : Type 0} (f : A → Option B) (xs : List A) (i : ℕ) (x : A) → slice_get xs i ≡ Some x → f x ≡ None → first_some f (drop i xs) ≡ first_some f (drop (i + 1) xs)
next_at f xs i x h e = rw (drop_get xs i x h, e) refl

pub returns-in-Some : goal.returns-in-Some
returns-in-Some c =
    let f = needing_called (marked c.args.left.now) (marked c.args.right.now) in
    let names = c.args.left.now.table.now.names in
    sym (found_at f names c.loop-i.i c.name.result.now c.in-Some.found c.name.ensures (sym c.needing_called.ensures ∙ c.in-Some.is)) ∙ c.loop-i.invariant.0

pub loop-i-preserved : goal.loop-i-preserved
loop-i-preserved c =
    let f = needing_called (marked c.args.left.now) (marked c.args.right.now) in
    let names = c.args.left.now.table.now.names in
    (sym (next_at f names c.loop-i.i c.name.result.now c.name.ensures (sym c.needing_called.ensures ∙ c.in_default.is)) ∙ c.loop-i.invariant.0, c.loop-i.invariant.1)
