use Rattle.std.proofs.Common.{◌≡◌, ◌≢◌, ◌∙◌, ap, rules, sym}
use Rattle.std.specs.Prelude.{Err, Ok, Result}
use Rattle.rj_condition.specs.Bound.{bound}
use Rattle.rj_condition.specs.declared.refused.BindRefused.TheVariants as bind_refused
use Rattle.rj_condition.specs.declared.refused.ParseRefused.TheVariants as parse_refused
use Rattle.rj_condition.specs.declared.tree.Clause.{Clause}
use Rattle.rj_condition.proofs.Answer.{one_clause}
use Rattle.rj_explain.proofs.joined.join_of.Goals as goal

-- no answer is both
apart : {A E : Type 0} (x : A) (e : E) (answer : Result A E) → answer ≡ Ok x → answer ≡ Err e → ⊥
apart x e answer ok err = cc

pub returns-in-Err-clause-asked : goal.returns-in-Err-clause-asked
returns-in-Err-clause-asked c = λ join asked.
    let other : c.in-Err.field-0 ≢ parse_refused.Memory = search rules in
    other (c.in-Err.ensures.only asked.0 asked.1)

pub returns-clause-asked : goal.returns-clause-asked
returns-clause-asked c = λ join asked.
    let left = c.args.left.now in
    let right = c.args.right.now in
    let other : c.in-Err-bind.field-0 ≢ bind_refused.Memory = search rules in
    let one = one_clause c.args.clause.now c.in-Ok.clause asked.0 c.in-Ok.ensures.answer asked.1 in
    apart join c.in-Err-bind.field-0 (bound asked.0 left right) asked.2 (ap (λ (x : Clause). bound x left right) (sym one) ∙ c.in-Err-bind.ensures.fault other)
