use Rattle.std.proofs.Common.{Bool, ap, below_more, sym, ◌∙◌}
use Rattle.rj_condition.specs.Refusals.{refusal_at}
use Rattle.rj_condition.proofs.refusals.first_refused.Goals as goal

pub returns-in-Some : goal.returns-in-Some
returns-in-Some c = (
  ap (λ (u : Bool). refusal_at u c.args.left.now.names c.args.right.now.names c.args.tokens.now c.loop-i.i) (sym c.are_using-in_using.ensures) ∙ sym c.in-Some.ensures,
  c.loop-i.invariant,
)

pub loop-i-preserved : goal.loop-i-preserved
loop-i-preserved c =
    below_more _ _ c.loop-i.invariant
    (ap (λ (u : Bool). refusal_at u c.args.left.now.names c.args.right.now.names c.args.tokens.now c.loop-i.i) (sym c.are_using-in_using.ensures)
    ∙ (sym c.refusal_at.ensures ∙ c.in_default.is))
