use Rattle.std.proofs.Common.{◌+◌, ◌-◌, List, ap, sym, ◌∙◌, length}
use Rattle.rj_condition.specs.declared.token.Sign.TheVariants as sign
use Rattle.rj_condition.specs.declared.tree.Operand.{Operand}
use Rattle.rj_condition.specs.Internal.Reading.{separated, behind, operand_at}
use Rattle.rj_condition.proofs.Turns.{separated_more}
use Rattle.rj_condition.proofs.predicates.operands.Goals as goal

pub loop-turn-preserved : goal.loop-turn-preserved
loop-turn-preserved c =
    ap (λ (z : List Operand). separated operand_at (behind sign.Comma) (length c.args.tokens.now - (c.loop-turn.turn + 1)) z c.in-Some.more.now) c.in_ok-push.ensures.ok
    ∙ sym (separated_more operand_at (behind sign.Comma)
    (length c.args.tokens.now) c.loop-turn.turn c.loop-turn.found c.loop-turn.rest.now c.in_ok-one.one c.in_ok-one.behind_one.now c.in-Some.more.now
    c.loop-turn-test.true c.in_ok-one.ensures (sym c.in-Some.ensures))
    ∙ c.loop-turn.invariant
