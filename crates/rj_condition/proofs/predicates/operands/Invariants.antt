use Rattle.std.proofs.Common.{◌≡◌, ◌-◌, length, []}
use Rattle.rj_condition.specs.declared.token.Sign.TheVariants as sign
use Rattle.rj_condition.specs.Internal.Reading.{separated, behind, operand_at}
use Rattle.rj_condition.proofs.predicates.operands.Given as goal

abbrev pub invariant-loop-turn : goal.invariant-loop-turn
invariant-loop-turn l = separated operand_at (behind sign.Comma) (length l.tokens - l.turn) l.found l.rest ≡ separated operand_at (behind sign.Comma) (length l.tokens) [] l.tokens
