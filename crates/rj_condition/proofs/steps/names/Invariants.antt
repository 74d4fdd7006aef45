use Rattle.std.proofs.Common.{◌≡◌, ◌-◌, length, []}
use Rattle.rj_condition.specs.declared.token.Sign.TheVariants as sign
use Rattle.rj_condition.specs.Internal.Reading.{separated, behind, name_at}
use Rattle.rj_condition.proofs.steps.names.Given as goal

abbrev pub invariant-loop-turn : goal.invariant-loop-turn
invariant-loop-turn l = separated name_at (behind sign.Comma) (length l.tokens - l.turn) l.found l.rest ≡ separated name_at (behind sign.Comma) (length l.tokens) [] l.tokens
