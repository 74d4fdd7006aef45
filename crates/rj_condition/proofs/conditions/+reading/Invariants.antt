use Rattle.std.proofs.Common.{◌≡◌, ◌+◌, ◌-◌, ◌*◌}
use Rattle.rj_condition.specs.declared.token.Keyword.TheVariants as keyword
use Rattle.rj_condition.specs.Internal.Reading.{separated, after, factor_at, term_at, factors_at, terms_at}
use Rattle.rj_condition.proofs.conditions.+reading.Given as goal

abbrev pub decreases-factor : goal.decreases-factor
decreases-factor l = 8 * l.limit

abbrev pub decreases-factors : goal.decreases-factors
decreases-factors l = 8 * l.limit + 1

abbrev pub decreases-term : goal.decreases-term
decreases-term l = 8 * l.limit + 2

abbrev pub decreases-terms : goal.decreases-terms
decreases-terms l = 8 * l.limit + 3

abbrev pub decreases-condition : goal.decreases-condition
decreases-condition l = 8 * l.limit + 4

abbrev pub decreases-group : goal.decreases-group
decreases-group l = 8 * l.limit + 5

abbrev pub decreases-primary : goal.decreases-primary
decreases-primary l = 8 * l.limit + 6

abbrev pub decreases-test : goal.decreases-test
decreases-test l = 8 * l.limit + 7

abbrev pub invariant-factors-loop-turn : goal.invariant-factors-loop-turn
invariant-factors-loop-turn l =
    separated (factor_at l.limit) (after keyword.And) (l.limit - l.turn) l.found l.rest ≡ factors_at l.limit l.tokens

abbrev pub invariant-terms-loop-turn : goal.invariant-terms-loop-turn
invariant-terms-loop-turn l =
    separated (term_at l.limit) (after keyword.Or) (l.limit - l.turn) l.found l.rest ≡ terms_at l.limit l.tokens
