use Rattle.std.proofs.Common.{◌+◌, ◌-◌, List, ap, sym, ◌∙◌}
use Rattle.rj_condition.specs.declared.token.Keyword.TheVariants as keyword
use Rattle.rj_condition.specs.declared.tree.Condition.{Condition}
use Rattle.rj_condition.specs.Internal.Reading.{separated, after, factor_at, term_at}
use Rattle.rj_condition.proofs.Turns.{separated_more}
use Rattle.rj_condition.proofs.conditions.+reading.Goals as goal

pub factors-loop-turn-preserved : goal.factors-loop-turn-preserved
factors-loop-turn-preserved t c =
    ap (λ (z : List Condition). separated (factor_at c.args.limit) (after keyword.And) (c.args.limit - (c.loop-turn.turn + 1)) z c.in-Some.more.now) c.in_ok-push.ensures.ok
    ∙ sym (separated_more (factor_at c.args.limit)
    (after keyword.And) c.args.limit c.loop-turn.turn c.loop-turn.found c.loop-turn.rest.now c.in_ok-one.one c.in_ok-one.behind_one.now c.in-Some.more.now
    c.loop-turn-test.true c.in_ok-one.ensures (sym c.in-Some.ensures))
    ∙ c.loop-turn.invariant

pub terms-loop-turn-preserved : goal.terms-loop-turn-preserved
terms-loop-turn-preserved t c =
    ap (λ (z : List Condition). separated (term_at c.args.limit) (after keyword.Or) (c.args.limit - (c.loop-turn.turn + 1)) z c.in-Some.more.now) c.in_ok-push.ensures.ok
    ∙ sym (separated_more (term_at c.args.limit) (after keyword.Or) c.args.limit c.loop-turn.turn c.loop-turn.found c.loop-turn.rest.now c.in_ok-one.one c.in_ok-one.behind_one.now c.in-Some.more.now
    c.loop-turn-test.true c.in_ok-one.ensures (sym c.in-Some.ensures))
    ∙ c.loop-turn.invariant
