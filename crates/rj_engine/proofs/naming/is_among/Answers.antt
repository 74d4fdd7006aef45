use Rattle.std.proofs.Common.{◌∙◌, sym}
use Rattle.rj_engine.proofs.NamingFacts.{among_behind, among_here}
use Rattle.rj_engine.proofs.naming.is_among.Goals as goal

pub returns-then-are_alike : goal.returns-then-are_alike
returns-then-are_alike c =
    among_here (λ n. n.now) c.args.names.now c.args.name.now c.loop-other.other-index _ c.loop-other-test.true
    (sym c.are_alike.ensures ∙ c.if-are_alike.true) c.loop-other.invariant

pub loop-other-preserved : goal.loop-other-preserved
loop-other-preserved c =
    among_behind (λ n. n.now) c.args.names.now c.args.name.now c.loop-other.other-index _ c.loop-other-test.true
    (sym c.are_alike.ensures ∙ c.if-are_alike.false) c.loop-other.invariant
