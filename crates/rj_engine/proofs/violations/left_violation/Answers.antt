use Rattle.std.proofs.Common.{◌<◌, ℕ, List, All, subst, sym, ◌∙◌}
use Rattle.rj_engine.proofs.Repeats.{below-of}
use Rattle.rj_engine.proofs.violations.left_violation.Goals as goal

pub first_repeated-requires : goal.first_repeated-requires
first_repeated-requires c =
    subst (λ (ns : List ℕ). All (λ n. n < c.args.lefts) ns) (sym (c.as_slice.ensures.value ∙ c.in_ok-rows.ensures)) (below-of (λ (p : ℕ × ℕ). p.0) c.args.pairs.now c.args.lefts c.requires)
