use Rattle.std.proofs.Common.{ℕ, arith}
use Rattle.std.proofs.lemmas.Grind.{common_steps}
use Rattle.std.proofs.lemmas.List.{map_more}
use Rattle.rj_columns.specs.Contents.{nothing}
use Rattle.rj_engine.proofs.cells.add_nulls.Goals as goal

pub loop-row-preserved : goal.loop-row-preserved
loop-row-preserved c =
    let more = map_more (λ (i : ℕ). nothing) c.args.rows.now c.loop-row._row-index 0 (omega (arith, c.loop-row-test.true)) in
    grind (arith, common_steps, more, c.in_ok-push.ensures, c.loop-row.invariant)
