use Rattle.std.proofs.Common.{◌≡◌, ◌≤◌, ◌+◌, ◌-◌, ◌∙◌, ◌++◌, take, drop, ap, get_or, arith}
use Rattle.std.proofs.lemmas.List.{drop-drop}
use Rattle.rj_columns.specs.Contents.{nothing}
use Rattle.rj_columns.specs.Tables.{cell_of}
use Rattle.rj_columns.proofs.HashFacts.{Taking-run}
use Rattle.rj_columns.proofs.PartFacts.{part-column}
use Rattle.rj_columns.proofs.table.Table.hash_cells.Goals as goal

pub loop-done-preserved : goal.loop-done-preserved
loop-done-preserved g c =
    let order : c.loop-done.done ≤ c.run_end-end.result = omega (arith, c.run_end-end.ensures.more) in
    let place : c.loop-done.done + (c.run_end-end.result - c.loop-done.done) ≡ c.run_end-end.result = omega arith in
    let rest = drop-drop (c.run_end-end.result - c.loop-done.done) c.loop-done.done c.loop-done.hashes ∙ ap (λ n. drop n c.loop-done.hashes) place in
    record {
      taking =
          Taking-run (g.H.CellHash.added c.args.by.now) (λ r. cell_of c.args.self.now r c.args.col) (λ r. get_or c.column.result.now.cells (r - c.find-start.result.0) nothing)
          c.args.rows.now c.args.hashes.now c.loop-done.hashes c.hash_cells.new.hashes _ c.loop-done.done c.run_end-end.result order c.run_end-end.ensures.inside c.requires.len
          c.loop-done.invariant.taking c.hash_cells.ensures
          (λ k low high. let here = c.run_end-end.ensures.each k low high in
          part-column c.args.self.now c.find-start.result.1.now c.find-start.result.0 (get_or c.args.rows.now k 0) c.args.col c.column.result.now.cells c.find-start.ensures.part c.column.ensures.1
          here.0 (omega (arith, here.1, c.rows.ensures.count)))
          (ap (λ l. take c.loop-done.done c.loop-done.hashes ++ (c.hash_cells.new.hashes ++ l)) rest);
      inside = c.run_end-end.ensures.inside;
    }
