use Rattle.std.proofs.Common.{◌≡◌, ◌≤◌, ◌+◌, ◌-◌, ◌∙◌, ◌++◌, ◌∷◌, [], ap, append_assoc, arith, map, sym}
use Rattle.std.proofs.lemmas.List.{append-nil, map-append}
use Rattle.rj_columns.specs.Contents.{content_of}
use Rattle.rj_columns.specs.Tables.{cell_in, part_of}
use Rattle.rj_csv_io.proofs.BlockFacts.{part-more, part-none}
use Rattle.rj_csv_io.proofs.columns.add_same.Goals as goal

pub loop-row-init : goal.loop-row-init
loop-row-init c = λ rows col same.
    let none : c.args.from - c.args.from ≡ 0 = omega arith in
    sym (ap (λ n. map content_of c.args.cells.now.items ++ part_of rows col c.args.from n) none
    ∙ (ap (λ t. map content_of c.args.cells.now.items ++ t) (part-none rows col c.args.from) ∙ append-nil (map content_of c.args.cells.now.items)))

pub loop-row-preserved : goal.loop-row-preserved
loop-row-preserved c = λ rows col same.
    let from = c.args.from in
    let n = c.loop-row._row - from in
    let old = map content_of c.args.cells.now.items in
    let low : from ≤ c.loop-row._row = omega arith in
    let next : c.loop-row._row + 1 - from ≡ n + 1 = omega (arith, low) in
    let at : from + n ≡ c.loop-row._row = omega (arith, low) in
    let cell = ap (λ k. cell_in rows k col) at ∙ same c.loop-row._row c.loop-row-test.true in
    let more = ap (part_of rows col from) next ∙ (part-more rows col from n ∙ ap (λ x. part_of rows col from n ++ x ∷ []) cell) in
    rw (c.in_ok-push.ensures.items, map-append, c.loop-row.invariant rows col same) (append_assoc old (part_of rows col from n) _ ∙ ap (λ t. old ++ t) (sym more))
