use Rattle.std.proofs.Common.{◌≡◌, ◌∙◌, ◌+◌, ◌-◌, ◌++◌, ◌≤◌, length, map, subst, ap, arith, sym}
use Rattle.std.specs.Prelude.{OnOk}
use Rattle.std.proofs.lemmas.List.{length-map}
use Rattle.rj_columns.specs.Contents.{content_of}
use Rattle.rj_columns.specs.Tables.{part_of}
use Rattle.rj_shards.proofs.PlacedFacts.{column-among}
use Rattle.rj_shards.proofs.division.placed.PlacedRowsRowSource.cells.Goals as goal

pub returns : goal.returns
returns c =
    let v = c.self.inside in
    let many : length c.args.self.now.cells ≡ length v.rows.now = ap (λ w. length w.cells) (sym c.self.view_is) ∙ length-map v.rows.now _ in
    let fits : c.args.from + (c.args.to - c.args.from) ≤ length v.rows.now = omega (arith, many, c.requires.order, c.requires.rows) in
    let cells = column-among v.table.now.rows v.first v.rows.now c.args.col c.args.from (c.args.to - c.args.from) fits in
    subst (λ more. OnOk c.add_cells.result (map content_of c.add_cells.new.cells.items ≡ map content_of c.args.cells.now.items ++ more))
    (cells ∙ ap (λ w. part_of w.cells c.args.col c.args.from (c.args.to - c.args.from)) c.self.view_is) c.add_cells.ensures
