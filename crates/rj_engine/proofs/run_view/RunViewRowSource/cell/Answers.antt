use Rattle.std.proofs.Common.{◌≡◌, ◌-◌, ◌<◌, ◌∙◌, ap, arith, length, rules, subst, sym}
use Rattle.rj_columns.specs.Tables.{cell_in}
use Rattle.rj_engine.specs.Cells.{IsMemberOf, joined_cell}
use Rattle.rj_engine.specs.Chosen.{shown_rows}
use Rattle.rj_engine.specs.Shown.{counted_from, run_rows}
use Rattle.rj_engine.proofs.RunFacts.{fits-within, length-run, run-place}
use Rattle.rj_engine.proofs.Sections.{cell_at_place}
use Rattle.std.proofs.lemmas.List.{length-map}
use Rattle.rj_engine.proofs.run_view.RunViewRowSource.cell.Goals as goal

pub overflow_add-place : goal.overflow_add-place
overflow_add-place c =
    let v = c.self.inside in
    let size = ap (λ w. length w.cells) (sym c.self.view_is) ∙ length-run v.shown.now v.segment.now v.right.now v.joined.now.members v.run c.self.invariant in
    let low = fits-within v.run.from c.args.row v.run.to c.self.invariant.0 (omega (arith, size, c.requires.row)) (search rules) in
    omega (arith, low)

pub cell_at-requires-clause-row : goal.cell_at-requires-clause-row
cell_at-requires-clause-row c =
    let v = c.self.inside in
    let rows = shown_rows v.shown.now.chosen v.joined.now.members in
    let cells = length-run v.shown.now v.segment.now v.right.now v.joined.now.members v.run c.self.invariant in
    let size = ap (λ w. length w.cells) (sym c.self.view_is) ∙ cells in
    let low : c.args.row < v.run.to - v.run.from = omega (arith, size, c.requires.row) in
    let ms = run_rows v.shown.now v.joined.now.members v.run in
    let many : length ms ≡ v.run.to - v.run.from = sym (length-map ms _) ∙ cells in
    let at = run-place rows v.run.from (v.run.to - v.run.from) c.args.row v.run.first c.row_at-member.result low c.row_at-member.ensures in
    subst (IsMemberOf v.segment.now v.right.now) (at ∙ sym c.counted_from-counted.ensures)
    (c.self.invariant.2 c.args.row (counted_from v.run.first c.row_at-member.result) (omega (arith, many, low)))

pub returns : goal.returns
returns c =
    let v = c.self.inside in
    let rows = shown_rows v.shown.now.chosen v.joined.now.members in
    let os = v.shown.now.origins.items in
    let cells = length-run v.shown.now v.segment.now v.right.now v.joined.now.members v.run c.self.invariant in
    let size = ap (λ w. length w.cells) (sym c.self.view_is) ∙ cells in
    let low : c.args.row < v.run.to - v.run.from = omega (arith, size, c.requires.row) in
    let ms = run_rows v.shown.now v.joined.now.members v.run in
    let many : length ms ≡ v.run.to - v.run.from = sym (length-map ms _) ∙ cells in
    let m = counted_from v.run.first c.row_at-member.result in
    let at = run-place rows v.run.from (v.run.to - v.run.from) c.args.row v.run.first c.row_at-member.result low c.row_at-member.ensures in
    let here : c.args.col < length os = search rules in
    let place = cell_at_place v.segment.now v.right.now os ms c.args.row c.args.col m c.index.result.now (omega (arith, many, low)) here in
    c.cell_at.ensures
    ∙ ((λ t. joined_cell v.segment.now v.right.now ((c.counted_from-counted.ensures ∙ sym at) t) (c.index.ensures t))
    ∙ (sym place ∙ ap (λ w. cell_in w.cells c.args.row c.args.col) c.self.view_is))
