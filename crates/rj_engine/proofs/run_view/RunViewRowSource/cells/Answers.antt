use Rattle.std.proofs.Common.{◌≡◌, ◌+◌, ◌-◌, ◌<◌, ◌++◌, ◌∙◌, All, ap, arith, drop, get_or, length, map, refl, rules, subst, sym}
use Rattle.std.specs.Prelude.{OnOk, slice_index_or}
use Rattle.rj_engine.specs.declared.origin.Origin.TheVariants as origin
use Rattle.std.proofs.lemmas.List.Elements.{All-drop, All-take}
use Rattle.std.proofs.lemmas.Simd.{map-map}
use Rattle.rj_columns.specs.Contents.{content_of}
use Rattle.rj_engine.specs.Cells.{IsMemberOf, joined_cell}
use Rattle.rj_engine.specs.Chosen.{shown_rows}
use Rattle.rj_engine.specs.Shown.{counted_from, rows_between, run_rows}
use Rattle.rj_engine.proofs.RunFacts.{fits-within, length-run, run-part}
use Rattle.rj_engine.proofs.Sections.{All-mapped, column_is}
use Rattle.rj_engine.proofs.run_view.RunViewRowSource.cells.Goals as goal

pub overflow_add-from : goal.overflow_add-from
overflow_add-from c =
    let v = c.self.inside in
    let size = ap (λ w. length w.cells) (sym c.self.view_is) ∙ length-run v.shown.now v.segment.now v.right.now v.joined.now.members v.run c.self.invariant in
    let low = fits-within v.run.from c.args.from v.run.to c.self.invariant.0 (omega (arith, size, c.requires.rows, c.requires.order)) (search rules) in
    omega (arith, low)

pub overflow_add-to : goal.overflow_add-to
overflow_add-to c =
    let v = c.self.inside in
    let size = ap (λ w. length w.cells) (sym c.self.view_is) ∙ length-run v.shown.now v.segment.now v.right.now v.joined.now.members v.run c.self.invariant in
    let low = fits-within v.run.from c.args.to v.run.to c.self.invariant.0 (omega (arith, size, c.requires.rows)) (search rules) in
    omega (arith, low)

pub add_shown-requires-clause-rows : goal.add_shown-requires-clause-rows
add_shown-requires-clause-rows c =
    let v = c.self.inside in
    let run = v.run in
    let P = IsMemberOf v.segment.now v.right.now in
    let rows = shown_rows v.shown.now.chosen v.joined.now.members in
    let ms = run_rows v.shown.now v.joined.now.members run in
    let size = ap (λ w. length w.cells) (sym c.self.view_is) ∙ length-run v.shown.now v.segment.now v.right.now v.joined.now.members run c.self.invariant in
    let part = run-part rows run.from c.args.from c.args.to (run.to - run.from) run.first c.requires.order (omega (arith, size, c.requires.rows)) in
    let some = All-take P (c.args.to - c.args.from) (drop c.args.from ms) (All-drop P c.args.from ms c.self.invariant.2) in
    All-mapped P (counted_from run.first) (rows_between (run.from + c.args.from) (run.from + c.args.to) rows) (subst (All P) (sym part) some)

pub returns : goal.returns
returns c =
    let v = c.self.inside in
    let run = v.run in
    let os = v.shown.now.origins.items in
    let rows = shown_rows v.shown.now.chosen v.joined.now.members in
    let ms = run_rows v.shown.now v.joined.now.members run in
    let size = ap (λ w. length w.cells) (sym c.self.view_is) ∙ length-run v.shown.now v.segment.now v.right.now v.joined.now.members run c.self.invariant in
    let part = run-part rows run.from c.args.from c.args.to (run.to - run.from) run.first c.requires.order (omega (arith, size, c.requires.rows)) in
    let own = rows_between (run.from + c.args.from) (run.from + c.args.to) rows in
    let r = c.add_shown.result in
    let o = slice_index_or os c.args.col (origin.Left 0) in
    let t = v.segment.now in
    let at : get_or os c.args.col (origin.Left 0) ≡ o = refl in
    let here : c.args.col < length os = search rules in
    let mapped = map-map (λ m. joined_cell t v.right.now m o) (counted_from run.first) own in
    let cells = column_is t v.right.now os ms c.args.self.now.cells c.args.col c.args.from c.args.to o (origin.Left 0) (map (counted_from run.first) own)
    (sym (ap (λ w. w.cells) c.self.view_is)) c.requires.order c.requires.rows here at part in
    subst (λ more. OnOk r (map content_of c.add_shown.new.cells.items ≡ map content_of c.args.cells.now.items ++ more)) (sym mapped ∙ cells) (c.add_shown.ensures (origin.Left 0))
