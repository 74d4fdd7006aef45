use Rattle.std.proofs.Common.{◌≡◌, ◌-◌, ◌<◌, ◌++◌, ◌∙◌, All, ap, drop, get_or, length, map, refl, rules, subst, sym}
use Rattle.std.specs.Prelude.{OnOk, slice_index_or}
use Rattle.std.proofs.lemmas.List.Elements.{All-drop, All-take}
use Rattle.rj_columns.specs.Contents.{content_of}
use Rattle.rj_engine.specs.Cells.{IsMemberOf, joined_cell}
use Rattle.rj_engine.specs.Chosen.{shown_rows}
use Rattle.rj_engine.specs.Shown.{counted_from, rows_between}
use Rattle.rj_engine.specs.declared.origin.Origin.TheVariants as origin
use Rattle.rj_engine.proofs.RunFacts.{all-counted-zero, counted-zero}
use Rattle.rj_engine.proofs.Sections.{All-mapped, column_is}
use Rattle.rj_engine.proofs.view.ViewRowSource.cells.Goals as goal

pub add_shown-requires-clause-rows : goal.add_shown-requires-clause-rows
add_shown-requires-clause-rows c =
    let v = c.self.inside in
    let P = IsMemberOf v.left.now v.right.now in
    let rows = shown_rows v.shown.chosen v.joined.now.members in
    let own = rows_between c.args.from c.args.to rows in
    let some = All-take P (c.args.to - c.args.from) (drop c.args.from rows) (All-drop P c.args.from rows c.self.invariant.0) in
    All-mapped P (counted_from 0) own (subst (All P) (sym (all-counted-zero own)) some)

pub returns : goal.returns
returns c =
    let v = c.self.inside in
    let os = v.shown.origins.items in
    let rows = shown_rows v.shown.chosen v.joined.now.members in
    let own = rows_between c.args.from c.args.to rows in
    let o = slice_index_or os c.args.col (origin.Left 0) in
    let at : get_or os c.args.col (origin.Left 0) ≡ o = refl in
    let here : c.args.col < length os = search rules in
    let cells = column_is v.left.now v.right.now os rows c.args.self.now.cells c.args.col c.args.from c.args.to o (origin.Left 0) own
    (sym (ap (λ w. w.cells) c.self.view_is)) c.requires.order c.requires.rows here at refl in
    let counted : map (λ row. joined_cell v.left.now v.right.now (counted_from 0 row) o) own ≡ map (λ row. joined_cell v.left.now v.right.now row o) own
    = λ t. map (λ row. joined_cell v.left.now v.right.now (counted-zero row t) o) own in
    subst (λ more. OnOk c.add_shown.result (map content_of c.add_shown.new.cells.items ≡ map content_of c.args.cells.now.items ++ more)) (counted ∙ cells) (c.add_shown.ensures (origin.Left 0))
