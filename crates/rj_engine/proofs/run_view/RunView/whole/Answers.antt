use Rattle.std.proofs.Common.{◌≡◌, ◌-◌, ◌∙◌, All, List, ap, arith, drop, length, map, subst, sym, take}
use Rattle.std.proofs.lemmas.List.{take_all}
use Rattle.rj_engine.specs.Cells.{IsMemberOf, joined_cells}
use Rattle.rj_engine.specs.Chosen.{shown_rows}
use Rattle.rj_engine.specs.Shown.{counted_from}
use Rattle.rj_engine.specs.declared.joined.JoinedRow.{JoinedRow}
use Rattle.rj_engine.proofs.RunFacts.{all-counted-zero}
use Rattle.rj_engine.proofs.run_view.RunView.whole.Goals as goal

-- the members up to their number, counted from the first row on, are all
whole_rows : (rows : List JoinedRow) (n : _) → n ≡ length rows → map (counted_from 0) (take (n - 0) (drop 0 rows)) ≡ rows
whole_rows rows n is = ap (map (counted_from 0)) (take_all (n - 0) rows (omega (arith, is))) ∙ all-counted-zero rows

pub open-requires : goal.open-requires
open-requires c =
    let rows = shown_rows c.args.shown.now.chosen c.args.joined.now.members in
    (omega arith, omega (arith, c.count_of.ensures), subst (All (IsMemberOf c.args.left.now c.args.right.now)) (sym (whole_rows rows _ c.count_of.ensures)) c.requires.0, c.requires.1)

pub returns : goal.returns
returns c =
    let rows = shown_rows c.args.shown.now.chosen c.args.joined.now.members in
    let os = c.args.shown.now.origins.items in
    c.open.ensures ∙ (λ t. record { cells = map (joined_cells c.args.left.now c.args.right.now os) (whole_rows rows _ c.count_of.ensures t); width = length os })
