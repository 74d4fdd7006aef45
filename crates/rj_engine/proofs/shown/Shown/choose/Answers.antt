use Rattle.std.proofs.Common.{◌≤◌, ◌∙◌, All, List, ap, length, map, subst, sym}
use Rattle.rj_engine.specs.Cells.{IsMemberOf, shown_scale}
use Rattle.rj_engine.specs.Chosen.{chosen_rows, left_place}
use Rattle.rj_engine.specs.Join.{JoinedValue, rows_in}
use Rattle.rj_engine.specs.declared.joined.JoinedRow.{JoinedRow}
use Rattle.rj_engine.proofs.ChosenFacts.{chosen-columns-there, chosen-there, places-within}
use Rattle.rj_engine.proofs.shown.Shown.choose.Goals as goal

pub choose_rows-requires : goal.choose_rows-requires
choose_rows-requires c =
    let l = c.args.left.now in
    let Within : JoinedValue → Type 0 = λ v. All (λ row. left_place (length l.rows) row ≤ length l.rows) (rows_in v) in
    rw c.rows.ensures.count (subst Within (sym c.requires.joined) (places-within c.args.join.now l c.args.right.now))

pub scales_of-requires : goal.scales_of-requires
scales_of-requires c =
    rw (c.deref.ensures.value, c.in_ok-origins.ensures) (chosen-columns-there c.args.choice.now c.args.join.now c.args.left.now c.args.right.now c.requires.bound)

pub returns-clause-there : goal.returns-clause-there
returns-clause-there c =
    let l = c.args.left.now in
    let r = c.args.right.now in
    let choice = c.args.choice.now in
    let There : List JoinedRow → Type 0 = All (IsMemberOf l r) in
    let rows = c.in_ok-chosen.ensures ∙ (ap (λ m. chosen_rows choice m c.args.joined.now.members) c.rows.ensures.count ∙ ap (chosen_rows choice (length l.rows)) c.requires.joined) in
    let columns = chosen-columns-there choice c.args.join.now l r c.requires.bound in (
      subst There (sym rows) (chosen-there choice c.args.join.now l r),
      (rw c.in_ok-origins.ensures columns, c.in_ok-scales.ensures ∙ ap (map (shown_scale l r)) c.deref.ensures.value),
    )
