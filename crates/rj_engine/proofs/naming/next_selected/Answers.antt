use Rattle.std.proofs.Common.{◌∙◌, sym}
use Rattle.rj_engine.specs.Cells.{IsColumnOf}
use Rattle.rj_engine.specs.Selected.{column_of_entry}
use Rattle.rj_engine.proofs.SelectedFacts.{entry-there, some-there}
use Rattle.rj_engine.proofs.naming.next_selected.Goals as goal

pub new_or_own-name-requires : goal.new_or_own-name-requires
new_or_own-name-requires c =
    let join = c.args.join.now in
    let l = c.args.left.now in
    let r = c.args.right.now in
    some-there (IsColumnOf l r) (column_of_entry join l r c.args.entry.now) c.in-Some.origin (sym c.in_ok-origin.ensures ∙ c.in-Some.is) (entry-there join l r c.requires c.args.entry.now)
