use Rattle.std.proofs.Common.{◌∙◌, ap, refl}
use Rattle.rj_engine.specs.Cells.{name_of}
use Rattle.rj_engine.specs.Selected.{columns_from, columns_named, the_only}
use Rattle.rj_explain.specs.Selected.{name_among}
use Rattle.rj_explain.proofs.SelectedFacts.{name-among}
use Rattle.rj_explain.proofs.selected.name_of_entry.Goals as goal

pub returns : goal.returns
returns c =
    let left = c.args.columns.now.left in
    let right = c.args.columns.now.right in
    let entry = c.args.entry.now in
    let meant = rw c.as_slice.ensures.value at c.name_among.ensures in
    meant ∙ (ap (name_among entry.written) c.in_ok-meant.ensures
    ∙ name-among the_only entry.written (name_of left right) refl (λ o. refl) (λ o p columns. refl)
    (columns_named left right entry.name (columns_from entry.source c.args.join.now left right)))
