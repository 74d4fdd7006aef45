use Rattle.std.proofs.Common.{◌≡◌, ◌≤◌, List, Some, arith, length, subst}
use Rattle.rj_settings.specs.declared.choice.SelectedColumn.{SelectedColumn}
use Rattle.rj_settings.specs.Selected.{IsSelected}
use Rattle.rj_settings.proofs.SelectedFacts.{column_once}
use Rattle.rj_settings.proofs.Separated.{one_separated}
use Rattle.rj_settings.proofs.types.selected.read_selected.Goals as goal

pub returns-else-len-le-MOST_ENTRIES : goal.returns-else-len-le-MOST_ENTRIES
returns-else-len-le-MOST_ENTRIES c = λ entries is.
    let read = rw c.in-Some.is at c.in_ok-entries.ensures in
    let same : entries ≡ c.in-Some.entries.items = one_separated IsSelected column_once entries c.in-Some.entries.items (Some c.args.text.now) is.0 read in
    let few : length c.in-Some.entries.items ≤ 256 = subst (λ (es : List SelectedColumn). length es ≤ 256) same is.1 in
    absurd (omega arith)
