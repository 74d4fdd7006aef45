use Rattle.std.proofs.Common.{◌≡◌, ◌∙◌, ap, sym, Some, true≢false}
use Rattle.rj_settings.specs.Lists.{IsEntry, are_alike}
use Rattle.rj_settings.proofs.OneList.{type_once}
use Rattle.rj_settings.proofs.Separated.{one_separated}
use Rattle.rj_settings.proofs.types.list.read_list.Goals as goal

pub returns-else-are_alike : goal.returns-else-are_alike
returns-else-are_alike c = λ entries is.
    let read = rw c.in-Some.is at c.in_ok-entries.ensures in
    let same : entries ≡ c.in-Some.entries.items = one_separated IsEntry type_once entries c.in-Some.entries.items (Some c.args.text.now) is.0 read in
    true≢false (sym is.1 ∙ (ap are_alike (same ∙ sym c.as_slice.ensures.value) ∙ (sym c.are_alike.ensures ∙ c.if-are_alike.false)))
