use Rattle.std.proofs.Common.{◌≡◌, ◌∙◌, ap, sym, true≢false, List}
use Rattle.std.specs.List.{list_all}
use Rattle.rj_settings.specs.Lists.{is_name}
use Rattle.rj_settings.specs.declared.types.entry.TypeEntry.{TypeEntry}
use Rattle.rj_settings.proofs.OneList.{one_list}
use Rattle.rj_settings.proofs.types.list.read_shared_list.Goals as goal

pub returns-else-are_names : goal.returns-else-are_names
returns-else-are_names c = λ entries is.
    let read = rw c.in-Some.is at c.in_ok-entries.ensures in
    let same : entries ≡ c.in-Some.entries.items = one_list c.args.text.now entries c.in-Some.entries.items is.0 read in
    true≢false (sym is.1 ∙ (ap (λ (es : List TypeEntry). list_all (λ e. is_name e.label) es) (same ∙ sym c.as_slice.ensures.value) ∙ (sym c.are_names.ensures ∙ c.if-are_names.false)))
