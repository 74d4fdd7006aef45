use Rattle.std.proofs.Common.{◌≡◌, ◌++◌, drop, map}
use Rattle.rj_settings.specs.Columns.{shared_entry}
use Rattle.rj_settings.proofs.types.columns.with_shared.Given as goal

abbrev pub invariant-loop-entry : goal.invariant-loop-entry
invariant-loop-entry l = l.entries.items ++ map shared_entry (drop l.entry-index l.shared) ≡ l.fn.entries.items ++ map shared_entry l.shared
