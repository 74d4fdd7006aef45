use Rattle.std.proofs.Common.{◌≡◌, drop}
use Rattle.rj_settings.specs.Columns.{first_kind}
use Rattle.rj_settings.specs.Lists.{is_rest}
use Rattle.rj_settings.proofs.types.columns.kind_of_rest.Given as goal

abbrev pub invariant-loop-entry : goal.invariant-loop-entry
invariant-loop-entry l = first_kind is_rest (drop l.entry-index l.entries) ≡ first_kind is_rest l.entries
