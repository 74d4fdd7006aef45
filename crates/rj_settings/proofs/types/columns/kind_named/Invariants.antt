use Rattle.std.proofs.Common.{◌≡◌, drop}
use Rattle.rj_settings.specs.Columns.{first_kind, names}
use Rattle.rj_settings.proofs.types.columns.kind_named.Given as goal

abbrev pub invariant-loop-named : goal.invariant-loop-named
invariant-loop-named l = first_kind (names l.called) (drop l.named-index l.entries) ≡ first_kind (names l.called) l.entries
