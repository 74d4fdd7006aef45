use Rattle.std.proofs.Common.{◌≡◌, ℕ, Option, Some, false, length, slice_index_or}
use Rattle.std.specs.List.{slice_get}
use Rattle.rj_line.specs.Keys.{IsKeyMisfit}
use Rattle.rj_line.specs.declared.suggest.suggestion.Misfit.{Misfit}
use Rattle.rj_line.proofs.suggest.keys.misfits_of_keys.Given as goal

abbrev pub invariant-loop-col : goal.invariant-loop-col
invariant-loop-col l = record {
  count : length l.misfits.items ≡ l.col;
  each : (col : ℕ) (misfit : Option Misfit) → slice_get l.misfits.items col ≡ Some misfit → IsKeyMisfit (slice_index_or l.keys col false) l.table col misfit;
  end : l.col-end ≡ length l.table.types;
}
