use Rattle.std.proofs.Common.{◌≡◌, ℕ, Bool, Some, true, length}
use Rattle.std.specs.Prelude.{◌↔◌}
use Rattle.std.specs.List.{slice_get}
use Rattle.rj_line.specs.Keys.{IsKeyColumn}
use Rattle.rj_line.proofs.suggest.keys.keys_of.Given as goal

abbrev pub invariant-loop-col : goal.invariant-loop-col
invariant-loop-col l = record {
  count : length l.keys.items ≡ l.col;
  each : (col : ℕ) (key : Bool) → slice_get l.keys.items col ≡ Some key → (key ≡ true) ↔ IsKeyColumn l.table col;
  end : l.col-end ≡ length l.table.types;
}
