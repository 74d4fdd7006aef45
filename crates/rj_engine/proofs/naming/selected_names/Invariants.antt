use Rattle.std.proofs.Common.{◌≡◌, length, map}
use Rattle.std.specs.Prelude.{string_bytes}
use Rattle.rj_engine.specs.Naming.{selected_names}
use Rattle.rj_engine.proofs.SelectedNames.{selected_behind}
use Rattle.rj_engine.proofs.naming.selected_names.Given as goal

abbrev pub invariant-loop-number : goal.invariant-loop-number
invariant-loop-number l = record {
  many : length l.written.items ≡ l.number;
  left : selected_names l.join l.left l.right l.entries ≡ selected_behind l.join l.left l.right l.entries (map string_bytes l.written.items) l.number;
  end : l.number-end ≡ length l.entries;
}
