use Rattle.std.proofs.Common.{◌≡◌, ◌<◌, ◌+◌, ◌-◌, ◌^◌, ℕ, List, Option, take, length}
use Rattle.std.specs.Prelude.{vec_len}
use Rattle.std.specs.Io.KnownBytes.{Consumes}
use Rattle.rj_csv_io.proofs.filling.read_up_to.Given as goal

abbrev pub invariant-loop-input : goal.invariant-loop-input
invariant-loop-input g l = record {
  bytes : (start : Option (List ℕ)) → Consumes start (g.I.Input.tells l.fn.input) l.fn.bytes.items → Consumes start (g.I.Input.tells l.input) l.bytes.items;
  count : g.I.Input.count l.input ≡ g.I.Input.count l.fn.input;
  front : take (length l.fn.bytes.items) l.bytes.items ≡ l.fn.bytes.items;
  bound : vec_len l.fn.bytes < vec_len l.bytes → vec_len l.bytes < l.size + 2 ^ 16;
}

abbrev pub decreases-loop-input : goal.decreases-loop-input
decreases-loop-input g l = l.size - vec_len l.bytes
