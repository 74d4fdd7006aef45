use Rattle.std.proofs.Common.{◌≡◌, ◌≤◌}
use Rattle.std.specs.Io.KnownBytes.{Consumes}
use Rattle.shards.proofs.head.read_head_of.Given as goal

abbrev pub invariant-loop-turn : goal.invariant-loop-turn
invariant-loop-turn g l = record {
  unfailed : g.I.Input.count l.input ≡ g.I.Input.count l.fn.input;
  bytes : Consumes (g.I.Input.tells l.fn.input) (g.I.Input.tells l.input) l.bytes.items;
  size : 3 ≤ l.size;
}
