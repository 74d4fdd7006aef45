use Rattle.std.proofs.Common.{◌≡◌, ◌≤◌, ◌+◌, ◌-◌, ◌*◌, ◌^◌, ℕ, List, Option}
use Rattle.std.specs.Io.KnownBytes.{Consumes}
use Rattle.rj_shards.specs.Ranges.{IsReadFor}
use Rattle.rj_shards.proofs.division.next.next_piece.Given as goal

abbrev pub invariant-reading : goal.invariant-reading
invariant-reading g l = record {
  bytes : (start : Option (List ℕ)) → Consumes start (g.I.Input.tells l.fn.input) l.fn.bytes.items → Consumes start (g.I.Input.tells l.input) l.bytes.items;
  count : g.I.Input.count l.input ≡ g.I.Input.count l.fn.input;
  some : 1 ≤ l.size;
  least : l.fn.block ≤ l.size;
  read : (r : IsReadFor l.fn.delimiter l.fn.block l.fn.bytes.items l.bytes.items) × (l.size ≤ l.fn.block + 2 * r.plain + 1);
}

abbrev pub decreases-reading : goal.decreases-reading
decreases-reading g l = 2 ^ 64 - l.size
