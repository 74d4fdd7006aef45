use Rattle.std.proofs.Common.{◌≡◌, ◌≤◌, ◌+◌, ◌++◌, length, drop, take}
use Rattle.rj_exchange.specs.Standing.{following, rows_of_all, any_close}
use Rattle.rj_exchange.proofs.ledger.intake.append_following.Given as goal

abbrev pub invariant-loop-number : goal.invariant-loop-number
invariant-loop-number l = record {
  left : l.number-iterator ≡ drop l.count l.held.entries;
  within : l.count ≤ length l.held.entries;
  rows : l.rows.items ≡ l.fn.rows.items ++ rows_of_all (take l.count l.held.entries);
  closed : l.closed ≡ any_close (take l.count l.held.entries);
  run : following l.from l.held.entries ≡ take l.count l.held.entries ++ following (l.from + l.count) (drop l.count l.held.entries);
}
