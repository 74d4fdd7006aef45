use Rattle.std.proofs.Common.{◌≡◌, ◌≤◌, ◌<◌, ◌-◌, ℕ, length, get_or}
use Rattle.rj_columns.proofs.ends.lower_wide.Given as goal

abbrev pub invariant-loop-i : goal.invariant-loop-i
invariant-loop-i l = record {
  size : length l.ends.items ≡ length l.fn.ends.items;
  end : l.i-end ≡ length l.fn.ends.items;
  from : l.from ≤ l.i;
  before : (k : ℕ) → k < l.from → get_or l.ends.items k 0 ≡ get_or l.fn.ends.items k 0;
  done : (k : ℕ) → l.from ≤ k → k < l.i → get_or l.ends.items k 0 ≡ get_or l.fn.ends.items k 0 - l.by;
  rest : (k : ℕ) → l.i ≤ k → get_or l.ends.items k 0 ≡ get_or l.fn.ends.items k 0;
}
