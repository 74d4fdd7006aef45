use Rattle.std.proofs.Common.{◌≡◌, ◌+◌, List, ℕ, [], drop}
use Rattle.rj_explain.specs.Entries.{IsBehind, entry_length}
use Rattle.rj_explain.proofs.entries.entry_len.Given as goal

abbrev pub invariant-loop-i : goal.invariant-loop-i
invariant-loop-i l = (above : List ℕ) × IsBehind above l.place × (l.i + entry_length above (drop l.i l.list) ≡ entry_length [] l.list)
