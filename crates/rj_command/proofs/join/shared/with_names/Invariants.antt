use Rattle.std.proofs.Common.{◌≡◌, ◌++◌, drop, length, map}
use Rattle.rj_command.proofs.join.shared.with_names.Given as goal

abbrev pub invariant-loop-i : goal.invariant-loop-i
invariant-loop-i l =
    (map (λ n. n.now) l.names.items ++ drop l.i l.table.names ≡ map (λ n. n.now) l.fn.names.items ++ l.table.names)
    × (l.i-end ≡ length l.table.names)
