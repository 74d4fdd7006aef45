use Rattle.std.proofs.Common.{◌≡◌, map, take}
use Rattle.std.specs.List.{range_with_len}
use Rattle.rj_command.proofs.join.running.partition_rows.Given as goal

abbrev pub invariant-loop-p : goal.invariant-loop-p
invariant-loop-p l = (map (λ r. r.number) l.rows.items ≡ range_with_len 0 l.p) × (map (λ r. r.left) l.rows.items ≡ take l.p l.lefts) × (map (λ r. r.right) l.rows.items ≡ take l.p l.rights)
