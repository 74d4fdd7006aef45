use Rattle.std.proofs.Common.{◌≡◌, ◌++◌, drop, length, map}
use Rattle.rj_command.specs.Alike.{names_of, text_key_names}
use Rattle.rj_command.proofs.join.alike.told_keys.Given as goal

abbrev pub invariant-loop-k : goal.invariant-loop-k
invariant-loop-k l = record {
  so_far : map names_of l.told.items ++ text_key_names l.request l.operands.left l.operands.right (drop l.k l.keys)
      ≡ text_key_names l.request l.operands.left l.operands.right l.keys;
  end : l.k-end ≡ length l.keys;
}
