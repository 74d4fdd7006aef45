use Rattle.std.proofs.Common.{◌≡◌, ◌++◌, codes, map, take}
use Rattle.std.specs.Prelude.{string_bytes}
use Rattle.rj_explain.specs.Shown.{listed}
use Rattle.rj_line.specs.Shown.{shown}
use Rattle.rj_explain.proofs.headers.names_line.Given as goal

abbrev pub invariant-loop-i : goal.invariant-loop-i
invariant-loop-i l = string_bytes l.list ≡ codes "  the header has " ++ listed (take l.i (map shown (map (λ n. n.now) l.names)))
