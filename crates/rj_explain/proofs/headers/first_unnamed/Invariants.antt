use Rattle.std.proofs.Common.{◌≡◌, drop, map}
use Rattle.std.specs.List.{find}
use Rattle.std.specs.Prelude.{is_none}
use Rattle.rj_settings.specs.Columns.{kind_of}
use Rattle.rj_explain.proofs.headers.first_unnamed.Given as goal

abbrev pub invariant-loop-i : goal.invariant-loop-i
invariant-loop-i l =
    find (λ name. is_none (kind_of l.entries name)) (drop l.i (map (λ n. n.now) l.names)) ≡ find (λ name. is_none (kind_of l.entries name)) (map (λ n. n.now) l.names)
