use Rattle.std.proofs.Common.{◌≡◌, map}
use Rattle.std.specs.Prelude.{string_bytes}
use Rattle.rj_engine.specs.Naming.{free_name, marked}
use Rattle.rj_engine.proofs.NamingFacts.{free_behind}
use Rattle.rj_engine.proofs.naming.free_name.Given as goal

abbrev pub invariant-loop-marks : goal.invariant-loop-marks
invariant-loop-marks l = record {
  marked : string_bytes l.marked ≡ marked l.fn.repeated l.name l._marks;
  left : free_name l.fn.repeated (map (λ n. n.now) l.header) (map string_bytes l.written) l.name
      ≡ free_behind l.fn.repeated (map (λ n. n.now) l.header) (map string_bytes l.written) l.name l._marks;
}
