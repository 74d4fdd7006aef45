use Rattle.std.proofs.Common.{◌≡◌, drop, map}
use Rattle.std.specs.Prelude.{string_bytes}
use Rattle.rj_engine.specs.Naming.{is_among}
use Rattle.rj_engine.proofs.naming.is_written.Given as goal

abbrev pub invariant-loop-other : goal.invariant-loop-other
invariant-loop-other l = is_among (map string_bytes l.names) l.name ≡ is_among (map string_bytes (drop l.other-index l.names)) l.name
