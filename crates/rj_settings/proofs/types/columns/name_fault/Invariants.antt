use Rattle.std.proofs.Common.{◌≡◌, drop, take, length, map}
use Rattle.rj_settings.specs.Columns.{name_fault_behind}
use Rattle.rj_settings.specs.Columns as columns
use Rattle.rj_settings.proofs.types.columns.name_fault.Given as goal

abbrev pub invariant-loop-i : goal.invariant-loop-i
invariant-loop-i l = record {
  rest : name_fault_behind (take l.i l.entries) (drop l.i l.entries) (map (λ c. c.now) l.header) ≡ columns.name_fault l.entries (map (λ c. c.now) l.header);
  end : l.i-end ≡ length l.entries;
}
