use Rattle.std.proofs.Common.{◌≡◌, ◌++◌, drop, map}
use Rattle.std.specs.List.{filter_map}
use Rattle.rj_settings.specs.Columns.{kind_of}
use Rattle.rj_settings.proofs.types.columns.kinds_by_name.Given as goal

abbrev pub invariant-loop-called : goal.invariant-loop-called
invariant-loop-called l =
    l.all.items ++ filter_map (kind_of l.entries) (map (λ c. c.now) (drop l.called-index l.header)) ≡ filter_map (kind_of l.entries) (map (λ c. c.now) l.header)
