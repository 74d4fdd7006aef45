use Rattle.std.proofs.Common.{◌≡◌, drop, map, not}
use Rattle.std.specs.Prelude.{◌&&◌}
use Rattle.std.specs.List.{list_any}
use Rattle.rj_condition.specs.Names.{matches}
use Rattle.rj_settings.specs.Columns.{names}
use Rattle.rj_settings.proofs.types.columns.is_new.Given as goal

abbrev pub invariant-loop-called : goal.invariant-loop-called
invariant-loop-called l =
    list_any (λ called. matches l.name called && not (list_any (λ e. names called e.label) l.entries)) (map (λ c. c.now) (drop l.called-index l.header))
    ≡ list_any (λ called. matches l.name called && not (list_any (λ e. names called e.label) l.entries)) (map (λ c. c.now) l.header)
