use Rattle.std.proofs.Common.{[], ◌∷◌, ◌++◌, take}
use Rattle.std.specs.List.{flat_map}
use Rattle.std.specs.Fmt.{HasWritten, IsPlainFormatter}
use Rattle.rj_command.specs.Statistics.{partition_text}
use Rattle.rj_command.proofs.join.stats.StatsDisplay.fmt.Given as goal

abbrev pub invariant-loop-rows : goal.invariant-loop-rows
invariant-loop-rows g l =
    IsPlainFormatter l.initial.f → HasWritten g.W.Write.write_str_gives l.initial.f (flat_map (λ p. partition_text p ++ 10 ∷ []) (take l.rows-index l.rows-items)) l.f
