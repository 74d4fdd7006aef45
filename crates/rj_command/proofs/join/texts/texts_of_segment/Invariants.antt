use Rattle.std.proofs.Common.{◌≡◌, map, take}
use Rattle.std.specs.List.{filter}
use Rattle.rj_command.specs.Internal.Texts.{is_of, run_text, whole_text}
use Rattle.rj_command.proofs.join.texts.texts_of_segment.Given as goal

abbrev pub invariant-loop-run : goal.invariant-loop-run
invariant-loop-run l = map whole_text l.texts.items ≡ map (run_text l.written l.segment) (filter (is_of l.number) (take l.run-index l.runs))
