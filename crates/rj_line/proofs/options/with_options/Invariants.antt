use Rattle.std.proofs.Common.{map, take}
use Rattle.rj_line.specs.Options.{IsChain, rule_of_option}
use Rattle.rj_line.proofs.options.with_options.Given as goal

abbrev pub invariant-loop-option : goal.invariant-loop-option
invariant-loop-option l = IsChain l.fn.command (map rule_of_option (take l.option-index l.options)) l.command
