use Rattle.std.proofs.Common.{◌≡◌, ◌++◌, drop, map}
use Rattle.std.specs.List.{concat}
use Rattle.rj_line.specs.Entries.{entry_line}
use Rattle.rj_line.proofs.suggest.entries.lines_of_entries.Given as goal

abbrev pub invariant-loop-entry : goal.invariant-loop-entry
invariant-loop-entry l = l.lines.items ++ concat (map entry_line (drop l.entry-index l.entries)) ≡ concat (map entry_line l.entries)
