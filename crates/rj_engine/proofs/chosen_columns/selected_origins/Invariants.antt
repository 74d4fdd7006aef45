use Rattle.std.proofs.Common.{◌≡◌, take}
use Rattle.std.specs.List.{filter_map}
use Rattle.rj_engine.specs.Selected.{column_of_entry}
use Rattle.rj_engine.proofs.chosen_columns.selected_origins.Given as goal

abbrev pub invariant-loop-entry : goal.invariant-loop-entry
invariant-loop-entry l = l.found.items ≡ filter_map (column_of_entry l.join l.left l.right) (take l.entry-index l.entries)
