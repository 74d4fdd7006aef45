use Rattle.std.proofs.Common.{◌≡◌}
use Rattle.rj_condition.specs.Names.{matches}
use Rattle.rj_engine.specs.Cells.{name_of}
use Rattle.rj_engine.specs.Selected.{columns_named, the_only}
use Rattle.rj_engine.proofs.SelectedFacts.{only_behind}
use Rattle.rj_engine.proofs.chosen_columns.only_named.Given as goal

abbrev pub invariant-loop-origin : goal.invariant-loop-origin
invariant-loop-origin l =
    the_only (columns_named l.left l.right l.name l.columns) ≡ only_behind (λ o. matches l.name (name_of l.left l.right o)) l.columns l.origin-index l.found
