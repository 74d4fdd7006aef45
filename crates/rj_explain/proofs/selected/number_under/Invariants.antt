use Rattle.std.proofs.Common.{◌≡◌, ◌+◌, drop, length}
use Rattle.std.specs.List.{position_from}
use Rattle.rj_engine.specs.Naming.{name_of_entry}
use Rattle.rj_explain.specs.Selected.{is_alike, number_under}
use Rattle.rj_explain.proofs.selected.number_under.Given as goal

abbrev pub invariant-loop-i : goal.invariant-loop-i
invariant-loop-i l = record {
  place : number_under l.join l.columns.left l.columns.right l.entries l.name
      ≡ position_from (λ entry. is_alike l.name (name_of_entry l.join l.columns.left l.columns.right entry)) (l.i + 1) (drop l.i l.entries);
  all : l.i-end ≡ length l.entries;
}
