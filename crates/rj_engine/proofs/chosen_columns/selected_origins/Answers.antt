use Rattle.std.proofs.Common.{◌∙◌, ◌++◌, ap, append-nil, sym}
use Rattle.std.specs.Prelude.{option_to_list}
use Rattle.rj_engine.specs.Selected.{column_of_entry}
use Rattle.rj_engine.proofs.SelectedFacts.{selected_step}
use Rattle.rj_engine.proofs.chosen_columns.selected_origins.Goals as goal
use Rattle.rj_engine.proofs.chosen_columns.selected_origins.Goals.{in-None, in-Some+in_ok-push-in-Some}

pub loop-entry-preserved : goal.loop-entry-preserved
loop-entry-preserved c =
    let f = column_of_entry c.args.join.now c.args.left.now c.args.right.now in
    let before = c.loop-entry.found.items in
    let found = c.in_ok-column_of_entry.field-0 in
    selected_step f c.args.entries.now c.loop-entry.entry-index c.entry-item.result before _ found c.loop-entry-test.true c.loop-entry.invariant
    (c.in_ok-column_of_entry.ensures ∙ ap f c.entry-item.is) (elim c.match-branch-3.branch [
      | in-Some+in_ok-push-in-Some w ↦ ap (λ v. v.items) w.found-is ∙ (w.in_ok-push-in-Some.ensures.items ∙ sym (ap (λ o. before ++ option_to_list o) w.in-Some.is))
      | in-None w ↦ ap (λ v. v.items) w.found-is ∙ (sym (append-nil before) ∙ sym (ap (λ o. before ++ option_to_list o) w.in-None.is))
    ])
