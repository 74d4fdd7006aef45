use Rattle.rj_engine.proofs.SelectedFacts.{from-there}
use Rattle.rj_engine.proofs.chosen_columns.column_of_entry.Goals as goal

pub only_named-requires : goal.only_named-requires
only_named-requires c =
    rw (c.deref.ensures.value, c.in_ok-columns.ensures) (from-there c.args.join.now c.args.left.now c.args.right.now c.requires c.args.entry.now.source)
