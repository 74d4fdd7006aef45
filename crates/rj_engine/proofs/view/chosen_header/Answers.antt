use Rattle.rj_engine.proofs.ChosenFacts.{chosen-columns-there}
use Rattle.rj_engine.proofs.view.chosen_header.Goals as goal

pub names_of-requires : goal.names_of-requires
names_of-requires c =
    rw (c.deref.ensures.value, c.in_ok-columns.ensures) (chosen-columns-there c.args.choice.now c.args.join.now c.args.left.now c.args.right.now c.requires)
