use Rattle.rj_engine.proofs.NamingFacts.{chosen_named}
use Rattle.rj_engine.proofs.SelectedNames.{chosen_lawful, chosen_many, listed_lawful}
use Rattle.rj_engine.proofs.laws.chosen_names_are_lawful.Goals as goal

pub returns-clause-own : goal.returns-clause-own
returns-clause-own c = chosen_named

pub returns-clause-many : goal.returns-clause-many
returns-clause-many c = chosen_many

pub returns-clause-lawful : goal.returns-clause-lawful
returns-clause-lawful c = chosen_lawful

pub returns-clause-selected : goal.returns-clause-selected
returns-clause-selected c = listed_lawful
