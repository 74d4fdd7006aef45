use Rattle.rj_engine.proofs.NamingFacts.{are_lawful, are_own, as_many}
use Rattle.rj_engine.proofs.laws.written_names_are_lawful.Goals as goal

pub returns-clause-many : goal.returns-clause-many
returns-clause-many c = as_many

pub returns-clause-lawful : goal.returns-clause-lawful
returns-clause-lawful c = are_lawful

pub returns-clause-own : goal.returns-clause-own
returns-clause-own c = are_own
