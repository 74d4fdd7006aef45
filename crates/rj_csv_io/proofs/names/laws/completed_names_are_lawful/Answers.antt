use Rattle.rj_csv_io.proofs.NameColumnFacts.{names-count}
use Rattle.rj_csv_io.proofs.LawfulFacts.{completed-lawful, name-kept}
use Rattle.rj_csv_io.proofs.names.laws.completed_names_are_lawful.Goals as goal

pub returns-clause-count : goal.returns-clause-count
returns-clause-count c = names-count

pub returns-clause-kept : goal.returns-clause-kept
returns-clause-kept c = name-kept

pub returns-clause-lawful : goal.returns-clause-lawful
returns-clause-lawful c = completed-lawful
