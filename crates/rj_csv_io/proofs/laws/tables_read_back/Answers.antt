use Rattle.rj_csv_io.proofs.LawFacts.{tables_read_back}
use Rattle.rj_csv_io.proofs.laws.tables_read_back.Goals as goal

pub returns : goal.returns
returns c = tables_read_back
