use Rattle.rj_csv_io.proofs.ReadBackFacts.{read-back}
use Rattle.rj_csv_io.proofs.laws.read_tables_read_back.Goals as goal

pub returns : goal.returns
returns c = read-back
