use Rattle.rj_csv_io.proofs.ReadBackFacts.{others-back}
use Rattle.rj_csv_io.proofs.laws.read_tables_read_back_by_others.Goals as goal

pub returns : goal.returns
returns c = others-back
