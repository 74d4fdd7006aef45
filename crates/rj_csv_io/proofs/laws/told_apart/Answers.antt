use Rattle.rj_csv_io.proofs.ApartFacts.{told_apart}
use Rattle.rj_csv_io.proofs.laws.told_apart.Goals as goal

pub returns : goal.returns
returns c = told_apart
