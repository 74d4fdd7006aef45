use Rattle.rj_csv_io.proofs.ReadBackFacts.{cell-again}
use Rattle.rj_csv_io.proofs.laws.read_cells_read_back.Goals as goal

pub returns : goal.returns
returns c = cell-again
