use Rattle.rj_csv_io.proofs.CellBackFacts.{cell-back}
use Rattle.rj_csv_io.proofs.laws.cells_read_back.Goals as goal

pub returns : goal.returns
returns c = λ nulls null kind x lawful among. cell-back nulls null lawful among kind x
