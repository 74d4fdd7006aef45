use Rattle.rj_csv_io.proofs.LawFacts.{read_tables_hold_their_types}
use Rattle.rj_csv_io.proofs.laws.read_tables_hold_their_types.Goals as goal

pub returns : goal.returns
returns c = read_tables_hold_their_types
