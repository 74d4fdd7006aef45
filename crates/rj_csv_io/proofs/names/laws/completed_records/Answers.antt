use Rattle.rj_csv_io.proofs.RecordFacts.{completed-records}
use Rattle.rj_csv_io.proofs.names.laws.completed_records.Goals as goal

pub returns : goal.returns
returns c = λ d bytes lawful left. completed-records d lawful bytes left
