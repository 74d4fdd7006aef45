use Rattle.rj_csv_io.proofs.StrictLawFacts.{reads_all_records}
use Rattle.rj_csv_io.proofs.strict.laws.reads_all_records.Goals as goal

pub returns : goal.returns
returns c = reads_all_records
