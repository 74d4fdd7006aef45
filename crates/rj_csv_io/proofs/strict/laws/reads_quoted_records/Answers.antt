use Rattle.rj_csv_io.proofs.StrictLawFacts.{reads_quoted_records}
use Rattle.rj_csv_io.proofs.strict.laws.reads_quoted_records.Goals as goal

pub returns : goal.returns
returns c = reads_quoted_records
