use Rattle.rj_csv_io.proofs.StrictLawFacts.{derived_with_header}
use Rattle.rj_csv_io.proofs.strict.laws.derived_with_header.Goals as goal

pub returns : goal.returns
returns c = derived_with_header
