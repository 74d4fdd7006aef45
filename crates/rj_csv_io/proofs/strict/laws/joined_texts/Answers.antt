use Rattle.rj_csv_io.proofs.StrictLawFacts.{joined_texts}
use Rattle.rj_csv_io.proofs.strict.laws.joined_texts.Goals as goal

pub returns : goal.returns
returns c = joined_texts
