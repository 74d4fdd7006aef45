use Rattle.rj_csv_io.proofs.StrictLawFacts.{one_derivation}
use Rattle.rj_csv_io.proofs.strict.laws.one_derivation.Goals as goal

pub returns : goal.returns
returns c = one_derivation
