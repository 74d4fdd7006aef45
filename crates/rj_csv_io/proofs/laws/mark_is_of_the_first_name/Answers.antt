use Rattle.rj_csv_io.proofs.LawFacts.{mark_is_of_the_first_name}
use Rattle.rj_csv_io.proofs.laws.mark_is_of_the_first_name.Goals as goal

pub returns : goal.returns
returns c = mark_is_of_the_first_name
