use Rattle.rj_csv_io.proofs.LawFacts.{null_texts_read_as_null}
use Rattle.rj_csv_io.proofs.laws.null_texts_read_as_null.Goals as goal

pub returns : goal.returns
returns c = null_texts_read_as_null
