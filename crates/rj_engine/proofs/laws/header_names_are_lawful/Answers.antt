use Rattle.rj_engine.proofs.NamingFacts.{header_named}
use Rattle.rj_engine.proofs.laws.header_names_are_lawful.Goals as goal

pub returns : goal.returns
returns c = header_named
