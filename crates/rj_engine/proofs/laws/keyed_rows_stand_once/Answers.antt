use Rattle.rj_engine.proofs.OnceFacts.{left_once, right_once}
use Rattle.rj_engine.proofs.laws.keyed_rows_stand_once.Goals as goal

pub returns-clause-left : goal.returns-clause-left
returns-clause-left c = left_once

pub returns-clause-right : goal.returns-clause-right
returns-clause-right c = right_once
