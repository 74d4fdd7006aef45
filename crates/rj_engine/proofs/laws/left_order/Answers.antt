use Rattle.rj_engine.proofs.ChosenFacts.{left_order, left_permutes}
use Rattle.rj_engine.proofs.laws.left_order.Goals as goal

pub returns-clause-members : goal.returns-clause-members
returns-clause-members c = left_order

pub returns-clause-rows : goal.returns-clause-rows
returns-clause-rows c = left_permutes
