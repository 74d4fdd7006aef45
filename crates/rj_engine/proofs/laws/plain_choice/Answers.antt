use Rattle.rj_engine.proofs.ChosenFacts.{plain_header, plain_view}
use Rattle.rj_engine.proofs.SelectedNames.{plain_names}
use Rattle.rj_engine.proofs.laws.plain_choice.Goals as goal

pub returns-clause-header : goal.returns-clause-header
returns-clause-header c = plain_header

pub returns-clause-view : goal.returns-clause-view
returns-clause-view c = plain_view

pub returns-clause-names : goal.returns-clause-names
returns-clause-names c = plain_names
