use Rattle.rj_shards.proofs.Whole.{shown, shown_as_chosen}
use Rattle.rj_shards.proofs.laws.rows_are_shown.Goals as goal

pub returns-clause-own : goal.returns-clause-own
returns-clause-own g c = shown

pub returns-clause-chosen : goal.returns-clause-chosen
returns-clause-chosen g c = λ choice text join l r back. shown_as_chosen text join l r back choice
