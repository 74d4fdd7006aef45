use Rattle.std.proofs.Common.{◌∙◌, ap, rules}
use Rattle.std.specs.Prelude.{filter}
use Rattle.std.proofs.lemmas.Fn.{filter_same}
use Rattle.rj_engine.specs.Chosen.{is_of_left}
use Rattle.rj_engine.proofs.chosen_columns.left_origins.Goals as goal

pub returns : goal.returns
returns c = filter_same _ is_of_left _ (λ x b f' k. search rules) _ _ c.retain.ensures.filtered ∙ ap (filter is_of_left) c.in_ok-found.ensures
