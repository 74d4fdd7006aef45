use Rattle.std.proofs.Common.{◌∙◌, sym, List, ℕ, Bor}
use Rattle.std.proofs.lemmas.List.Folds.{list_all-map}
use Rattle.rj_csv_io.specs.Tables.{is_null_text}
use Rattle.rj_csv_io.proofs.null_text.are_lawful_nulls.Goals as goal

pub returns : goal.returns
returns c = c.all_lawful.ensures ∙ sym (list_all-map is_null_text (λ (n : Bor (List ℕ)). n.now) c.args.nulls.now)
