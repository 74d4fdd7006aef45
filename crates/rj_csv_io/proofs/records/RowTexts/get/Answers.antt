use Rattle.std.proofs.Common.{◌∙◌, [], ap, sym}
use Rattle.std.specs.Prelude.{option_map, slice_index_or, unwrap_or}
use Rattle.rj_csv_io.proofs.EndFacts.{field-at}
use Rattle.csv.specs.Records.{fields_of}
use Rattle.rj_csv_io.proofs.records.RowTexts.get.Goals as goal

pub returns-in-Some : goal.returns-in-Some
returns-in-Some c =
    ap (λ o. unwrap_or (option_map (λ s. s.now) o) []) (sym c.in-Some.is)
    ∙ (ap (λ o. unwrap_or o []) c.get.ensures.value ∙ (field-at (fields_of c.self.inside.texts) c.args.number ∙ ap (λ fs. slice_index_or fs c.args.number []) c.self.view_is))

pub returns-in-None : goal.returns-in-None
returns-in-None c =
    ap (λ o. unwrap_or (option_map (λ s. s.now) o) []) (sym c.in-None.is)
    ∙ (ap (λ o. unwrap_or o []) c.get.ensures.value ∙ (field-at (fields_of c.self.inside.texts) c.args.number ∙ ap (λ fs. slice_index_or fs c.args.number []) c.self.view_is))
