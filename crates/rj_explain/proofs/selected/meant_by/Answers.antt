use Rattle.std.proofs.Common.{◌∙◌, Bor, List, ℕ, ap, map, rules, sym}
use Rattle.std.specs.Prelude.{filter}
use Rattle.std.proofs.lemmas.Fn.{filter_same}
use Rattle.rj_condition.specs.Names.{matches}
use Rattle.rj_engine.specs.Cells.{name_of}
use Rattle.rj_engine.specs.Selected.{columns_from}
use Rattle.rj_explain.proofs.SelectedFacts.{filter-map}
use Rattle.rj_explain.proofs.selected.meant_by.Goals as goal

pub returns : goal.returns
returns c =
    let now = λ (n : Bor (List ℕ)). n.now in
    let entry = c.args.entry.now in
    let means = matches entry.name in
    let columns = columns_from entry.source c.args.join.now c.args.columns.now.left c.args.columns.now.right in
    let kept = filter_same _ (λ n. means n.now) _ (λ x b f' k. search rules) _ _ c.retain.ensures.filtered in
    ap (map now) kept
    ∙ (sym (filter-map means now c.in_ok-names.names.items)
    ∙ (ap (filter means) c.in_ok-names.ensures ∙ filter-map means (name_of c.args.columns.now.left c.args.columns.now.right) columns))
