use Rattle.std.proofs.Common.{◌≡◌, ◌∙◌, ◌-◌, Some, ap, subst, sym, take}
use Rattle.std.specs.Prelude.{slice_get, string_bytes}
use Rattle.std.proofs.lemmas.Result.{IfOk-weaker}
use Rattle.rj_explain.specs.Explained.{IsRefusedEntry}
use Rattle.rj_explain.specs.Lines.{selected_line}
use Rattle.rj_explain.proofs.NameFacts.{get-some}
use Rattle.rj_explain.proofs.selected.line_of_entry.Goals as goal

pub returns : goal.returns
returns c =
    let left = c.args.columns.now.left in
    let right = c.args.columns.now.right in
    let entries = c.args.entries.now in
    let entry = c.in-Some.entry.now in
    let number = c.args.number in
    let lookup = c.in-Some.ensures.lookup in
    let place : slice_get entries (number - 1) ≡ Some entry = ap (slice_get entries) (sym c.saturating_sub-at.ensures)
    ∙ get-some entries c.saturating_sub-at.result entry lookup.3.0 lookup.1 in
    let words = string_bytes c.in_ok-words.words in
    let why = subst (λ n. IsRefusedEntry c.args.inputs.now c.args.join.now left right (take n entries) entry words) c.saturating_sub-at.ensures c.in_ok-words.ensures in
    IfOk-weaker c.entry_line.result _ _ (λ s told. rw place (words, why, told ∙ ap (selected_line entry.name.text number) c.as_str.ensures.value)) c.entry_line.ensures
