use Rattle.std.proofs.Common.{◌≡◌, ◌∙◌, Bor, List, ℕ, ap, arith, length, sym}
use Rattle.std.specs.Prelude.{string_bytes}
use Rattle.std.proofs.lemmas.List.{length-map}
use Rattle.std.proofs.lemmas.Result.{IfOk-weaker}
use Rattle.rj_explain.specs.Selected.{meant_by}
use Rattle.rj_explain.proofs.SelectedFacts.{both-meant, one-meant}
use Rattle.rj_explain.proofs.selected.words_of_entry.Goals as goal

pub returns-in-len1 : goal.returns-in-len1
returns-in-len1 c =
    let names = meant_by c.args.join.now c.args.columns.now.left c.args.columns.now.right c.args.entry.now in
    let size : length names ≡ length c.as_slice.result.now = sym (ap length c.in_ok-meant.ensures)
    ∙ (length-map c.in_ok-meant.meant.items (λ (n : Bor (List ℕ)). n.now) ∙ sym (ap length c.as_slice.ensures.value)) in
    IfOk-weaker c.words_of_repeated.result _ _
    (λ s told. one-meant names _ _ _ (string_bytes s) (omega (arith, size, c.in-len1.len_at_least)) (omega (arith, size, c.in-len1.len_below)) told)
    c.words_of_repeated.ensures

pub returns : goal.returns
returns c =
    let names = meant_by c.args.join.now c.args.columns.now.left c.args.columns.now.right c.args.entry.now in
    let size : length names ≡ length c.as_slice.result.now = sym (ap length c.in_ok-meant.ensures)
    ∙ (length-map c.in_ok-meant.meant.items (λ (n : Bor (List ℕ)). n.now) ∙ sym (ap length c.as_slice.ensures.value)) in
    IfOk-weaker c.from_str.result _ _ (λ s told. both-meant names _ _ _ (string_bytes s) (omega (arith, size, c.in_default.len_at_least)) told) c.from_str.ensures.ok
