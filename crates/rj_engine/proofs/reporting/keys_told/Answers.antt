use Rattle.std.proofs.Common.{◌≡◌, ◌∙◌, List, ℕ, ap, map, subst}
use Rattle.rj_condition.specs.Splits.{keys_of}
use Rattle.rj_engine.specs.Reports.{AreKeysTold}
use Rattle.rj_engine.proofs.reporting.keys_told.Goals as goal

pub returns : goal.returns
returns c =
    let keys = keys_of c.args.join.now in
    let lefts : c.deref.result.now ≡ map (λ (k : ℕ × ℕ). k.0) keys =
    c.deref.ensures.value ∙ (c.in_ok-left_columns.ensures.columns ∙ ap (map (λ (k : ℕ × ℕ). k.0)) c.in_ok-split.ensures.keys) in
    let rights : c.deref-2.result.now ≡ map (λ (k : ℕ × ℕ). k.1) keys =
    c.deref-2.ensures.value ∙ (c.in_ok-right_columns.ensures.columns ∙ ap (map (λ (k : ℕ × ℕ). k.1)) c.in_ok-split.ensures.keys) in
    let Told : List ℕ → List ℕ → Type 0 = λ ls rs. AreKeysTold (record { left = c.args.left.now; left_columns = ls; right = c.args.right.now; right_columns = rs }) c.in_ok-told.told in
    subst (λ ls. Told ls (map (λ (k : ℕ × ℕ). k.1) keys)) lefts (subst (λ rs. Told c.deref.result.now rs) rights c.in_ok-told.ensures)
