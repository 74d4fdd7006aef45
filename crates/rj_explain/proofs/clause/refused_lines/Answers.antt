use Rattle.std.proofs.Common.{◌≡◌, ◌∙◌, ◌++◌, List, ℕ, ap₂, rules}
use Rattle.std.specs.Prelude.{string_bytes}
use Rattle.rj_explain.proofs.clause.refused_lines.Goals as goal

pub returns : goal.returns
returns c =
    let (words, why, told) = c.in_ok-lines.ensures in
    let added : string_bytes c.push_str.new.self ≡ string_bytes c.in_ok-lines.lines ++ c.as_str.result.now = search rules in
    (words, why, added ∙ ap₂ (λ (x y : List ℕ). x ++ y) told (c.as_str.ensures.value ∙ c.in_ok-more.ensures))
