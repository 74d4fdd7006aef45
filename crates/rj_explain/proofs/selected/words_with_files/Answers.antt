use Rattle.std.proofs.Common.{◌≡◌, ◌∙◌, ◌++◌, List, ℕ, ap, rules}
use Rattle.std.specs.Prelude.{string_bytes}
use Rattle.rj_explain.proofs.selected.words_with_files.Goals as goal

pub returns : goal.returns
returns c =
    let words = string_bytes c.in_ok-words.words in
    let added : string_bytes c.push_str.new.self ≡ words ++ c.as_str.result.now = search rules in
    (words, c.in_ok-words.ensures, added ∙ ap (λ (x : List ℕ). words ++ x) (c.as_str.ensures.value ∙ c.in_ok-more.ensures))
