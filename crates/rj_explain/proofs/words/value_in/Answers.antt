use Rattle.std.proofs.Common.{◌∙◌, ◌++◌, ◌∷◌, List, ℕ, ap, lit<, sym}
use Rattle.std.proofs.lemmas.Str.Pattern.{strip_prefix_char}
use Rattle.rj_explain.proofs.WordFacts.{no_value, value-found}
use Rattle.rj_explain.proofs.words.value_in.Goals as goal

pub returns-in-Some : goal.returns-in-Some
returns-in-Some c =
    let behind = c.in-Some.behind.now in
    let found = c.in-Some.ensures.cases in
    value-found c.args.word.now c.args.option.now behind c.strip_prefix-in-Some.result (found.1.1 ∙ ap (λ (x : List ℕ). c.args.option.now ++ x) (sym found.2))
    (strip_prefix_char 61 behind c.strip_prefix-in-Some.result c.strip_prefix-in-Some.ensures.cases (lit< tt))

pub returns-in-None : goal.returns-in-None
returns-in-None c = no_value c.args.word.now c.args.option.now (λ value is. c.in-None.ensures.cases (61 ∷ value) is)
