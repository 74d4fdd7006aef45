use Rattle.std.proofs.Common.{◌∙◌, Bool, Bor, List, ℕ, ap, codes, map, not, rules, take, tests}
use Rattle.std.specs.Str.{bytes_eq}
use Rattle.std.proofs.lemmas.Iterator.{YieldsList-from_slice}
use Rattle.std.proofs.lemmas.Iterator.Consumers.{count_from_yields_List}
use Rattle.std.proofs.lemmas.Iterator.Search.{YieldsList-from_take_while}
use Rattle.std.proofs.lemmas.List.Folds.{length-prefix_len}
use Rattle.rj_files.proofs.TextFacts.{take_while-texts}
use Rattle.rj_files.proofs.asking.options_in.Goals as goal

pub returns : goal.returns
returns c =
    let is_option : Bor (List ℕ) → Bool = λ w. not (bytes_eq w.now (codes "--")) in
    let words = c.args.words.now in
    ap (λ (n : ℕ). map (λ w. w.now) (take n words)) (count_from_yields_List c.take_while.result _ c.count-count.ensures.ran
    (YieldsList-from_take_while _ is_option (YieldsList-from_slice words cc) c.take_while.ensures.closure c.take_while.ensures.done (λ x b q k. search (rules, tests)))
    ∙ length-prefix_len is_option words)
    ∙ take_while-texts (λ w. not (bytes_eq w (codes "--"))) words
