use Rattle.std.proofs.Common.{◌∙◌, Bor, List, ℕ, rules, tests}
use Rattle.std.specs.Str.{bytes_eq}
use Rattle.std.proofs.lemmas.Iterator.{YieldsList-from_slice}
use Rattle.std.proofs.lemmas.Iterator.Search.{any_from_yields_List}
use Rattle.rj_files.proofs.TextFacts.{list_any-texts}
use Rattle.rj_files.proofs.asking.has_word.Goals as goal

pub returns : goal.returns
returns c =
    let words = c.args.words.now in
    let sought = c.args.sought.now in
    any_from_yields_List (λ (w : Bor (List ℕ)). bytes_eq w.now sought) _ _ _ c.any.ensures.ran (YieldsList-from_slice words cc) (λ x b q k. search (rules, tests))
    ∙ list_any-texts (λ w. bytes_eq w sought) words
