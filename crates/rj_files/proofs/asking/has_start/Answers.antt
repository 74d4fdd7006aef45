use Rattle.std.proofs.Common.{◌∙◌, Bor, List, ℕ, nat_eq, rules, tests}
use Rattle.std.specs.List.{starts_with}
use Rattle.std.proofs.lemmas.Iterator.{YieldsList-from_slice}
use Rattle.std.proofs.lemmas.Iterator.Search.{any_from_yields_List}
use Rattle.rj_files.proofs.TextFacts.{list_any-texts}
use Rattle.rj_files.proofs.asking.has_start.Goals as goal

pub returns : goal.returns
returns c =
    let words = c.args.words.now in
    let start = c.args.start.now in
    any_from_yields_List (λ (w : Bor (List ℕ)). starts_with nat_eq w.now start) _ _ _ c.any.ensures.ran (YieldsList-from_slice words cc) (λ x b q k. search (rules, tests))
    ∙ list_any-texts (λ w. starts_with nat_eq w start) words
