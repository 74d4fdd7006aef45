use Rattle.std.proofs.Common.{◌∙◌, Bor, List, ℕ, rules, tests}
use Rattle.std.proofs.lemmas.Iterator.{YieldsList-from_slice}
use Rattle.std.proofs.lemmas.Iterator.Search.{any_from_yields_List}
use Rattle.rj_files.specs.Asking.{is_quiet}
use Rattle.rj_files.proofs.TextFacts.{list_any-texts}
use Rattle.rj_files.proofs.asking.are_quiet.Goals as goal

pub returns : goal.returns
returns c =
    let words = c.args.words.now in
    any_from_yields_List (λ (w : Bor (List ℕ)). is_quiet w.now) _ _ _ c.any.ensures.ran (YieldsList-from_slice words cc) (λ x b q k. search (rules, tests))
    ∙ list_any-texts is_quiet words
