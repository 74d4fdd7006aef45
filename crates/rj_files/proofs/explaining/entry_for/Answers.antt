use Rattle.std.proofs.Common.{List, ℕ, lit<, rules, tests}
use Rattle.std.proofs.lemmas.Iterator.Search.{find_from_yields_List}
use Rattle.std.proofs.lemmas.Iterator.Splits.{YieldsList-from_str_split}
use Rattle.rj_files.specs.Entries.{is_entry_for}
use Rattle.rj_files.proofs.explaining.entry_for.Goals as goal

pub returns : goal.returns
returns c =
    find_from_yields_List (λ (entry : List ℕ). is_entry_for c.args.name.now entry) _ _ c.find.result c.find.ensures.ran
    (YieldsList-from_str_split 10 c.args.list.now (lit< tt) c.split.ensures.text c.split.ensures.has_more c.split.ensures.pattern)
    (λ x b q k. search (rules, tests))
