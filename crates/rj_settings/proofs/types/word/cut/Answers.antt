use Rattle.std.proofs.Common.{Some, None, lit<}
use Rattle.std.proofs.lemmas.Str.Pattern.{split_parts}
use Rattle.rj_settings.proofs.WordFacts.{no_comma_each}
use Rattle.rj_settings.proofs.types.word.cut.Goals as goal

pub returns-in-Some-clause-first : goal.returns-in-Some-clause-first
returns-in-Some-clause-first c =
    let parts = split_parts 44 c.args.text.now (Some (c.in-Some.first, c.in-Some.rest)) c.in-Some.ensures.cases (lit< tt) in
    no_comma_each c.in-Some.first.now parts.1

pub returns-in-None-clause-first : goal.returns-in-None-clause-first
returns-in-None-clause-first c = no_comma_each c.args.text.now (split_parts 44 c.args.text.now None c.in-None.ensures.cases (lit< tt))
