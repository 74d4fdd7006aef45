use Rattle.std.proofs.Common.{◌≡◌, ◌∙◌, ℕ, List, true, subst, rules}
use Rattle.std.specs.Str.Parse.{ParsesUnsigned}
use Rattle.rj_line.specs.Script.{is_numeral}
use Rattle.rj_line.proofs.NumeralFacts.{numeral_is_text, numeral_is_parsed}
use Rattle.rj_line.proofs.script.parcels.number_of.Goals as goal

pub returns-in-Ok : goal.returns-in-Ok
returns-in-Ok c =
    let numeral : is_numeral c.args.word.now ≡ true = search rules in
    let same : c.in-Ok.digits.now ≡ c.args.word.now = c.in-Ok.ensures.cases.0 in
    c.ok.ensures.value ∙ numeral_is_parsed 64 c.args.word.now c.parse.result (subst (λ (t : List ℕ). ParsesUnsigned 64 10 t c.parse.result) same c.parse.ensures.value.0) numeral

pub returns-in-Err : goal.returns-in-Err
returns-in-Err c =
    let numeral : is_numeral c.args.word.now ≡ true = search rules in
    absurd (c.in-Err.ensures.cases.0 (numeral_is_text c.args.word.now numeral))
