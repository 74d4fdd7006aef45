use Rattle.std.proofs.Common.{◌≡◌, ◌≢◌, ◌∙◌, Some, sym, ap}
use Rattle.rj_columns.specs.declared.decimal.numeric.NumericType.{NumericType}
use Rattle.rj_settings.specs.Words.{begin_word, end_word, text_of}
use Rattle.rj_settings.proofs.WordFacts.{comma_word, no_second, no_word}
use Rattle.rj_settings.proofs.types.word.type_at.Goals as goal

pub returns-in-Some-comma_type : goal.returns-in-Some-comma_type
returns-in-Some-comma_type c =
    let n = c.in-Some-comma_type.numeric in
    comma_word n c.args.text.now c.cut.result.0.now c.in-Some-rest.more.now c.cut-in-None.result.0.now (text_of c.cut.result.1) (text_of c.cut-in-None.result.1) c.cut.ensures.whole
    (ap text_of c.in-Some-rest.is) c.cut-in-None.ensures.whole (sym c.as_bytes.ensures.value ∙ c.in-Some-comma_type.ensures.found.0)
    (sym c.as_bytes-in-None.ensures.value ∙ c.in-Some-comma_type.ensures.found.1)

pub returns-in-None-comma_type : goal.returns-in-None-comma_type
returns-in-None-comma_type c =
    let some : text_of c.cut.result.1 ≡ Some c.in-Some-rest.more.now = ap text_of c.in-Some-rest.is in
    let missing : (n : NumericType) → c.cut.result.0.now ≡ begin_word n.precision → c.cut-in-None.result.0.now ≢ end_word n.scale = λ n front back.
    c.in-None-comma_type.ensures.missing n (c.as_bytes.ensures.value ∙ front) (c.as_bytes-in-None.ensures.value ∙ back) in
    no_word c.args.text.now c.cut.result.0.now (text_of c.cut.result.1) c.cut.ensures.whole c.cut.ensures.first c.in-None.ensures.missing
    (λ t left cut. no_second t c.cut.result.0.now c.in-Some-rest.more.now c.cut-in-None.result.0.now (text_of c.cut.result.1) left (text_of c.cut-in-None.result.1) some
    c.cut-in-None.ensures.whole c.cut-in-None.ensures.first missing cut)
