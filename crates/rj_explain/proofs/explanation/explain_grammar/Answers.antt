use Rattle.rj_explain.proofs.explanation.explain_grammar.Goals as goal

pub returns-in-OpenQuote : goal.returns-in-OpenQuote
returns-in-OpenQuote c = rw c.in-OpenQuote.is c.grammar_lines.ensures

pub returns-in-AfterQuote : goal.returns-in-AfterQuote
returns-in-AfterQuote c =
    let told = rw c.behind_quote-why.ensures at c.grammar_lines-in-AfterQuote.ensures in
    rw c.in-AfterQuote.is told

pub returns-in-BareQuote : goal.returns-in-BareQuote
returns-in-BareQuote c = rw c.in-BareQuote.is c.grammar_lines-in-BareQuote.ensures

pub returns-in-BareReturn : goal.returns-in-BareReturn
returns-in-BareReturn c = rw c.in-BareReturn.is c.grammar_lines-in-BareReturn.ensures
