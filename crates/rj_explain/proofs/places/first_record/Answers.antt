use Rattle.std.proofs.Common.{◌∙◌, sym}
use Rattle.rj_explain.proofs.PlaceFacts.{first-ends, no-record}
use Rattle.rj_explain.proofs.places.first_record.Goals as goal

pub returns-then-is_blank-clause-record : goal.returns-then-is_blank-clause-record
returns-then-is_blank-clause-record c = no-record c.args.delimiter c.args.text.now (sym c.is_blank.ensures ∙ c.if-is_blank.true)

pub returns-clause-record : goal.returns-clause-record
returns-clause-record c =
    let end = c.first_end-end in
    rw c.min.ensures (first-ends c.args.delimiter c.args.text.now end.result (sym c.is_blank.ensures ∙ c.if-is_blank.false) end.ensures.rest)
