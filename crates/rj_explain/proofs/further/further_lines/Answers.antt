use Rattle.std.proofs.lemmas.Result.{IfOk-weaker}
use Rattle.rj_explain.specs.Explained.{IsTextOf, side_file}
use Rattle.rj_explain.proofs.further.further_lines.Goals as goal

pub returns : goal.returns
returns c =
    let file = c.table-file.ensures in
    let text = rw (file.bytes, file.delimiter, file.strict) at c.in_ok-quoted.ensures in
    let read : IsTextOf (side_file c.args.side c.args.inputs.now) c.text_of-text.result.now = rw (c.text_of-text.ensures, file.bytes) text in
    IfOk-weaker c.lines_of_text.result _ _ (λ s told. (c.text_of-text.result.now, read, told)) c.lines_of_text.ensures
