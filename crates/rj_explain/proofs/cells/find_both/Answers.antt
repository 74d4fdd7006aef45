use Rattle.std.proofs.lemmas.Result.{IfOk-weaker}
use Rattle.rj_explain.specs.Explained.{IsTextOf, file_read}
use Rattle.rj_explain.proofs.cells.find_both.Goals as goal

pub returns : goal.returns
returns c =
    let read : IsTextOf (file_read c.args.file.now) c.text_of-text.result.now = rw c.text_of-text.ensures c.in_ok-quoted.ensures in
    IfOk-weaker c.header_and_row.result _ _ (λ o told. (c.text_of-text.result.now, read, told)) c.header_and_row.ensures
