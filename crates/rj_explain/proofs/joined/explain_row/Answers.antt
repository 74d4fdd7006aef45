use Rattle.std.proofs.Common.{inl}
use Rattle.rj_explain.proofs.joined.explain_row.Goals as goal

pub returns-in-None : goal.returns-in-None
returns-in-None c =
    let file = c.table.ensures in
    let (text, read, none) = rw (c.in-None.is, file.bytes, file.delimiter, file.strict) at c.in_ok-found.ensures in
    (text, read, inl (none, c.new.ensures.bytes))
