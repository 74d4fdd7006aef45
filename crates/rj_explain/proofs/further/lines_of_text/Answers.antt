use Rattle.std.proofs.Common.{inl, inr, sym}
use Rattle.std.proofs.lemmas.Result.{IfOk-weaker}
use Rattle.rj_csv_io.specs.Pieces.{names_in}
use Rattle.rj_explain.proofs.further.lines_of_text.Goals as goal

pub returns-in_default : goal.returns-in_default
returns-in_default c =
    let none = rw (c.in_default.is, c.table-file.ensures.delimiter) at c.in_ok-header.ensures in
    inl (none, c.new.ensures.bytes)

pub returns-in-Some-2 : goal.returns-in-Some-2
returns-in-Some-2 c =
    let header = c.in-Some.header in
    let found = rw (c.in-Some.is, c.table-file.ensures.delimiter) at c.in_ok-header.ensures in
    let typed = sym (rw (c.in-Some-2.is, c.table-file.ensures.types) at c.in_ok-kind.ensures) in
    IfOk-weaker c.lines_below.result _ _ (λ s told. inr (header.line, names_in header.fields, found, rw typed (c.column_of-column.result, c.column_of-column.ensures, told)))
    c.lines_below.ensures
