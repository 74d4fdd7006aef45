use Rattle.std.proofs.Common.{arith}
use Rattle.rj_explain.proofs.PlaceFacts.{no-row, records-none, rest-drop, row-is}
use Rattle.rj_explain.proofs.row.find_row.Goals as goal

pub returns-in-Some-2 : goal.returns-in-Some-2
returns-in-Some-2 c =
    let text = c.args.text.now in
    let found = rw (c.in-Some-2.is, rest-drop text c.in-Some.at) at c.in_ok-fields.ensures in
    row-is c.args.delimiter text c.args.row c.in-Some.at c.line_from.result _ found.0 c.in-Some.ensures.place found.1 c.line_from.ensures

pub returns-in-None : goal.returns-in-None
returns-in-None c =
    let text = c.args.text.now in
    let none = rw (c.in-None.is, rest-drop text c.in-Some.at) at c.in_ok-fields.ensures in
    no-row c.args.delimiter text c.args.row c.args.row c.in-Some.at c.in-Some.ensures.place (omega arith) (records-none c.args.delimiter _ none)
