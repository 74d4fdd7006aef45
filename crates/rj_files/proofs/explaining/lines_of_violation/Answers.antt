use Rattle.rj_files.proofs.explaining.lines_of_violation.Goals as goal

pub returns-in-LeftRow : goal.returns-in-LeftRow
returns-in-LeftRow c = rw c.in-LeftRow.is (rw c.from.ensures at c.explain_row.ensures)

pub returns-in-RightRow : goal.returns-in-RightRow
returns-in-RightRow c = rw c.in-RightRow.is (rw c.from-in-RightRow.ensures at c.explain_row-in-RightRow.ensures)

pub returns-in-LoneLeft : goal.returns-in-LoneLeft
returns-in-LoneLeft c = rw c.in-LoneLeft.is (rw c.from-in-LoneLeft.ensures at c.explain_row-in-LoneLeft.ensures)
