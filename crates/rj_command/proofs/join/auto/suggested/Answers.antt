use Rattle.rj_command.proofs.join.auto.suggested.Goals as goal

pub returns-in_default : goal.returns-in_default
returns-in_default c = λ lefts rights entries.
    let none = rw c.in_default.is at c.in_ok-clause.ensures in
    none entries.c entries.has_clause

pub returns-in_default-2 : goal.returns-in_default-2
returns-in_default-2 c = λ lefts rights entries.
    let none = rw c.in_default-2.is at c.in_ok-left_table.ensures in
    none entries.l entries.left_header

pub returns-in_default-3 : goal.returns-in_default-3
returns-in_default-3 c = λ lefts rights entries.
    let none = rw c.in_default-3.is at c.in_ok-right_table.ensures in
    none entries.r entries.right_header
