use Rattle.rj_files.proofs.explaining.lines_of.Goals as goal

pub returns-in-UndeclaredType : goal.returns-in-UndeclaredType
returns-in-UndeclaredType g c = rw c.in-UndeclaredType.is (rw c.as_str.ensures at c.undeclared_lines.ensures)
