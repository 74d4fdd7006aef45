use Rattle.rj_explain.proofs.explanation.explain_in_file.Goals as goal

pub returns-in-BadInteger : goal.returns-in-BadInteger
returns-in-BadInteger c = rw c.in-BadInteger.is c.cell_lines.ensures

pub returns-in-BadText : goal.returns-in-BadText
returns-in-BadText c = rw c.in-BadText.is c.cell_lines-in-BadText.ensures
