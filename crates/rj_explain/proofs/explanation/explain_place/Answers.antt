use Rattle.rj_explain.proofs.explanation.explain_place.Goals as goal

pub returns-in-AmbiguousNull : goal.returns-in-AmbiguousNull
returns-in-AmbiguousNull c = rw c.in-AmbiguousNull.is c.null_text_lines.ensures
