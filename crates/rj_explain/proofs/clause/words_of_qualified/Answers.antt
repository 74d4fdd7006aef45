use Rattle.rj_explain.proofs.clause.words_of_qualified.Goals as goal

pub returns : goal.returns
returns c = rw (c.side_of-side.ensures, c.is_behind_delimited.ensures, c.is_delimited_at-delimited.ensures, c.as_str.ensures) at c.words_behind.ensures
