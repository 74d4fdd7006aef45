use Rattle.rj_columns.proofs.CompareFacts.{equal_texts}
use Rattle.rj_columns.proofs.comparison.compare.Goals as goal

pub returns-in-Text-value_of-2-clause-equal : goal.returns-in-Text-value_of-2-clause-equal
returns-in-Text-value_of-2-clause-equal c =
    rw (c.cmp.ensures, ← c.value_of.ensures, ← c.value_of-in-Text.ensures, c.in-Text.is, c.in-Text-value_of-2.is) (equal_texts c.in-Text.s.now c.in-Text-value_of-2.t.now)
