use Rattle.std.proofs.Common.{sym}
use Rattle.rj_csv_io.proofs.Marks.{mark-short, mark-long}
use Rattle.rj_csv_io.proofs.strict.mark.starts_with_mark.Goals as goal

pub returns-then-text-lt3-clause-value : goal.returns-then-text-lt3-clause-value
returns-then-text-lt3-clause-value c = sym (mark-short c.args.text.now c.if-text-lt3.true)

pub returns-clause-value : goal.returns-clause-value
returns-clause-value c = sym (mark-long c.args.text.now c.if-text-lt3.false)

pub returns-clause-long : goal.returns-clause-long
returns-clause-long c = λ _. c.if-text-lt3.false
