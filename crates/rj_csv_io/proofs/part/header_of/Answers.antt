use Rattle.std.proofs.Common.{◌∙◌, Ok, ap, sym}
use Rattle.rj_csv_io.proofs.part.header_of.Goals as goal

pub returns-then-not-branch-clause-header : goal.returns-then-not-branch-clause-header
returns-then-not-branch-clause-header c = sym c.open_reader-reader.ensures.records ∙ c.in_ok-next_record.ensures.none (ap Ok c.if-not-branch.true)

pub returns-clause-header : goal.returns-clause-header
returns-clause-header c = (_, sym c.open_reader-reader.ensures.records ∙ c.in_ok-next_record.ensures.next (ap Ok c.if-not-branch.false))
