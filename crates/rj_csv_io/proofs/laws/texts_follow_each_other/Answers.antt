use Rattle.rj_csv_io.proofs.RangeFacts.{header-join, rows-join, rows-none}
use Rattle.rj_csv_io.proofs.laws.texts_follow_each_other.Goals as goal

pub returns-clause-none : goal.returns-clause-none
returns-clause-none c = rows-none

pub returns-clause-rows : goal.returns-clause-rows
returns-clause-rows c = rows-join

pub returns-clause-table : goal.returns-clause-table
returns-clause-table c = header-join
