use Rattle.rj_csv_io.proofs.ColumnFacts.{end-wide}
use Rattle.rj_csv_io.proofs.columns.EndColumnsRowSource.columns.Goals as goal

pub returns-clause-wide : goal.returns-clause-wide
returns-clause-wide c = end-wide c.args.self.now.columns.now c.args.self.now.table.now.rows
