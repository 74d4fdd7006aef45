use Rattle.std.proofs.Common.{◌≡◌, ◌++◌, get_or, rules}
use Rattle.std.specs.Prelude.{string_bytes}
use Rattle.rj_command.specs.Reported.{cell_part}
use Rattle.rj_command.proofs.ReportFacts.{cells-more}
use Rattle.rj_command.proofs.join.reports.add_cells.Goals as goal

pub loop-column-preserved : goal.loop-column-preserved
loop-column-preserved c =
    let t = c.args.table.now in
    let columns = c.args.columns.now in
    let place = c.loop-column.column-index in
    let part = string_bytes c.in_ok-part.part in
    let told : part ≡ cell_part t c.args.row (get_or columns place 0) = search rules in
    let more : string_bytes c.push_str.new.self ≡ string_bytes c.loop-column.text ++ part = search rules in
    cells-more t c.args.row columns place (string_bytes c.args.text.now) (string_bytes c.loop-column.text) (string_bytes c.push_str.new.self) part c.loop-column-test.true c.loop-column.invariant more told
