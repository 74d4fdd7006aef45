use Rattle.std.proofs.Common.{◌≡◌, ◌<◌, ◌-◌, ◌++◌, arith, map, subst, sym}
use Rattle.std.specs.Prelude.{OnOk}
use Rattle.rj_columns.specs.Contents.{content_of}
use Rattle.rj_csv_io.proofs.ColumnFacts.{first-part}
use Rattle.rj_csv_io.proofs.columns.FirstColumnsRowSource.cells.Goals as goal

pub returns : goal.returns
returns g c =
    let v = c.args.self.now in
    let low : c.args.col < v.columns = omega (arith, c.requires.col) in
    subst (λ more. OnOk c.cells.result (map content_of c.cells.new.cells.items ≡ map content_of c.args.cells.now.items ++ more))
    (sym (first-part v.columns (g.S.RowSource.contents v.source.now) c.args.col c.args.from (c.args.to - c.args.from) low)) c.cells.ensures
