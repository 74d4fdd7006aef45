use Rattle.std.proofs.Common.{◌≡◌, ◌++◌, ◌∷◌, [], refl, ap}
use Rattle.rj_columns.specs.Tables.{rows_of_all}
use Rattle.rj_columns.specs.Internal.Segments.{table_in}
use Rattle.rj_columns.proofs.ConcatFacts.{same-parted, rows-parted}
use Rattle.rj_columns.proofs.SegmentFacts.{each-alone, last-alone}
use Rattle.rj_columns.proofs.table.Table.into_segments.Goals as goal

pub tables_of_segments-requires : goal.tables_of_segments-requires
tables_of_segments-requires c = each-alone c.self.inside.names c.self.inside.closed c.self.inside.last c.self.invariant

pub invariant_of-push : goal.invariant_of-push
invariant_of-push c = last-alone c.self.inside.names c.self.inside.closed c.new.result c.self.inside.last c.self.invariant c.new.ensures

pub returns-clause-same : goal.returns-clause-same
returns-clause-same c =
    let end = table_in c.self.inside.names c.new.result c.self.inside.last in
    let pushed : c.push.new.self.items ≡ c.in_ok-tables.tables.items ++ table_in c.self.inside.names c.new.result c.self.inside.last ∷ [] = c.in_ok-push.ensures.items in
    rw (pushed, ← c.self.view_is)
    (same-parted c.self.inside.names c.self.inside.last.types c.self.inside.closed c.in_ok-tables.tables.items (table_in c.self.inside.names c.new.result c.self.inside.last) c.self.invariant.alike c.in_ok-tables.ensures refl refl)

pub returns-clause-rows : goal.returns-clause-rows
returns-clause-rows c =
    let pushed : c.push.new.self.items ≡ c.in_ok-tables.tables.items ++ table_in c.self.inside.names c.new.result c.self.inside.last ∷ [] = c.in_ok-push.ensures.items in
    rw (pushed, ← c.self.view_is)
    (rows-parted c.self.inside.names c.self.inside.closed c.self.inside.last (table_in c.self.inside.names c.new.result c.self.inside.last) c.in_ok-tables.tables.items c.in_ok-tables.ensures
    (ap (λ l. rows_of_all l ++ c.self.inside.last.rows) c.new.ensures))
