use Rattle.std.proofs.Common.{◌≡◌, ◌∷◌, []}
use Rattle.rj_columns.specs.declared.cell.ColumnType.TheVariants as kind
use Rattle.rj_tests_joins.proofs.tables.keys.Given as goal

abbrev pub invariant-loop-key : goal.invariant-loop-key
invariant-loop-key l = l.builder.table.types ≡ kind.Int ∷ []
