use Rattle.std.proofs.Common.{◌≡◌, ap, sym, subst, ◌∙◌}
use Rattle.std.specs.Prelude.{All}
use Rattle.rj_columns.specs.Internal.Columns.{ColumnValue}
use Rattle.rj_columns.specs.Contents.{IsInLimits}
use Rattle.rj_columns.specs.Internal.Stores.{column_of}
use Rattle.rj_columns.specs.declared.column.Store.TheVariants.{Nums}
use Rattle.rj_columns.proofs.HashFacts.{column-limits}
use Rattle.rj_columns.proofs.column.Column.hash_cells.Goals as goal

pub hash_decimals-requires-clause-limits : goal.hash_decimals-requires-clause-limits
hash_decimals-requires-clause-limits g c =
    let shown : column_of (Nums c.in-Nums.kind c.in-Nums.numbers) ≡ c.args.self.now = ap column_of (sym c.in-Nums.is) ∙ c.self.view_is in
    subst (λ (v : ColumnValue). All IsInLimits v.cells) (sym shown) (column-limits c.args.self.now.kind c.args.self.now.cells c.requires.typed)
