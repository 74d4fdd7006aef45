use Rattle.std.proofs.Common.{◌∙◌, ◌++◌, ◌∷◌, [], List, ap, sym}
use Rattle.rj_columns.specs.declared.cell.ColumnType.{ColumnType}
use Rattle.rj_shards.proofs.HeaderFacts.{one-more}
use Rattle.shards.proofs.dividing.types_of.Goals as goal

pub loop-column-preserved : goal.loop-column-preserved
loop-column-preserved c = record {
  types = c.in_ok-push.ensures.items
      ∙ (ap (λ (l : List ColumnType). l ++ c.column_type.result ∷ []) c.loop-column.invariant.types ∙ sym (one-more c.args.table.now.types c.loop-column.column c.column_type.result c.column_type.ensures));
  end = c.loop-column.invariant.end;
}
