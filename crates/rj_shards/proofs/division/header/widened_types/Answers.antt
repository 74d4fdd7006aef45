use Rattle.std.proofs.Common.{◌∙◌, ◌++◌, ◌∷◌, [], List, ap, sym}
use Rattle.rj_columns.specs.declared.cell.ColumnType.{ColumnType}
use Rattle.rj_shards.proofs.HeaderFacts.{one-more}
use Rattle.rj_shards.proofs.division.header.widened_types.Goals as goal

pub loop-col-preserved : goal.loop-col-preserved
loop-col-preserved c = record {
  types = c.in_ok-push.ensures.items
      ∙ (ap (λ (l : List ColumnType). l ++ c.column_type.result ∷ []) c.loop-col.invariant.types ∙ sym (one-more c.args.table.now.types c.loop-col.col c.column_type.result c.column_type.ensures));
  end = c.loop-col.invariant.end;
}
