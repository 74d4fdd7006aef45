use Rattle.std.proofs.Common.{◌≡◌, length, map, take, drop}
use Rattle.csv.specs.Records.{fields_of}
use Rattle.rj_columns.specs.Tables.{rows_of_all}
use Rattle.rj_csv_io.specs.Parts.{AreTables, under_header}
use Rattle.rj_csv_io.specs.Typed.{null_texts}
use Rattle.rj_csv_io.proofs.read_parts.tables_of_parts.Given as goal

abbrev pub invariant-loop-i : goal.invariant-loop-i
invariant-loop-i l = record {
  rest : l.parts.items ≡ drop l._i l.fn.parts.items;
  end : l._i-end ≡ length l.fn.parts.items;
  read : AreTables (null_texts l.format.nulls.now) l.types (fields_of l.header) (under_header l.format.delimiter (take l._i (map (λ t. t.now) l.texts))) l.tables.items;
  count : length l.tables.items ≡ l._i;
  rows : l.rows ≡ length (rows_of_all l.tables.items);
}
