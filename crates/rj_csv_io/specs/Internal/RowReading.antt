-- What reading one more row does to a reader and a builder. Internal: no public contract uses it.
use Rattle.std.specs.Prelude.{ℕ, ◌≡◌, List, [], ◌∷◌, ◌++◌, length, Some, Ok}
use Rattle.std.specs.Borrow.{Bor}
use Rattle.csv.specs.declared.reader.Reader.{Reader}
use Rattle.rj_columns.specs.declared.cell.ColumnType.{ColumnType}
use Rattle.rj_columns.specs.Contents.{Content}
use Rattle.rj_columns.specs.Tables.{BuilderValue}
use Rattle.rj_csv_io.specs.Remaining.{IsBetween, records_remaining}
use Rattle.rj_csv_io.specs.Rows.{read_row}

-- the next record was read as a row, which the builder has after its others, and the reader is
-- after the record
pub record HasReadRow (nulls : List (List ℕ)) (types : List ColumnType) (reader rest : Reader (Bor (List ℕ))) (before after : BuilderValue) : Type 0 where
  pub fields : List (List ℕ)
  pub cells : List Content
  pub next : records_remaining (λ (s : Bor (List ℕ)). Some s.now) reader ≡ fields ∷ records_remaining (λ (s : Bor (List ℕ)). Some s.now) rest
  pub between : IsBetween (λ (s : Bor (List ℕ)). Some s.now) rest
  pub row : read_row nulls types (length before.table.rows) fields ≡ Ok cells
  pub added : after ≡ record { table = record before.table { rows = before.table.rows ++ cells ∷ [] }; row = [] }

-- no record remained to the reader, and the builder stays as it was
pub record HasReadAll (reader : Reader (Bor (List ℕ))) (before after : BuilderValue) : Type 0 where
  pub none : records_remaining (λ (s : Bor (List ℕ)). Some s.now) reader ≡ []
  pub same : after ≡ before
