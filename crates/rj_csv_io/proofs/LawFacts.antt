-- Laws of this crate, for proofs of the crates above.
use Rattle.std.specs.Prelude.{◌≡◌, List, ℕ, [], true, false, slice_index_or, All, Ok}
use Rattle.rj_columns.specs.Contents.{Content}
use Rattle.rj_columns.specs.Tables.{FitsTypes, TableValue}
use Rattle.rj_columns.specs.declared.cell.ColumnType.{ColumnType}
use Rattle.rj_csv_io.specs.Grammar.{may_delimit}
use Rattle.rj_csv_io.specs.Ambiguous.{AreApart}
use Rattle.rj_csv_io.specs.Cuts.{has_bom}
use Rattle.rj_csv_io.specs.RoundTrips.{CanReadBack, IsHeld}
use Rattle.rj_csv_io.specs.Shown.{table_text}
use Rattle.rj_csv_io.specs.Tables.{are_null_texts, read_of, records_read}
use Rattle.rj_csv_io.specs.Typed.{is_null_field}
use Rattle.rj_csv_io.proofs.ApartFacts.{read-apart}
use Rattle.rj_csv_io.proofs.MarkFacts.{table-unmarked}
use Rattle.rj_csv_io.proofs.ReadBackFacts.{rows-told}
use Rattle.rj_csv_io.proofs.TableBackFacts.{table-back}

-- no text in a cell of a table that was read is one of its texts for NULL
pub null_texts_read_as_null : (records : List (List (List ℕ))) (types : List ColumnType) (nulls : List (List ℕ)) (null : List ℕ) (t : TableValue)
    → is_null_field nulls null ≡ true → records_read records types nulls ≡ Ok t → AreApart null t.rows
null_texts_read_as_null records types nulls null t among read = read-apart nulls null among records types t read

-- the text of a table reads back as the table, by its types and the same delimiter
pub tables_read_back : (d : ℕ) (nulls : List (List ℕ)) (null : List ℕ) (t : TableValue)
    → may_delimit d ≡ true → are_null_texts nulls ≡ true → is_null_field nulls null ≡ true → CanReadBack nulls t
    → has_bom (table_text d null t.names t.rows) ≡ false
    → read_of d (table_text d null t.names t.rows) t.types nulls ≡ Ok t
tables_read_back d nulls null t delimits lawful among = table-back nulls null lawful among d delimits t

-- a table that was read has cells of its types, which a `Cell` can hold
pub read_tables_hold_their_types : (records : List (List (List ℕ))) (types : List ColumnType) (nulls : List (List ℕ)) (t : TableValue)
    → records_read records types nulls ≡ Ok t → All (FitsTypes t.types) t.rows × All (All IsHeld) t.rows
read_tables_hold_their_types records types nulls t read = rows-told nulls types records t read

-- a table's text begins with a byte order mark only if its first name does
pub mark_is_of_the_first_name : (d : ℕ) (null : List ℕ) (names : List (List ℕ)) (rows : List (List Content))
    → may_delimit d ≡ true → has_bom (slice_index_or names 0 []) ≡ false → has_bom (table_text d null names rows) ≡ false
mark_is_of_the_first_name d null names rows lawful = table-unmarked d lawful null names rows
