-- The header of rows with their places.
use Rattle.std.specs.Prelude.{ℕ, ◌≡◌, ◌<◌, List, [], ◌∷◌, ◌++◌, length, slice_index_or, Option, None, Ok, Err}
use Rattle.std.specs.Io.KnownBytes.{Appends}
use Rattle.csv.specs.Writing.{row_text}
use Rattle.rj_columns.specs.declared.cell.ColumnType.{ColumnType}
use Rattle.rj_columns.specs.declared.cell.ColumnType.TheVariants as kind
use Rattle.rj_columns.specs.declared.refused.BuildRefused.{BuildRefused}
use Rattle.rj_columns.specs.Names.{empty_table}
use Rattle.rj_columns.specs.Tables.{TableValue}
use Rattle.rj_csv_io.specs.Shown.{writer_of}
use Rattle.rj_csv_io.specs.Tables.{of_begun}
use Rattle.rj_csv_io.specs.Grammar.{comma}
use Rattle.rj_shards.specs.declared.division.refused.DivideRefused.{DivideRefused}
use Rattle.rj_shards.specs.declared.division.refused.DivideRefused.TheVariants as refused

-- the names of a table's columns, and that of the places
abbrev pub names_with : TableValue → List ℕ → List (List ℕ)
names_with t name = t.names ++ name ∷ []

-- their types: a place is a whole number
abbrev pub types_with : TableValue → List ColumnType
types_with t = t.types ++ kind.Int ∷ []

-- the record of the names
abbrev pub header_text : TableValue → List ℕ → List ℕ
header_text t name = row_text (writer_of comma) (names_with t name)

-- each output got this text after what it already had, if it tells what it got
abbrev pub HaveText : List ℕ → List (Option (List ℕ)) → List (Option (List ℕ)) → Type 0
HaveText text before after = (p : ℕ) → p < length before → Appends (slice_index_or before p None) (slice_index_or after p None) text

-- outputs before the one of this number got this text after what they already had, and those after
-- it are as they were
abbrev pub HaveTextBefore : ℕ → List ℕ → List (Option (List ℕ)) → List (Option (List ℕ)) → Type 0
HaveTextBefore p text before after =
    (q : ℕ) → (q < p → Appends (slice_index_or before q None) (slice_index_or after q None) text) × (p < q → slice_index_or after q None ≡ slice_index_or before q None)

-- the columns of a table and that of the places make a table
abbrev pub MakeTable : TableValue → List ℕ → Type 0
MakeTable t name = (wide : TableValue) × (empty_table (names_with t name) (types_with t) ≡ Ok wide)

-- why a header is not written: the columns don't make a table; or they do, and an output failed
abbrev pub IsHeaderFault : TableValue → List ℕ → ℕ → DivideRefused → Type 0
IsHeaderFault t name outputs (refused.Read f) = (b : BuildRefused) × (empty_table (names_with t name) (types_with t) ≡ Err b) × (f ≡ of_begun b)
IsHeaderFault t name outputs (refused.WriteDevice p) = (p < outputs) × MakeTable t name
IsHeaderFault t name outputs refused.Memory = Unit {0}
IsHeaderFault t name outputs e = ⊥
