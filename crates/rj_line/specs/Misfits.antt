-- The cells that keep a column from being one of numbers, and what the cells of records suggest.
use Rattle.std.specs.Prelude.{ℕ, ◌≡◌, ◌+◌, ◌⊎◌, true, false, List, length, Option, Some, None, string_bytes}
use Rattle.std.specs.List.{slice_get}
use Rattle.csv.specs.Reading.{records, strip_bom}
use Rattle.rj_columns.specs.Tables.{TableValue, cell_of}
use Rattle.rj_columns.specs.declared.cell.ColumnType.{ColumnType}
use Rattle.rj_csv_io.specs.StrictReading.{config_of}
use Rattle.rj_line.specs.Suggested.{AreKindsOf, EachText, IsFirstNotOf, SomeText, column_lines, is_of, text_in}
use Rattle.rj_line.specs.declared.suggest.number.Form.TheVariants as form
use Rattle.rj_line.specs.declared.suggest.suggestion.Misfit.{Misfit}
use Rattle.rj_line.specs.declared.suggest.suggestion.Suggestion.{Suggestion}

-- the first cell of a column that isn't a number, while another one is
pub record IsMisfit (t : TableValue) (col : ℕ) (m : Misfit) : Type 0 where
  pub row : ℕ
  pub number : m.row ≡ row + 1
  pub named : slice_get t.names col ≡ Some (string_bytes m.column)
  pub text : text_in (cell_of t row col) ≡ Some (string_bytes m.text)
  pub first : IsFirstNotOf form.Number t col row
  pub others : SomeText t col (λ s. is_of form.Number s ≡ true)

-- a column has none if all its cells are numbers, or none is
abbrev pub IsMisfitOf : TableValue → ℕ → Option Misfit → Type 0
IsMisfitOf t col None = EachText t col (λ s. is_of form.Number s ≡ true) ⊎ EachText t col (λ s. is_of form.Number s ≡ false)
IsMisfitOf t col (Some m) = IsMisfit t col m

-- that of each column, in order
pub record AreMisfits (t : TableValue) (misfits : List (Option Misfit)) : Type 0 where
  pub count : length misfits ≡ length t.types
  pub each : (col : ℕ) (misfit : Option Misfit) → slice_get misfits col ≡ Some misfit → IsMisfitOf t col misfit

-- what records suggest: a line for each column with its type, and the cells that keep columns from
-- being of numbers
pub record IsSuggestionOf (rs : List (List (List ℕ))) (nulls : List (List ℕ)) (s : Suggestion) : Type 0 where
  pub table : TableValue
  pub kinds : List ColumnType
  pub are : AreKindsOf rs nulls table kinds
  pub lines : s.list.items ≡ column_lines table.names kinds
  pub misfits : AreMisfits table s.misfits.items

-- what the records of a file, by a delimiter, suggest
abbrev pub IsSuggestion : ℕ → List ℕ → List (List ℕ) → Suggestion → Type 0
IsSuggestion d bytes nulls s = IsSuggestionOf (records (config_of d) (strip_bom bytes)) nulls s
