-- Cells and tables that read back from their text.
use Rattle.std.specs.Prelude.{ℕ, ◌≡◌, ◌≢◌, ◌<◌, ◌≤◌, ◌^◌, true, List, [], None, length, All, IsUtf8, FitsSigned}
use Rattle.std.specs.Int.{w64}
use Rattle.rj_columns.specs.Contents.{Content, nothing, whole, decimal, word}
use Rattle.rj_columns.specs.Names.{name_fault}
use Rattle.rj_columns.specs.Tables.{TableValue, FitsTypes}
use Rattle.rj_csv_io.specs.Ambiguous.{AreApart}
use Rattle.rj_csv_io.specs.Typed.{is_null_field}

-- what a `Cell` can hold: a whole number of 64 bits, a text of UTF-8
abbrev pub IsHeld : Content → Type 0
IsHeld nothing = Unit {0}
IsHeld (whole n) = FitsSigned w64 n
IsHeld (decimal units scale) = Unit {0}
IsHeld (word s) = IsUtf8 s

-- a cell that is none of the NULL texts
abbrev pub IsNoneOf : List (List ℕ) → Content → Type 0
IsNoneOf nulls x = (text : List ℕ) → is_null_field nulls text ≡ true → x ≢ word text

-- what a table needs to be read back from its text by these NULL texts: a column, what every
-- `Table` keeps, cells that a `Cell` can hold, and no cell that is one of the NULL texts
pub record CanReadBack (nulls : List (List ℕ)) (t : TableValue) : Type 0 where
  pub some : 0 < length t.names
  pub few : length t.names ≤ 256
  pub lawful : name_fault [] t.names ≡ None
  pub named : length t.names ≡ length t.types
  pub within : length t.rows < 2 ^ 31
  pub typed : All (FitsTypes t.types) t.rows
  pub held : All (All IsHeld) t.rows
  pub apart : (text : List ℕ) → is_null_field nulls text ≡ true → AreApart text t.rows
