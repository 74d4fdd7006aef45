-- What is written of a joined table is read again as a table.
use Rattle.std.specs.Prelude.{ℕ, ◌≡◌, ◌≢◌, ◌<◌, ◌≤◌, ◌^◌, true, false, List, [], map, length, All, None, slice_get, slice_index_or, unwrap_or}
use Rattle.std.specs.declared.alloc.Global.{Global}
use Rattle.std.specs.declared.vec.Vec.{Vec}
use Rattle.rj_columns.specs.Names.{name_fault}
use Rattle.rj_columns.specs.Tables.{TableValue}
use Rattle.rj_columns.specs.declared.cell.ColumnType.{ColumnType}
use Rattle.rj_columns.specs.declared.cell.ColumnType.TheVariants as kind
use Rattle.rj_condition.specs.declared.bound.BoundJoin.{BoundJoin}
use Rattle.rj_csv_io.specs.Ambiguous.{AreApart}
use Rattle.rj_csv_io.specs.Cuts.{has_bom}
use Rattle.rj_csv_io.specs.Tables.{are_null_texts}
use Rattle.rj_csv_io.specs.Typed.{is_null_field}
use Rattle.rj_engine.specs.Chosen.{chosen_columns, chosen_view}
use Rattle.rj_engine.specs.declared.origin.Origin.{Origin}
use Rattle.rj_engine.specs.declared.origin.Origin.TheVariants.{Coalesced, Left, Right}
use Rattle.rj_line.specs.declared.request.Request.{Request}
use Rattle.rj_settings.specs.declared.choice.ColumnChoice.TheVariants.{Selected}
use Rattle.rj_settings.specs.declared.choice.Repeated.TheVariants.{Kept}
use Rattle.rj_settings.specs.declared.choice.SelectedColumn.{SelectedColumn}

-- the type of the column from which a column of the joined table comes; for two coalesced ones, the
-- type of the left one
abbrev pub type_of_column : TableValue → TableValue → Origin → ColumnType
type_of_column l r (Coalesced a b) = unwrap_or (slice_get l.types a) kind.Text
type_of_column l r (Left a) = unwrap_or (slice_get l.types a) kind.Text
type_of_column l r (Right b) = unwrap_or (slice_get r.types b) kind.Text

-- two columns that are coalesced into one have the same type
abbrev pub HasOneType : TableValue → TableValue → Origin → Type 0
HasOneType l r (Coalesced a b) = slice_get l.types a ≡ slice_get r.types b
HasOneType l r (Left a) = Unit {0}
HasOneType l r (Right b) = Unit {0}

-- what is written of the joined table of two tables, as a table: these names, the columns' types, and the rows that are chosen
abbrev pub written_table : Request → List (List ℕ) → BoundJoin → TableValue → TableValue → TableValue
written_table q names join l r = record {
  names = names;
  types = map (type_of_column l r) (chosen_columns q.choice join l r);
  rows = (chosen_view q.choice join l r).cells;
}

-- what it needs to be read again by these NULL texts as it was: names that a table can have, which
-- they are if repeated ones are renamed, or if a list names the columns; no more columns and rows than
-- a table can have; each coalesced column of one type; the text that is written for NULL among the
-- NULL texts; no cell that is one of these; and no byte order mark at the start
pub record IsReadable (q : Request) (nulls names : List (List ℕ)) (join : BoundJoin) (l r : TableValue) : Type 0 where
  pub lawful : q.choice.repeated ≡ Kept → ((entries : Vec SelectedColumn Global) → q.choice.columns ≢ Selected entries) → name_fault [] names ≡ None
  pub some : 0 < length names
  pub few : length names ≤ 256
  pub within : length (chosen_view q.choice join l r).cells < 2 ^ 31
  pub one_type : All (HasOneType l r) (chosen_columns q.choice join l r)
  pub null_texts : are_null_texts nulls ≡ true
  pub among : is_null_field nulls q.out_null.now ≡ true
  pub apart : (text : List ℕ) → is_null_field nulls text ≡ true → AreApart text (chosen_view q.choice join l r).cells
  pub unmarked : has_bom (slice_index_or names 0 []) ≡ false
