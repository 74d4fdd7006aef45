-- A joined table has no text that its tables lack, and a table no text that is read as null.
use Rattle.std.proofs.Common.{◌≡◌, ◌≢◌, ◌∙◌, ℕ, zero, suc, List, [], ◌∷◌, length, map, Bool, true, false, Option, Some, None, Result, Ok, Err, refl, ap, inl, inr}
use Rattle.std.specs.Prelude.{if◌then◌else◌, slice_index_or, ◌==◌}
use Rattle.std.proofs.lemmas.Bool.{cases_Bool}
use Rattle.csv.specs.Reading.{records, strip_bom}
use Rattle.rj_columns.specs.Numbers.{finer}
use Rattle.rj_columns.specs.declared.cell.ColumnType.{ColumnType}
use Rattle.rj_columns.specs.Contents.{Content, nothing, whole, decimal, word}
use Rattle.rj_columns.specs.Scales.{coalesced, in_scale}
use Rattle.rj_columns.specs.Tables.{TableValue}
use Rattle.rj_condition.specs.declared.bound.BoundJoin.{BoundJoin}
use Rattle.rj_csv_io.specs.Ambiguous.{AreApart}
use Rattle.rj_csv_io.specs.Tables.{records_read}
use Rattle.rj_csv_io.specs.Typed.{is_null_field}
use Rattle.rj_csv_io.specs.declared.refused.ReadRefused.{ReadRefused}
use Rattle.rj_settings.specs.Columns.{types_under}
use Rattle.rj_engine.specs.Cells.{coalesced_scale, joined_cell, joined_cells, left_cell, right_cell}
use Rattle.rj_engine.specs.Chosen.{chosen_columns, chosen_rows, chosen_view}
use Rattle.rj_engine.specs.Results.{joined_of}
use Rattle.rj_settings.specs.declared.choice.Choice.{Choice}
use Rattle.rj_engine.specs.declared.joined.JoinedRow.{JoinedRow}
use Rattle.rj_engine.specs.declared.joined.JoinedRow.TheVariants.{Both, LeftOnly, RightOnly}
use Rattle.rj_engine.specs.declared.origin.Origin.{Origin}
use Rattle.rj_engine.specs.declared.origin.Origin.TheVariants.{Coalesced, Left, Right}
use Rattle.rj_csv_io.specs.Grammar.{records_of}
use Rattle.rj_csv_io.specs.StrictReading.{config_of}
use Rattle.rj_command.specs.Sides.{IsTable, IsTableBy, delimiter_of, has_lawful_nulls, header_records, nulls_of, side_records, told, told_first, type_fault, types_of}
use Rattle.rj_line.specs.Faults.{read_fault}
use Rattle.rj_line.specs.declared.fault.Fault.{Fault}
use Rattle.rj_line.specs.declared.fault.Fault.TheVariants as fault
use Rattle.rj_line.specs.declared.fault.Side.{Side}
use Rattle.rj_line.specs.declared.request.Request.{Request}
use Rattle.rj_line.specs.declared.request.Strictness.{Strictness}
use Rattle.rj_line.specs.declared.request.Strictness.TheVariants as strictness

scaled-apart : (null : List ℕ) (s : ℕ) (x : Content) → x ≢ word null → in_scale s x ≢ word null
scaled-apart null s nothing h = λ is. cc
scaled-apart null s (whole n) h = go (s == 0)
  where
    go : (b : Bool) → (if b then whole n else decimal (finer n s) s) ≢ word null
    go true = λ is. cc
    go false = λ is. cc
scaled-apart null s (decimal units own) h = λ is. cc
scaled-apart null s (word t) h = h

first-apart : (null : List ℕ) (x y : Content) → x ≢ word null → y ≢ word null → coalesced x y ≢ word null
first-apart null nothing y h k = k
first-apart null (whole n) y h k = h
first-apart null (decimal units scale) y h k = h
first-apart null (word t) y h k = h

module _ (null : List ℕ) (l r : TableValue) (left : AreApart null l.rows) (right : AreApart null r.rows) where
  left-apart : (row : JoinedRow) (col : ℕ) → left_cell l row col ≢ word null
  left-apart (Both i j) col = left i col
  left-apart (LeftOnly i) col = left i col
  left-apart (RightOnly j) col = λ is. cc

  right-apart : (row : JoinedRow) (col : ℕ) → right_cell r row col ≢ word null
  right-apart (Both i j) col = right j col
  right-apart (LeftOnly i) col = λ is. cc
  right-apart (RightOnly j) col = right j col

  cell-apart : (row : JoinedRow) (o : Origin) → joined_cell l r row o ≢ word null
  cell-apart row (Coalesced a b) = scaled-apart null (coalesced_scale l r a b) (coalesced (left_cell l row a) (right_cell r row b))
      (first-apart null (left_cell l row a) (right_cell r row b) (left-apart row a) (right-apart row b))
  cell-apart row (Left a) = left-apart row a
  cell-apart row (Right b) = right-apart row b

  row-apart : (origins : List Origin) (row : JoinedRow) (col : ℕ) → slice_index_or (joined_cells l r origins row) col nothing ≢ word null
  row-apart [] row col = λ is. cc
  row-apart (o ∷ origins) row zero = cell-apart row o
  row-apart (o ∷ origins) row (suc col) = row-apart origins row col

  rows-apart : (origins : List Origin) (members : List JoinedRow) → AreApart null (map (joined_cells l r origins) members)
  rows-apart origins [] row col = λ is. cc
  rows-apart origins (m ∷ members) zero col = row-apart origins m col
  rows-apart origins (m ∷ members) (suc row) col = rows-apart origins members row col

  -- what is chosen of a joined table has no text that its tables lack
  pub view-apart : (choice : Choice) (join : BoundJoin) → AreApart null (chosen_view choice join l r).cells
  view-apart choice join = rows-apart (chosen_columns choice join l r) (chosen_rows choice (length l.rows) (joined_of join l r))

-- what holds of each table that records read as holds of the table of a side
module _ (P : TableValue → Type 0) (q : Request) (s : Side)
    (law : (found : List (List (List ℕ))) (kinds : List ColumnType) (t : TableValue) → records_read found kinds (nulls_of q s) ≡ Ok t → P t) where
  told-holds : (found : List (List (List ℕ))) (kinds : List ColumnType) (t : TableValue) → told s (records_read found kinds (nulls_of q s)) ≡ Ok t → P t
  told-holds found kinds t e = go (records_read found kinds (nulls_of q s)) refl e
    where
      go : (r : Result TableValue ReadRefused) → records_read found kinds (nulls_of q s) ≡ r → told s r ≡ Ok t → P t
      go (Ok u) is e =
          let g : ◌≡◌ {A = Result TableValue Fault} (Ok u) (Ok t) = e in
          let same : u ≡ t = cc in
          law found kinds t (is ∙ ap Ok same)
      go (Err x) is e = let g : ◌≡◌ {A = Result TableValue Fault} (Err (read_fault s x)) (Ok t) = e in absurd (cc)

  header-holds : (found : List (List (List ℕ))) (t : TableValue) → header_records q s found ≡ Ok t → P t
  header-holds [] t e = told-holds [] [] t e
  header-holds (header ∷ rest) t e = go (type_fault (types_of q s) s header) e
    where
      go : (o : Option Fault) → told_first o (told s (records_read (header ∷ rest) (types_under (types_of q s) header) (nulls_of q s))) ≡ Ok t → P t
      go None e = told-holds (header ∷ rest) (types_under (types_of q s) header) t e
      go (Some f) e = let g : ◌≡◌ {A = Result TableValue Fault} (Err f) (Ok t) = e in absurd (cc)

  side-holds : (found : List (List (List ℕ))) (t : TableValue) → side_records q s found ≡ Ok t → P t
  side-holds found t e = elim (cases_Bool (has_lawful_nulls q)) [
    | inl lawful ↦ let read : header_records q s found ≡ Ok t = rw lawful at e in header-holds found t read
    | inr unlawful ↦ let no : ◌≡◌ {A = Result TableValue Fault} (Err fault.BadNull) (Ok t) = rw unlawful at e in absurd (cc)
  ]

  by-holds : (x : Strictness) (bytes : List ℕ) (t : TableValue) → IsTableBy x q s bytes t → P t
  by-holds strictness.Off bytes t is = side-holds (records (config_of (delimiter_of q s)) (strip_bom bytes)) t is
  by-holds strictness.On bytes t is = side-holds (records_of is.0) t is.2
  by-holds strictness.Full bytes t is = side-holds (records_of is.0) t is.2

  pub table-holds : (bytes : List ℕ) (t : TableValue) → IsTable q s bytes t → P t
  table-holds bytes t is = by-holds q.strict bytes t is

-- a table that was read has no text that is one of its null texts
pub table-apart : ((records : List (List (List ℕ))) (types : List ColumnType) (nulls : List (List ℕ)) (null : List ℕ) (t : TableValue)
    → is_null_field nulls null ≡ true → records_read records types nulls ≡ Ok t → AreApart null t.rows)
    → (q : Request) (s : Side) (bytes null : List ℕ) (t : TableValue) → is_null_field (nulls_of q s) null ≡ true → IsTable q s bytes t → AreApart null t.rows
table-apart law q s bytes null t among is = table-holds (λ t. AreApart null t.rows) q s (λ found kinds t e. law found kinds (nulls_of q s) null t among e) bytes t is
