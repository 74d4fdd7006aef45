-- Rows that are divided among the outputs of parts.
use Rattle.std.specs.Prelude.{ℕ, ◌+◌, ◌≡◌, ◌≢◌, ◌<◌, ◌⊎◌, List, [], map, length, slice_index_or, slice_set, Option, None, Result, Err}
use Rattle.std.specs.Io.KnownBytes.{Appends}
use Rattle.rj_columns.specs.declared.cell.ColumnType.{ColumnType}
use Rattle.rj_columns.specs.declared.refused.BuildRefused.{BuildRefused}
use Rattle.rj_columns.specs.Contents.{Content}
use Rattle.rj_columns.specs.Names.{empty_table}
use Rattle.rj_columns.specs.Tables.{TableValue}
use Rattle.rj_csv_io.specs.Devices.{after_failure}
use Rattle.rj_csv_io.specs.Pieces.{AreRows, names_in}
use Rattle.rj_csv_io.specs.Shown.{rows_text, shown}
use Rattle.rj_csv_io.specs.Typed.{null_texts}
use Rattle.rj_csv_io.specs.Grammar.{comma}
use Rattle.rj_shards.specs.Placed.{part_rows}
use Rattle.rj_shards.specs.declared.division.piece.Division.{Division}
use Rattle.rj_shards.specs.declared.division.refused.DivideRefused.{DivideRefused}
use Rattle.rj_shards.specs.declared.division.refused.DivideRefused.TheVariants as refused

-- the text of the rows of one part, with commas
abbrev pub part_text : List ℕ → (List Content → ℕ) → ℕ → ℕ → List (List Content) → List ℕ
part_text null part p first rows = rows_text comma (map (map (shown null)) (part_rows part p first rows))

-- each part's output got the text of its rows after what it already had, if it tells what it got
abbrev pub AreAppended : List ℕ → (List Content → ℕ) → ℕ → List (List Content) → List (Option (List ℕ)) → List (Option (List ℕ)) → Type 0
AreAppended null part first rows before after = (p : ℕ) → p < length before
    → Appends (slice_index_or before p None) (slice_index_or after p None) (part_text null part p first rows)

-- an output got this text after what it already had, or it is as it was
abbrev pub IsAppendedOrNot : Option (List ℕ) → Option (List ℕ) → List ℕ → Type 0
IsAppendedOrNot before after text = (after ≡ before) ⊎ Appends before after text

-- if this error comes, each part's output but one that failed got the text of its rows, or nothing
abbrev pub ArePartlyAppended : List ℕ → (List Content → ℕ) → ℕ → List (List Content) → List (Option (List ℕ)) → List (Option (List ℕ)) → DivideRefused → Type 0
ArePartlyAppended null part first rows before after e = (p : ℕ) → p < length before → e ≢ refused.WriteDevice p
    → IsAppendedOrNot (slice_index_or before p None) (slice_index_or after p None) (part_text null part p first rows)

-- the text that is written for NULL: the first of those that stand for it, or the empty one if
-- there are none
abbrev pub written_null : List (List ℕ) → List ℕ
written_null nulls = slice_index_or nulls 0 []

-- how rows are divided: the delimiter of their text, the texts that stand for NULL, the types of the columns, the part of a row, and the
-- place of the first one
pub record Dividing : Type 0 where
  pub delimiter : ℕ
  pub nulls : List (List ℕ)
  pub types : List ColumnType
  pub part : List Content → ℕ
  pub first : ℕ

-- the parameters of a division whose route chooses these parts
abbrev pub dividing : {R : Type 0} → (R → List Content → ℕ) → Division R → Dividing
dividing part division = record { delimiter = division.delimiter; nulls = null_texts division.nulls.now; types = division.types.now; part = part division.route.now; first = division.first }

-- the same after this many rows
abbrev pub after_rows : ℕ → Dividing → Dividing
after_rows n d = record d { first = d.first + n }

-- the table without rows that the header and the types make, or why they make none
abbrev pub table_begun : {R : Type 0} → Division R → Result TableValue BuildRefused
table_begun division = empty_table (names_in division.header.now) division.types.now

-- these records are rows, this many of them, and each part's output got the text of its rows
pub record IsDivided (d : Dividing) (records : List (List (List ℕ))) (before after : List (Option (List ℕ))) (count : ℕ) : Type 0 where
  pub rows : List (List Content)
  pub read : AreRows d.nulls d.types records rows
  pub many : count ≡ length rows
  pub parts : AreAppended (written_null d.nulls) d.part d.first rows before after

-- the output of part p got the text of its rows among these records
pub record IsPartDivided (d : Dividing) (records : List (List (List ℕ))) (before after : List (Option (List ℕ))) (p : ℕ) : Type 0 where
  pub rows : List (List Content)
  pub read : AreRows d.nulls d.types records rows
  pub got : Appends (slice_index_or before p None) (slice_index_or after p None) (part_text (written_null d.nulls) d.part p d.first rows)

-- if this error comes, each part's output but one that failed got its rows among these records, or
-- nothing
abbrev pub IsPartlyDivided : Dividing → List (List (List ℕ)) → List (Option (List ℕ)) → List (Option (List ℕ)) → DivideRefused → Type 0
IsPartlyDivided d records before after e = (p : ℕ) → p < length before → e ≢ refused.WriteDevice p
    → (slice_index_or after p None ≡ slice_index_or before p None) ⊎ IsPartDivided d records before after p

-- the counts of the outputs' failures: one more for the output that failed, if one did
abbrev pub counts_after : {T : Type 0} → Result T DivideRefused → List ℕ → List ℕ
counts_after (Err (refused.WriteDevice p)) counts = slice_set counts p (after_failure (slice_index_or counts p 0))
counts_after result counts = counts

-- an error of one of this many outputs, or of memory
abbrev pub IsPutFault : ℕ → DivideRefused → Type 0
IsPutFault outputs (refused.WriteDevice p) = p < outputs
IsPutFault outputs refused.Memory = Unit {0}
IsPutFault outputs e = ⊥
