-- To which parts the rows of a side's file go: by the key columns of the clause over both headers.
use Rattle.std.specs.Prelude.{ℕ, ◌≡◌, ◌≢◌, ◌⊎◌, ◌&&◌, ◌^◌, Bool, true, false, List, [], length, map, min, Result, Ok, Err, MatchResult, Option, Some}
use Rattle.clap.specs.Words.{Text}
use Rattle.rj_columns.specs.Names.{empty_table}
use Rattle.rj_columns.specs.Tables.{TableValue}
use Rattle.rj_columns.specs.declared.refused.BuildRefused.{BuildRefused}
use Rattle.rj_command.specs.Operands.{IsJoinFault, IsJoinOf}
use Rattle.rj_command.specs.Sides.{type_fault}
use Rattle.rj_condition.specs.Splits.{keys_of}
use Rattle.rj_condition.specs.declared.bound.BoundJoin.{BoundJoin}
use Rattle.rj_csv_io.specs.Pieces.{names_in}
use Rattle.rj_csv_io.specs.Tables.{are_null_texts, of_begun}
use Rattle.rj_csv_io.specs.Typed.{null_texts}
use Rattle.rj_line.specs.Faults.{read_fault}
use Rattle.rj_line.specs.declared.fault.Fault.{Fault}
use Rattle.rj_line.specs.declared.fault.Fault.TheVariants as fault
use Rattle.rj_line.specs.declared.fault.Side.{Side}
use Rattle.rj_line.specs.declared.fault.Side.TheVariants as side
use Rattle.rj_settings.specs.Columns.{types_under}
use Rattle.shards.specs.Heads.{HasHead, HasHeadFault}
use Rattle.shards.specs.Lines.{operand_of}
use Rattle.shards.specs.Outputs.{Printed}
use Rattle.shards.specs.Ranges.{AreCounted, AreDivided, IsOfFolder, IsOfReading, mixed_shard, range_file, unlawful_null}
use Rattle.shards.specs.declared.dividing.Range.{Range}
use Rattle.shards.specs.declared.failure.Failure.{Failure}
use Rattle.shards.specs.declared.failure.Failure.TheVariants as failure
use Rattle.shards.specs.declared.head.Head.{Head}
use Rattle.shards.specs.declared.line.Bounds.{Bounds}
use Rattle.shards.specs.declared.line.Line.{Line}
use Rattle.shards.specs.declared.line.Operand.{Operand}

abbrev pub other_side : Side → Side
other_side side.Left = side.Right
other_side side.Right = side.Left

-- the left table, and the right one, if the first of these two is of this side
abbrev pub left_table : Side → TableValue → TableValue → TableValue
left_table side.Left own other = own
left_table side.Right own other = other

abbrev pub right_table : Side → TableValue → TableValue → TableValue
right_table s own other = left_table (other_side s) own other

-- the table without rows that a file's header and type list make, or why they make none
abbrev pub header_table : Head → Operand → Result TableValue BuildRefused
header_table head o = empty_table (names_in head.header) (types_under o.types.items (names_in head.header))

-- why they make none: a name in the type list, or else the header
abbrev pub IsHeaderFault : Head → Operand → Side → Fault → Type 0
IsHeaderFault head o s f =
    (type_fault o.types.items s (names_in head.header) ≡ Some f) ⊎ ((b : BuildRefused) × (header_table head o ≡ Err b) × (f ≡ read_fault s (of_begun b)))

-- the clause, bound to the side's table and the other one
abbrev pub IsJoinOfSides : Line → TableValue → TableValue → BoundJoin → Type 0
IsJoinOfSides l own other join = IsJoinOf l.clause.now (left_table l.side own other) (right_table l.side own other) join

-- why there is none
abbrev pub IsJoinFaultOfSides : Line → TableValue → TableValue → Fault → Type 0
IsJoinFaultOfSides l own other f = IsJoinFault l.clause.now (left_table l.side own other) (right_table l.side own other) f

-- the columns of a side in the keys of a join
abbrev pub columns_of : Side → List (ℕ × ℕ) → List ℕ
columns_of side.Left keys = map (λ k. k.0) keys
columns_of side.Right keys = map (λ k. k.1) keys

-- these are the side's key columns of the clause
abbrev pub AreKeyColumns : Line → TableValue → TableValue → List ℕ → Type 0
AreKeyColumns l own other columns = (join : BoundJoin) × IsJoinOfSides l own other join × (columns ≡ columns_of l.side (keys_of join))

-- why there are none: the clause isn't bound, or has no key; or memory ran out
abbrev pub IsPlanFailure : Line → TableValue → TableValue → Failure → Type 0
IsPlanFailure l own other (failure.Told f) = f ≢ fault.Memory → IsJoinFaultOfSides l own other f
IsPlanFailure l own other failure.NoKey = (join : BoundJoin) × IsJoinOfSides l own other join × ((keys_of join ≡ []) ⊎ (l.parts ≡ 0))
IsPlanFailure l own other e = ⊥

-- the texts for NULL of both sides may stand for it
abbrev pub has_lawful_nulls : Line → Bool
has_lawful_nulls l =
    are_null_texts (null_texts (operand_of l l.side).nulls.items) && are_null_texts (null_texts (operand_of l (other_side l.side)).nulls.items)

-- a failure is found after the rows were read: not that there is no key, nor that memory ran out
abbrev pub is_after_rows : Failure → Bool
is_after_rows failure.NoKey = false
is_after_rows (failure.Told fault.Memory) = false
is_after_rows e = true

-- so all rows are counted then, or else nothing is printed
abbrev pub IsToldAfter : Option Text → Range → Printed → Printed → Failure → Type 0
IsToldAfter file range old new e = (is_after_rows e ≡ true → AreCounted file range old new) × (is_after_rows e ≡ false → new ≡ old)

-- (`holds` is what the files of names have)

-- the header of a side's file, and why there is none
abbrev pub HasSideHead : (Text → Option Text) → Line → Side → Head → Type 0
HasSideHead holds l s head = HasHead l.strict (operand_of l s).delimiter (holds (operand_of l s).file.now) head

abbrev pub HasSideHeadFault : (Text → Option Text) → Line → Side → Fault → Type 0
HasSideHeadFault holds l s f = HasHeadFault l.strict (operand_of l s).delimiter s (holds (operand_of l s).file.now) f

-- these are the side's key columns of the clause, over the other table that its file's header makes
pub record AreKeysOver (holds : Text → Option Text) (l : Line) (own : TableValue) (columns : List ℕ) : Type 0 where
  pub head : Head
  pub is_head : HasSideHead holds l (other_side l.side) head
  pub other : TableValue
  pub table : header_table head (operand_of l (other_side l.side)) ≡ Ok other
  pub keys : AreKeyColumns l own other columns

-- why there are none: the other file has no header that can be read, or its header makes no table, or
-- there are none over that table; or memory ran out
pub data IsOtherFailure (holds : Text → Option Text) (l : Line) (own : TableValue) : Failure → Type 0 where
  of_other_head : (f : Fault) → HasSideHeadFault holds l (other_side l.side) f → IsOtherFailure holds l own (failure.Told f)
  of_other_table : (head : Head) (f : Fault) → HasSideHead holds l (other_side l.side) head
      → (f ≢ fault.Memory → IsHeaderFault head (operand_of l (other_side l.side)) (other_side l.side) f) → IsOtherFailure holds l own (failure.Told f)
  of_clause : (head : Head) (other : TableValue) (e : Failure) → HasSideHead holds l (other_side l.side) head
      → header_table head (operand_of l (other_side l.side)) ≡ Ok other → IsPlanFailure l own other e → IsOtherFailure holds l own e

-- the range between two places of the side's file, under its header; it begins at 2^62 at most
pub record IsRangeOf (holds : Text → Option Text) (l : Line) (bounds : Bounds) (range : Range) : Type 0 where
  pub line : range.line.now ≡ l
  pub head : HasSideHead holds l l.side range.head.now
  pub own : header_table range.head.now (operand_of l l.side) ≡ Ok range.own.now
  pub types : range.types.now ≡ range.own.now.types
  pub nulls : range.nulls.now ≡ (operand_of l l.side).nulls.items
  pub delimiter : range.delimiter ≡ (operand_of l l.side).delimiter
  pub from : range.from ≡ min bounds.from (2 ^ 62)
  pub to : range.to ≡ bounds.to

-- the range is divided among as many parts as asked for, each row by its key at the key columns of
-- the clause, and how many rows and how long a header they have is printed
pub record IsDivision (holds : Text → Option Text) (tells : Bool) (l : Line) (bounds : Bounds) (told : List (Option Text)) (old new : Printed) : Type 0 where
  pub lawful : has_lawful_nulls l ≡ true
  pub range : Range
  pub is : IsRangeOf holds l bounds range
  pub columns : List ℕ
  pub keys : AreKeysOver holds l range.own.now columns
  pub count : length told ≡ l.parts
  pub divided : AreDivided tells (range_file holds range) (mixed_shard l.parts columns) range told old new

-- why a side's file isn't read up to its rows, in this order: a text for NULL may not stand for it, unless
-- the file can't be read; the side's header isn't read, or makes no table
pub data IsOwnFailure (holds : Text → Option Text) (l : Line) : Failure → Type 0 where
  of_nulls : (head : Result Head Fault) → MatchResult head (HasSideHead holds l l.side) (HasSideHeadFault holds l l.side) → has_lawful_nulls l ≡ false
      → IsOwnFailure holds l (unlawful_null head)
  of_head : (f : Fault) → has_lawful_nulls l ≡ true → HasSideHeadFault holds l l.side f → IsOwnFailure holds l (failure.Told f)
  of_table : (head : Head) (f : Fault) → has_lawful_nulls l ≡ true → HasSideHead holds l l.side head
      → (f ≢ fault.Memory → IsHeaderFault head (operand_of l l.side) l.side f) → IsOwnFailure holds l (failure.Told f)

-- why a range isn't divided, in this order, and what is there then: the side's file isn't read up to its
-- rows; these are not divided among the parts; or, without parts, they aren't all read, or the other file
-- or the clause gives no keys, which most failures tell only after all rows were read and counted
pub data IsRangeFailure (holds : Text → Option Text) (tells : Bool) (l : Line) (bounds : Bounds) (told : List (Option Text)) (old new : Printed) : Failure → Type 0 where
  of_own : (e : Failure) → IsOwnFailure holds l e → told ≡ [] → new ≡ old → IsRangeFailure holds tells l bounds told old new e
  of_parts : (range : Range) (columns : List ℕ) (e : Failure) → has_lawful_nulls l ≡ true → IsRangeOf holds l bounds range → AreKeysOver holds l range.own.now columns
      → IsOfFolder tells (range_file holds range) (mixed_shard l.parts columns) range l.parts told old new e → IsRangeFailure holds tells l bounds told old new e
  of_rows : (range : Range) (e : Failure) → has_lawful_nulls l ≡ true → IsRangeOf holds l bounds range → IsOfReading (range_file holds range) range old new e → told ≡ []
      → IsRangeFailure holds tells l bounds told old new e
  of_keys : (range : Range) (e : Failure) → has_lawful_nulls l ≡ true → IsRangeOf holds l bounds range → IsOtherFailure holds l range.own.now e
      → IsToldAfter (range_file holds range) range old new e → told ≡ [] → IsRangeFailure holds tells l bounds told old new e
