-- What a run writes and counts (SQL-92, 7.5).
use Rattle.std.specs.Prelude.{◌≡◌, ◌≢◌, ◌⊎◌, ◌&&◌, Bool, true, Result, List, [], None, Option, ℕ, ◌^◌, length, map, Ok, Err}
use Rattle.std.specs.List.{range_with_len}
use Rattle.std.specs.Io.KnownBytes.{Appends}
use Rattle.std.specs.declared.alloc.Global.{Global}
use Rattle.std.specs.declared.vec.Vec.{Vec}
use Rattle.rj_columns.specs.Names.{name_fault}
use Rattle.rj_columns.specs.Tables.{TableValue}
use Rattle.rj_csv_io.specs.Ambiguous.{AreApart, AreClear, IsFirstAmbiguous}
use Rattle.rj_csv_io.specs.Shown.{table_text}
use Rattle.rj_csv_io.specs.Typed.{is_null_field}
use Rattle.rj_condition.specs.declared.bound.BoundJoin.{BoundJoin}
use Rattle.rj_condition.specs.Joins.{kind_of_join}
use Rattle.rj_condition.specs.Splits.{keys_of}
use Rattle.rj_columns.specs.Contents.{Content}
use Rattle.rj_radix.specs.Hashes.{mixed, plain}
use Rattle.rj_settings.specs.declared.choice.ColumnChoice.TheVariants.{Selected}
use Rattle.rj_settings.specs.declared.choice.Repeated.TheVariants.{Kept}
use Rattle.rj_settings.specs.declared.choice.SelectedColumn.{SelectedColumn}
use Rattle.rj_engine.specs.Cells.{header_of, view_of}
use Rattle.rj_engine.specs.Chosen.{chosen_header, chosen_view}
use Rattle.rj_engine.specs.Naming.{chosen_names}
use Rattle.rj_engine.specs.Partitioned.{sizes_of}
use Rattle.rj_engine.specs.Pools.{pieces_of_sizes}
use Rattle.rj_engine.specs.Results.{joined_of}
use Rattle.rj_command.specs.Alike.{names_of, text_key_names}
use Rattle.rj_command.specs.Expected.{IsExpected, IsUnexpected, expects_nothing}
use Rattle.rj_command.specs.Operands.{AreOperands, IsFirstFault, IsNameFault}
use Rattle.rj_command.specs.Reported.{IsReported}
use Rattle.rj_line.specs.declared.fault.Fault.{Fault}
use Rattle.rj_line.specs.declared.fault.Fault.TheVariants as fault
use Rattle.rj_command.specs.declared.join.operands.Operands.{Operands}
use Rattle.rj_line.specs.declared.request.Hash.{Hash}
use Rattle.rj_line.specs.declared.request.Hash.TheVariants as hash
use Rattle.rj_line.specs.declared.request.Request.{Request}
use Rattle.rj_line.specs.declared.request.Strictness.{Strictness}
use Rattle.rj_line.specs.declared.request.Strictness.TheVariants as strictness
use Rattle.rj_line.specs.declared.fault.Side.TheVariants as side
use Rattle.rj_command.specs.Sides.{nulls_of}
use Rattle.rj_command.specs.SuchRows.{unkept_side}
use Rattle.rj_command.specs.declared.join.stats.Stats.{Stats}
use Rattle.rj_command.specs.declared.join.unwritten.Unwritten.{Unwritten}

-- these are the names that are asked for of the chosen columns: each is valid, and no two are the
-- same, if repeated ones are renamed, or if a list names the columns
pub record AreNames (q : Request) (join : BoundJoin) (l r : TableValue) (names : List (List ℕ)) : Type 0 where
  pub written : chosen_names q.choice join l r ≡ Ok names
  pub many : length names ≡ length (chosen_header q.choice join l r)
  pub lawful : q.choice.repeated ≢ Kept → name_fault [] names ≡ None
  pub selected : (entries : Vec SelectedColumn Global) → q.choice.columns ≡ Selected entries → name_fault [] names ≡ None

-- the text of the joined table of two tables by a bound join, with this delimiter
abbrev pub joined_text : ℕ → List ℕ → BoundJoin → TableValue → TableValue → List ℕ
joined_text d null join l r = table_text d null (header_of join l r) (view_of join l r).cells

-- the text of what is chosen of it, under these names; if nothing is chosen, that is the text of
-- the joined table (`plain_text`)
abbrev pub chosen_text : Request → List (List ℕ) → BoundJoin → TableValue → TableValue → List ℕ
chosen_text q names join l r = table_text q.out_delimiter q.out_null.now names (chosen_view q.choice join l r).cells

-- read strictly, rows have no cell that isn't NULL and is written as NULL is
abbrev pub IsToldApart : Strictness → List ℕ → List (List Content) → Type 0
IsToldApart strictness.Off null rows = Unit {0}
IsToldApart strictness.On null rows = AreClear null rows
IsToldApart strictness.Full null rows = AreClear null rows

-- read strictly, this error reports the first such cell that they have
abbrev pub IsNullFault : Strictness → List ℕ → List (List Content) → Fault → Type 0
IsNullFault strictness.Off null rows f = ⊥
IsNullFault strictness.On null rows f = (row column : ℕ) × (f ≡ fault.AmbiguousNull row column) × IsFirstAmbiguous null rows row column
IsNullFault strictness.Full null rows f = (row column : ℕ) × (f ≡ fault.AmbiguousNull row column) × IsFirstAmbiguous null rows row column

-- if the text that is written for NULL is a NULL text of a table, no cell of the table is that text
abbrev pub AreReadApart : Request → Operands → Type 0
AreReadApart q o =
    (is_null_field (nulls_of q side.Left) q.out_null.now ≡ true → AreApart q.out_null.now o.left.rows)
    × (is_null_field (nulls_of q side.Right) q.out_null.now ≡ true → AreApart q.out_null.now o.right.rows)

-- the text that is written for NULL is a NULL text of both tables
abbrev pub is_read_as_null : Request → Bool
is_read_as_null q = is_null_field (nulls_of q side.Left) q.out_null.now && is_null_field (nulls_of q side.Right) q.out_null.now

abbrev pub tells_nulls_by : Strictness → Bool → Bool
tells_nulls_by strictness.Off read = true
tells_nulls_by strictness.On read = read
tells_nulls_by strictness.Full read = read

-- a NULL of a joined table can be told from its cells, or needn't be
abbrev pub tells_nulls : Request → Bool
tells_nulls q = tells_nulls_by q.strict (is_read_as_null q)

-- any joined table is taken whose chosen columns have names
abbrev pub takes_any : Request → Bool
takes_any q = expects_nothing q.expectation && tells_nulls q

-- the hash of a key
abbrev pub hash_value : Hash → List Content → ℕ
hash_value hash.Plain key = plain key
hash_value hash.Mixed key = mixed (plain key)

-- how many members of each kind the joined table has, how many rows of each table were delivered to
-- each partition of the first pass (the rows with a key whose hash ends in the partition's bits),
-- how many pieces the rows of the larger side of each partition make, if it is asked for, the report
-- of the join, which keys hold numbers that were compared as texts, and of which table unmatched rows
-- are asked for though the join's type keeps none
pub record IsCounted (value : List Content → ℕ) (q : Request) (l r : TableValue) (join : BoundJoin) (stats : Stats) : Type 0 where
  pub pairs : stats.pairs ≡ length (joined_of join l r).pairs
  pub lone_left : stats.lone_left ≡ length (joined_of join l r).lone_left
  pub lone_right : stats.lone_right ≡ length (joined_of join l r).lone_right
  pub numbers : map (λ p. p.number) stats.partitions.items ≡ range_with_len 0 (2 ^ q.settings.bits1)
  pub lefts : map (λ p. p.left) stats.partitions.items ≡ sizes_of value q.settings.bits1 l (map (λ k. k.0) (keys_of join))
  pub rights : map (λ p. p.right) stats.partitions.items ≡ sizes_of value q.settings.bits1 r (map (λ k. k.1) (keys_of join))
  pub pieces : stats.pieces ≡ pieces_of_sizes q.settings.piece (map (λ p. p.left) stats.partitions.items) (map (λ p. p.right) stats.partitions.items)
  pub tells_pieces : stats.tells_pieces ≡ q.tells_pieces
  pub report : IsReported q join l r stats.report
  pub text_keys : map names_of stats.text_keys.items ≡ text_key_names q l r (keys_of join)
  pub unkept : stats.unkept ≡ unkept_side q.choice.rows (kind_of_join join)

-- the operands' joined table can be written: its columns have names, it is as expected, its NULLs can be told from its cells, and these
-- are its counts
pub record IsReady (q : Request) (o : Operands) (stats : Stats) : Type 0 where
  pub counted : IsCounted (hash_value q.hash) q o.left o.right o.join stats
  pub expected : IsExpected q o.join o.left o.right
  pub told_apart : IsToldApart q.strict q.out_null.now (chosen_view q.choice o.join o.left o.right).cells
  pub names : List (List ℕ)
  pub named : AreNames q o.join o.left o.right names

-- something is counted of it
abbrev pub CanBeWritten : Request → Operands → Type 0
CanBeWritten q o = (stats : Stats) × IsReady q o stats

-- the text of what is chosen of it was written after what the writer already had
abbrev pub WritesTables : Request → Operands → Option (List ℕ) → Option (List ℕ) → Stats → Type 0
WritesTables q o before after stats = (j : IsReady q o stats) × Appends before after (chosen_text q j.names o.join o.left o.right)

-- the outcome of writing, without what is known of the tables after an error
abbrev pub outcome_of : Result Stats Unwritten → Result Stats Fault
outcome_of (Ok stats) = Ok stats
outcome_of (Err u) = Err u.fault

-- an error of a joined table before what is chosen of it is written: that one first, then that it
-- isn't as expected, then a cell that can't be told from NULL
abbrev pub IsResultFault : Request → BoundJoin → TableValue → TableValue → Fault → Type 0
IsResultFault q join l r f =
    IsNameFault q join l r f
    ⊎ (((names : List (List ℕ)) × AreNames q join l r names)
    × (IsUnexpected q join l r f ⊎ (IsExpected q join l r × IsNullFault q.strict q.out_null.now (chosen_view q.choice join l r).cells f)))

-- why the operands' joined table can't be written: such an error, or out of memory
abbrev pub IsUnprepared : Request → Operands → Fault → Type 0
IsUnprepared q o f = (f ≡ fault.Memory) ⊎ IsResultFault q o.join o.left o.right f

-- why it isn't written: such an error, out of memory, or the writer failed
abbrev pub IsUnwritten : Request → Operands → Fault → Type 0
IsUnwritten q o f = (f ≡ fault.Memory) ⊎ ((f ≡ fault.WriteDevice) ⊎ IsResultFault q o.join o.left o.right f)

-- the text of what is chosen of the joined table of what the bytes denote, and that table's
-- statistics
pub record IsJoined (left right : List ℕ) (q : Request) (stats : Stats) (text : List ℕ) : Type 0 where
  pub l : TableValue
  pub r : TableValue
  pub join : BoundJoin
  pub operands : AreOperands left right q l r join
  pub counts : IsCounted (hash_value q.hash) q l r join stats
  pub expected : IsExpected q join l r
  pub told_apart : IsToldApart q.strict q.out_null.now (chosen_view q.choice join l r).cells
  pub names : List (List ℕ)
  pub named : AreNames q join l r names
  pub shown : text ≡ chosen_text q names join l r

-- that text was written after what the writer already had
abbrev pub WritesJoined : List ℕ → List ℕ → Request → Option (List ℕ) → Option (List ℕ) → Stats → Type 0
WritesJoined left right q before after stats = (text : List ℕ) × IsJoined left right q stats text × Appends before after text

-- there is such a text: the bytes denote two tables and the clause a join of them, and the joined table has names, is as expected, and its
-- NULLs can be told from its cells
abbrev pub HasJoined : List ℕ → List ℕ → Request → Type 0
HasJoined left right q = (stats : Stats) × (text : List ℕ) × IsJoined left right q stats text

-- the bytes denote two tables, whose joined table has this error
pub record IsFirstResultFault (left right : List ℕ) (q : Request) (f : Fault) : Type 0 where
  pub l : TableValue
  pub r : TableValue
  pub join : BoundJoin
  pub operands : AreOperands left right q l r join
  pub told : IsResultFault q join l r f

-- the error of a run: out of memory, a failed writer, the first error of the operands, whose columns
-- are named, or that of their joined table
abbrev pub IsRunFault : List ℕ → List ℕ → Request → Fault → Type 0
IsRunFault left right q f = f ≢ fault.Memory → f ≢ fault.WriteDevice → IsFirstFault true left right q f ⊎ IsFirstResultFault left right q f
