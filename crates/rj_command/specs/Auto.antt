-- The types that a request takes from cells: for the columns that its clause compares, and of which no list says anything.
use Rattle.std.specs.Prelude.{◌≡◌, ◌⊎◌, ◌+◌, ◌&&◌, ◌||◌, ◌∷◌, ◌++◌, [], ℕ, Bool, true, false, IsTrue, List, length, replicate, Option, None, Some, option_map, is_some, if◌then◌else◌, Ok, slice_get}
use Rattle.std.specs.Option.{option_to_list}
use Rattle.csv.specs.Reading.{records, strip_bom}
use Rattle.rj_columns.specs.Names.{empty_table}
use Rattle.rj_columns.specs.Tables.{TableValue}
use Rattle.rj_columns.specs.declared.cell.ColumnType.{ColumnType}
use Rattle.rj_columns.specs.declared.cell.ColumnType.TheVariants as kind
use Rattle.rj_condition.specs.Clauses.{HasClause}
use Rattle.rj_condition.specs.Undeclared.{Marked, undeclared_in}
use Rattle.rj_condition.specs.declared.bound.BoundJoin.{BoundJoin}
use Rattle.rj_condition.specs.declared.tree.Clause.{Clause}
use Rattle.rj_line.specs.declared.fault.Side.{Side}
use Rattle.rj_line.specs.declared.fault.Side.TheVariants as side
use Rattle.rj_line.specs.declared.request.Request.{Request}
use Rattle.rj_line.specs.declared.request.Strictness.{Strictness}
use Rattle.rj_line.specs.declared.request.Strictness.TheVariants as strictness
use Rattle.rj_csv_io.specs.Grammar.{Derives, File, records_of}
use Rattle.rj_csv_io.specs.StrictReading.{body_of, config_of}
use Rattle.rj_csv_io.specs.declared.strict.header.HeaderPlace.TheVariants.{First}
use Rattle.rj_line.specs.Suggested.{AreKindsOf}
use Rattle.rj_settings.specs.Columns as columns
use Rattle.rj_settings.specs.declared.types.entry.Label.TheVariants.{Shared}
use Rattle.rj_settings.specs.declared.types.entry.TypeEntry.{TypeEntry}
use Rattle.rj_command.specs.Operands.{AreHeaders, IsJoinOf}
use Rattle.rj_command.specs.Sides.{delimiter_of, has_lawful_nulls, nulls_of, types_of}
use Rattle.rj_command.specs.Undeclared.{is_open, is_undeclared}

-- the types that the cells of a side's records suggest for its columns
abbrev pub AreKindsIn : Request → Side → List (List (List ℕ)) → List ColumnType → Type 0
AreKindsIn q s rs kinds = (t : TableValue) × AreKindsOf rs (nulls_of q s) t kinds

-- the same of the one derivation of its file's text
abbrev pub AreStrictKinds : Bool → Request → Side → List ℕ → List ColumnType → Type 0
AreStrictKinds full q s bytes kinds = (file : File) × Derives (delimiter_of q s) First full (body_of First bytes) file × AreKindsIn q s (records_of file) kinds

-- the same of its file, read as strictly as this
abbrev pub AreKindsBy : Strictness → Request → Side → List ℕ → List ColumnType → Type 0
AreKindsBy strictness.Off q s bytes kinds = AreKindsIn q s (records (config_of (delimiter_of q s)) (strip_bom bytes)) kinds
AreKindsBy strictness.On q s bytes kinds = AreStrictKinds false q s bytes kinds
AreKindsBy strictness.Full q s bytes kinds = AreStrictKinds true q s bytes kinds

abbrev pub AreKinds : Request → Side → List ℕ → List ColumnType → Type 0
AreKinds q s bytes kinds = AreKindsBy q.strict q s bytes kinds

-- the table of a side
abbrev pub table_of : TableValue → TableValue → Side → TableValue
table_of l r side.Left = l
table_of l r side.Right = r

-- the table without rows of a file's header, each column of which is of numbers
abbrev pub IsNumberTable : ℕ → List ℕ → TableValue → Type 0
IsNumberTable d bytes t =
    (header : List (List ℕ)) × (rest : List (List (List ℕ))) × (records (config_of d) (strip_bom bytes) ≡ header ∷ rest)
    × (empty_table header (replicate (length header) kind.Int) ≡ Ok t)

-- a table of whose columns only this one has no declared type, or none
abbrev pub marked_at : TableValue → Option ℕ → Marked
marked_at t None = record { table = t; undeclared = [] }
marked_at t (Some column) = record { table = t; undeclared = replicate column false ++ true ∷ [] }

-- a clause compares a column, where all columns are of numbers: by an order, or with a number
abbrev pub compares : TableValue → TableValue → Clause → Side → ℕ → Bool
compares l r c side.Left i = is_some (undeclared_in (marked_at l (Some i)) (marked_at r None) c)
compares l r c side.Right j = is_some (undeclared_in (marked_at l None) (marked_at r (Some j)) c)

-- the lists of a request say nothing of some columns of a side
abbrev pub leaves_open : Request → Side → Bool
leaves_open q s = is_open q s || columns.is_open (types_of q s)

-- the entry by which a column of this name has this type
abbrev pub entry_for : List ℕ → ColumnType → TypeEntry
entry_for name kind = record { label = Shared (record { text = name; delimited = true }); kind = kind }

-- that of a column: one that the clause compares, of which no list says anything
abbrev pub entry_at : Request → Side → (ℕ → Bool) → List ColumnType → ℕ → List ℕ → Option TypeEntry
entry_at q s compared kinds i name =
    if is_undeclared (leaves_open q s) (types_of q s) name && compared i then option_map (entry_for name) (slice_get kinds i) else None

-- those of columns with these names, the first of which is at this place
abbrev pub entries_from : Request → Side → (ℕ → Bool) → List ColumnType → ℕ → List (List ℕ) → List TypeEntry
entries_from q s compared kinds i [] = []
entries_from q s compared kinds i (name ∷ names) =
    option_to_list (entry_at q s compared kinds i name) ++ entries_from q s compared kinds (i + 1) names

-- the entries that the cells of both files suggest: those of the columns that the clause compares, of
-- which no list says anything
pub record AreSuggestedEntries (left right : List ℕ) (q : Request) (lefts rights : List TypeEntry) : Type 0 where
  pub lawful : IsTrue (has_lawful_nulls q)
  pub c : Clause
  pub has_clause : HasClause q.clause.now c
  pub l : TableValue
  pub r : TableValue
  pub left_header : IsNumberTable (delimiter_of q side.Left) left l
  pub right_header : IsNumberTable (delimiter_of q side.Right) right r
  pub left_kinds : List ColumnType
  pub right_kinds : List ColumnType
  pub left_cells : AreKinds q side.Left left left_kinds
  pub right_cells : AreKinds q side.Right right right_kinds
  pub left_entries : lefts ≡ entries_from q side.Left (compares l r c side.Left) left_kinds 0 l.names
  pub right_entries : rights ≡ entries_from q side.Right (compares l r c side.Right) right_kinds 0 r.names

-- the same request, with these entries behind its lists
pub record HasFurther (q p : Request) (lefts rights : List TypeEntry) : Type 0 where
  pub left_types : p.left_types.items ≡ q.left_types.items ++ lefts
  pub right_types : p.right_types.items ≡ q.right_types.items ++ rights
  pub same : record p { left_types = q.left_types; right_types = q.right_types } ≡ q

-- its clause is bound to both headers
abbrev pub IsBound : List ℕ → List ℕ → Request → Type 0
IsBound left right q = (l r : TableValue) × AreHeaders left right q l r × ((join : BoundJoin) × IsJoinOf q.clause.now l r join)

-- a request with the entries that the cells suggest, if its clause is bound to the headers by them;
-- else with no further one, as where the cells suggest none, since a file or the clause has an error
pub data TakesTypes (left right : List ℕ) (q p : Request) : Type 0 where
  taken : (lefts rights : List TypeEntry) → AreSuggestedEntries left right q lefts rights → HasFurther q p lefts rights → IsBound left right p → TakesTypes left right q p
  unbound : (lefts rights : List TypeEntry) (full : Request) → AreSuggestedEntries left right q lefts rights → HasFurther q full lefts rights
      → (IsBound left right full → ⊥) → HasFurther q p [] [] → TakesTypes left right q p
  none : ((lefts rights : List TypeEntry) → AreSuggestedEntries left right q lefts rights → ⊥) → HasFurther q p [] [] → TakesTypes left right q p

-- the request by which two files are joined: the line's, or with the types that it takes from cells
abbrev pub IsCompleted : List ℕ → List ℕ → Request → Request → Type 0
IsCompleted left right q p = ((q.auto_types ≡ false) × (p ≡ q)) ⊎ ((q.auto_types ≡ true) × TakesTypes left right q p)
