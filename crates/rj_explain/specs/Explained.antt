-- The lines for each error, by what was read. The words are those of `Lines`. No lines mean that
-- there is no such place.
use Rattle.std.specs.Prelude.{ℕ, ◌≡◌, ◌<◌, ◌⊎◌, ◌-◌, ◌==◌, Bool, false, true, List, [], ◌∷◌, codes, length, map, take, Option, None, Some, MatchOption, ◌++◌, Result, Ok, Err, if◌then◌else◌, is_none, slice_get}
use Rattle.std.specs.List.{find, list_all}
use Rattle.std.specs.declared.alloc.Global.{Global}
use Rattle.std.specs.declared.vec.Vec.{Vec}
use Rattle.csv.specs.Reading.{records, strip_bom}
use Rattle.rj_columns.specs.Names.{empty_table}
use Rattle.rj_columns.specs.Tables.{TableValue}
use Rattle.rj_columns.specs.declared.refused.BuildRefused.{BuildRefused}
use Rattle.rj_condition.specs.Bound.{bound}
use Rattle.rj_condition.specs.Clauses.{HasClause}
use Rattle.rj_condition.specs.Mismatches.{HasNoMismatch, IsMismatch}
use Rattle.rj_condition.specs.Refusals.{IsRefusedColumn, IsTaken}
use Rattle.rj_condition.specs.Splits.{keys_of}
use Rattle.rj_condition.specs.declared.bound.BoundJoin.{BoundJoin}
use Rattle.rj_condition.specs.declared.refused.BindRefused.{BindRefused}
use Rattle.rj_condition.specs.declared.refused.BindRefused.TheVariants as refused
use Rattle.rj_condition.specs.declared.mismatches.Mismatch.{Mismatch}
use Rattle.rj_condition.specs.declared.refusals.RefusedColumn.{RefusedColumn}
use Rattle.rj_condition.specs.declared.tree.Clause.{Clause}
use Rattle.rj_csv_io.specs.Pieces.{names_in}
use Rattle.rj_csv_io.specs.declared.pieces.Header.{Header}
use Rattle.rj_engine.specs.Naming.{chosen_names, name_of_entry}
use Rattle.rj_line.specs.declared.fault.Fault.{Fault}
use Rattle.rj_line.specs.declared.fault.Fault.TheVariants as fault
use Rattle.rj_line.specs.declared.fault.Side.{Side}
use Rattle.rj_line.specs.declared.fault.Side.TheVariants as side
use Rattle.rj_line.specs.declared.request.Request.{Request}
use Rattle.rj_line.specs.declared.request.Strictness.{Strictness}
use Rattle.rj_line.specs.declared.request.Strictness.TheVariants as strictness
use Rattle.rj_csv_io.specs.StrictFaults.{AreAbove, HasFault, row_at}
use Rattle.rj_csv_io.specs.Grammar.{Derives, File, file_text}
use Rattle.rj_csv_io.specs.StrictReading.{body_of, config_of, quoted}
use Rattle.rj_settings.specs.declared.choice.SelectedColumn.{SelectedColumn}
use Rattle.rj_csv_io.specs.declared.strict.fault.StrictFault.{StrictFault}
use Rattle.rj_csv_io.specs.declared.strict.header.HeaderPlace.TheVariants.{First}
use Rattle.rj_settings.specs.Columns.{kind_of, text_of_rest, types_under}
use Rattle.rj_settings.specs.Lists.{is_place}
use Rattle.rj_settings.specs.declared.types.entry.TypeEntry.{TypeEntry}
use Rattle.rj_explain.specs.declared.inputs.Inputs.{Inputs}
use Rattle.rj_explain.specs.declared.inputs.TableFile.{TableFile}
use Rattle.rj_explain.specs.Hints.{file_line, file_side, file_words, separator_line}
use Rattle.rj_explain.specs.Lines.{both_names_line, cell_of_row, clause_line, columns_line, count_line, grammar_line, key_text, mismatch_line, name_line, names_line, null_line, null_rule, ragged_line, repeated_told, row_line, selected_line}
use Rattle.rj_explain.specs.Places.{HasNoRow, IsRow, at_column}
use Rattle.rj_explain.specs.Selected.{IsWhy, entries_of, meant_by, repeated_words}
use Rattle.rj_explain.specs.Strict.{IsFaultLine}
use Rattle.rj_explain.specs.Typed.{typed_text}
use Rattle.rj_explain.specs.Unknown.{IsEntryUnknown, IsReasonTold, both_names}

-- a side's file, and what is known of the types of its columns
abbrev pub file_of : Side → Inputs → List ℕ
file_of side.Left inputs = inputs.left.now
file_of side.Right inputs = inputs.right.now

abbrev pub types_of : Side → Inputs → List TypeEntry
types_of side.Left inputs = inputs.request.now.left_types.items
types_of side.Right inputs = inputs.request.now.right_types.items

-- the delimiter of a side's file
abbrev pub delimiter_of : Side → Inputs → ℕ
delimiter_of side.Left inputs = inputs.request.now.left_delimiter
delimiter_of side.Right inputs = inputs.request.now.right_delimiter

-- the last line of a file needs its line end
abbrev pub is_full : Strictness → Bool
is_full strictness.Off = false
is_full strictness.On = false
is_full strictness.Full = true

-- the names of a file's header
abbrev pub first_record : List (List (List ℕ)) → List (List ℕ)
first_record [] = []
first_record (r ∷ rest) = r

abbrev pub header_names : ℕ → List ℕ → List (List ℕ)
header_names d file = first_record (records (config_of d) (strip_bom file))

-- a file as it is read: its bytes and its delimiter, what is known of the types of its columns, and
-- how strictly
pub record ReadFile : Type 0 where
  pub bytes : List ℕ
  pub delimiter : ℕ
  pub types : List TypeEntry
  pub strict : Strictness

abbrev pub file_read : TableFile → ReadFile
file_read f = record { bytes = f.bytes.now; delimiter = f.delimiter; types = f.types.now; strict = f.strict }

-- a side's file
abbrev pub side_file : Side → Inputs → ReadFile
side_file s inputs = record { bytes = file_of s inputs; delimiter = delimiter_of s inputs; types = types_of s inputs; strict = inputs.request.now.strict }

-- a file whose columns are texts
abbrev pub file_of_texts : ℕ → Strictness → List ℕ → ReadFile
file_of_texts d strict bytes = record { bytes = bytes; delimiter = d; types = text_of_rest ∷ []; strict = strict }

abbrev pub file_names : ReadFile → List (List ℕ)
file_names f = header_names f.delimiter f.bytes

-- those of a side's file
abbrev pub side_names : Side → Inputs → List (List ℕ)
side_names s inputs = header_names (delimiter_of s inputs) (file_of s inputs)

abbrev pub names_of : Option Header → List (List ℕ)
names_of None = []
names_of (Some header) = names_in header

-- the first name to which a list gives no type: in a list by position the one behind those that have a
-- type
abbrev pub first_untyped : List TypeEntry → List (List ℕ) → Option (List ℕ)
first_untyped entries names =
    if list_all (λ e. is_place e.label) entries then slice_get names (length entries)
    else find (λ name. is_none (kind_of entries name)) names

-- both counts of names and types, and that name
abbrev pub count_told : List TypeEntry → List (List ℕ) → List ℕ
count_told entries names = count_line (length names) (length (types_under entries names)) (first_untyped entries names)

abbrev pub IsTypeCountTold : ReadFile → List ℕ → Type 0
IsTypeCountTold f lines = ((file_names f ≡ []) × (lines ≡ [])) ⊎ (lines ≡ count_told f.types (file_names f))

-- the names of a header
abbrev pub IsTypeNameTold : ReadFile → List ℕ → Type 0
IsTypeNameTold f lines = ((file_names f ≡ []) × (lines ≡ [])) ⊎ (lines ≡ names_line (file_names f))

-- the file that is in a text, or what is above the place where it stops being one
abbrev pub IsReadStrictly : ℕ → List ℕ → File → Type 0
IsReadStrictly d text file =
    Derives d First false (body_of First text) file
    ⊎ ((f : StrictFault) × HasFault d First false (body_of First text) f × AreAbove d First (body_of First text) (row_at f) file.lines × (file.rest ≡ None))

-- the same with its empty lines quoted, in which they are rows
abbrev pub IsQuotedText : ℕ → List ℕ → List ℕ → Type 0
IsQuotedText d text read = (file : File) × IsReadStrictly d text file × (read ≡ file_text d (quoted file))

-- the text of which a file's records are read
abbrev pub IsReadText : ℕ → Strictness → List ℕ → List ℕ → Type 0
IsReadText d strictness.Off file text = text ≡ strip_bom file
IsReadText d strictness.On file text = IsQuotedText d file text
IsReadText d strictness.Full file text = IsQuotedText d file text

abbrev pub IsTextOf : ReadFile → List ℕ → Type 0
IsTextOf f text = IsReadText f.delimiter f.strict f.bytes text

-- a text of its own, or that of the file
abbrev pub text_in : Option (Vec ℕ Global) → List ℕ → List ℕ
text_in None file = strip_bom file
text_in (Some own) file = strip_bom own.items

-- the lines for a row, by the line of the text on which it begins, the names of the header and its
-- fields
abbrev pub IsRowTold : ℕ → List ℕ → ℕ → (ℕ → List (List ℕ) → List (List ℕ) → Type 0) → List ℕ → Type 0
IsRowTold d text row tells lines =
    ((HasNoRow d text 0 ⊎ HasNoRow d text row) × (lines ≡ []))
    ⊎ ((above line : ℕ) × (names fields : List (List ℕ)) × IsRow d text 0 above names × IsRow d text row line fields × tells line names fields)

abbrev pub IsToldOfRow : ReadFile → ℕ → (ℕ → List (List ℕ) → List (List ℕ) → Type 0) → List ℕ → Type 0
IsToldOfRow f row tells lines = (text : List ℕ) × IsTextOf f text × IsRowTold f.delimiter text row tells lines

-- a cell that isn't of its column's type
abbrev pub IsCellTold : ReadFile → ℕ → ℕ → List ℕ → Type 0
IsCellTold f row column lines = IsToldOfRow f row (λ line names fields. lines ≡ cell_of_row f.types column line names fields) lines

-- a row whose length isn't the header's
abbrev pub IsRaggedTold : ReadFile → ℕ → List ℕ → Type 0
IsRaggedTold f row lines = IsToldOfRow f row (λ line names fields. lines ≡ ragged_line line (length fields) (length names)) lines

-- the name of a column of a row under the header
abbrev pub column_name : List (List ℕ) → ℕ → ℕ → Option (List ℕ)
column_name names row column = if row == 0 then None else at_column column names

-- the lines for the place where a text stops being of the grammar
abbrev pub IsGrammarTold : ℕ → Bool → List ℕ → Option (List ℕ) → List ℕ → List ℕ → Type 0
IsGrammarTold d full text name why lines =
    (((file : File) × Derives d First full (body_of First text) file) × (lines ≡ []))
    ⊎ ((line : ℕ) × IsFaultLine d full text line × (lines ≡ grammar_line line name why))

abbrev pub IsStrictTold : ReadFile → ℕ → ℕ → List ℕ → List ℕ → Type 0
IsStrictTold f row column why lines = IsGrammarTold f.delimiter (is_full f.strict) f.bytes (column_name (file_names f) row column) why lines

-- the table without rows whose columns are those of a side's file
abbrev pub columns_in : Side → Inputs → Result TableValue BuildRefused
columns_in s inputs = empty_table (side_names s inputs) (types_under (types_of s inputs) (side_names s inputs))

abbrev pub AreColumns : Side → Inputs → Option TableValue → Type 0
AreColumns s inputs None = (side_names s inputs ≡ []) ⊎ ((e : BuildRefused) × (columns_in s inputs ≡ Err e))
AreColumns s inputs (Some table) = columns_in s inputs ≡ Ok table

-- the lines over the columns of both sides
abbrev pub IsToldOfColumns : Inputs → (TableValue → TableValue → Type 0) → List ℕ → Type 0
IsToldOfColumns inputs tells lines =
    ((AreColumns side.Left inputs None ⊎ AreColumns side.Right inputs None) × (lines ≡ []))
    ⊎ ((left right : TableValue) × (columns_in side.Left inputs ≡ Ok left) × (columns_in side.Right inputs ≡ Ok right) × tells left right)

-- what is said of both files where neither table has a name
abbrev pub separators_told : Inputs → TableValue → TableValue → List ℕ
separators_told inputs left right =
    separator_line (Some side.Left) (delimiter_of side.Left inputs) left.names ++ separator_line (Some side.Right) (delimiter_of side.Right inputs) right.names

-- the names of both tables
abbrev pub shared_told : Inputs → TableValue → TableValue → List ℕ
shared_told inputs left right = both_names_line left.names right.names ++ separators_told inputs left right

abbrev pub IsSharedNameTold : Inputs → List ℕ → Type 0
IsSharedNameTold inputs lines = IsToldOfColumns inputs (λ left right. lines ≡ shared_told inputs left right) lines

-- what is said of both files for this reason why a name is refused
abbrev pub refusal_told : BindRefused → Inputs → TableValue → TableValue → List ℕ
refusal_told refused.UnknownColumn inputs left right = separators_told inputs left right
refusal_told _ inputs left right = []

-- a name of the clause and its byte, more of it, and what is said of the files
abbrev pub IsToldOfName : RefusedColumn → Inputs → List ℕ → TableValue → TableValue → Type 0
IsToldOfName found inputs lines left right =
    (more : List ℕ) × IsReasonTold found.refused inputs.request.now.clause.now found (both_names left right) more
    × (lines ≡ clause_line found more ++ refusal_told found.refused inputs left right)

-- the lines for the first name of the clause that is refused
abbrev pub IsRefusalTold : Inputs → List ℕ → TableValue → TableValue → Type 0
IsRefusalTold inputs lines left right =
    (((65536 < length inputs.request.now.clause.now) ⊎ IsTaken inputs.request.now.clause.now left.names right.names) × (lines ≡ []))
    ⊎ ((name : RefusedColumn) × IsRefusedColumn inputs.request.now.clause.now left.names right.names name × IsToldOfName name inputs lines left right)

abbrev pub IsNameTold : Inputs → List ℕ → Type 0
IsNameTold inputs lines = IsToldOfColumns inputs (IsRefusalTold inputs lines) lines

-- the lines for the first comparison that can't be made
abbrev pub pair_line : Mismatch → TableValue → TableValue → List ℕ
pair_line pair left right = mismatch_line (typed_text pair.first left right) (typed_text pair.second left right) pair.at

abbrev pub IsApartTold : List ℕ → List ℕ → TableValue → TableValue → Type 0
IsApartTold clause lines left right =
    (((65536 < length clause) ⊎ HasNoMismatch clause left right) × (lines ≡ []))
    ⊎ ((pair : Mismatch) × IsMismatch clause left right pair × (lines ≡ pair_line pair left right))

abbrev pub IsMismatchTold : Inputs → List ℕ → Type 0
IsMismatchTold inputs lines = IsToldOfColumns inputs (IsApartTold inputs.request.now.clause.now lines) lines

-- the join that a clause asks of two tables
abbrev pub IsJoinOf : List ℕ → TableValue → TableValue → BoundJoin → Type 0
IsJoinOf clause left right join = (c : Clause) × HasClause clause c × (bound c left right ≡ Ok join)

-- none
abbrev pub HasNoJoin : List ℕ → TableValue → TableValue → Type 0
HasNoJoin clause left right = (join : BoundJoin) → IsJoinOf clause left right join → ⊥

-- the columns of a side's table that are keys of a join, counted from 0
abbrev pub keys_at : Side → BoundJoin → List ℕ
keys_at side.Left join = map (λ k. k.0) (keys_of join)
keys_at side.Right join = map (λ k. k.1) (keys_of join)

-- those of the join that a clause asks of two tables; none if it asks for none
abbrev pub AreKeysAsked : Side → List ℕ → List ℕ → TableValue → TableValue → Type 0
AreKeysAsked s clause columns left right =
    (HasNoJoin clause left right × (columns ≡ []))
    ⊎ ((join : BoundJoin) × IsJoinOf clause left right join × (columns ≡ keys_at s join))

-- those of the join of both files; none if a file's header makes no table
abbrev pub AreKeyColumns : Side → Inputs → List ℕ → Type 0
AreKeyColumns s inputs columns = IsToldOfColumns inputs (AreKeysAsked s inputs.request.now.clause.now columns) columns

-- a row that is in this many matches, and what is in the columns of its key
abbrev pub IsKeyTold : Side → ℕ → ℕ → Inputs → List ℕ → ℕ → List (List ℕ) → List (List ℕ) → Type 0
IsKeyTold s row pairs inputs lines line names fields =
    (columns : List ℕ) × AreKeyColumns s inputs columns × (lines ≡ row_line s row pairs line (key_text names fields columns))

abbrev pub IsPairedTold : Side → ℕ → ℕ → Inputs → List ℕ → Type 0
IsPairedTold s row pairs inputs lines = IsToldOfRow (side_file s inputs) row (IsKeyTold s row pairs inputs lines) lines

-- the names under which its chosen columns are written
pub record AreNamesWritten (request : Request) (left right : TableValue) (names : List (List ℕ)) : Type 0 where
  pub join : BoundJoin
  pub asked : IsJoinOf request.clause.now left right join
  pub written : chosen_names request.choice join left right ≡ Ok names

-- none
abbrev pub HasNoNames : Request → TableValue → TableValue → Type 0
HasNoNames request left right = (names : List (List ℕ)) → AreNamesWritten request left right names → ⊥

-- the lines for a cell of the result that would be read as NULL
abbrev pub IsCellOfResultTold : Request → ℕ → ℕ → List ℕ → TableValue → TableValue → Type 0
IsCellOfResultTold request row column lines left right =
    (HasNoNames request left right × (lines ≡ []))
    ⊎ ((names : List (List ℕ)) × AreNamesWritten request left right names × (lines ≡ null_line row (slice_get names (column - 1)) request.out_null.now))

abbrev pub IsNullTold : ℕ → ℕ → Inputs → List ℕ → Type 0
IsNullTold row column inputs lines = IsToldOfColumns inputs (IsCellOfResultTold inputs.request.now row column lines) lines

-- the words for an entry of a list of columns that is refused, by those before it
abbrev pub IsRefusedEntry : Inputs → BoundJoin → TableValue → TableValue → List SelectedColumn → SelectedColumn → List ℕ → Type 0
IsRefusedEntry inputs join left right earlier entry words =
    IsWhy (meant_by join left right entry) (IsEntryUnknown entry.source entry.name (both_names left right)) (separators_told inputs left right) (repeated_words join left right earlier (name_of_entry join left right entry)) words

-- the line for the entry with this number, counted from 1, if there is one
abbrev pub IsEntryTold : Inputs → BoundJoin → TableValue → TableValue → List SelectedColumn → ℕ → List ℕ → Type 0
IsEntryTold inputs join left right entries number lines =
    MatchOption (slice_get entries (number - 1)) (lines ≡ []) (λ entry.
    (words : List ℕ) × IsRefusedEntry inputs join left right (take (number - 1) entries) entry words × (lines ≡ selected_line entry.name.text number words))

abbrev pub IsToldOfEntries : Inputs → List SelectedColumn → ℕ → List ℕ → TableValue → TableValue → Type 0
IsToldOfEntries inputs entries number lines left right =
    (HasNoJoin inputs.request.now.clause.now left right × (lines ≡ []))
    ⊎ ((join : BoundJoin) × IsJoinOf inputs.request.now.clause.now left right join × IsEntryTold inputs join left right entries number lines)

-- the same of the request's list
abbrev pub IsSelectedTold : ℕ → Inputs → List ℕ → Type 0
IsSelectedTold number inputs lines =
    MatchOption (entries_of inputs.request.now.choice.columns) (lines ≡ []) (λ entries.
    IsToldOfColumns inputs (IsToldOfEntries inputs entries number lines) lines)

-- why a closing quote doesn't end its field
abbrev pub behind_quote : ℕ → List ℕ
behind_quote d =
    if d == 44 then codes "more than a comma or a line end stands behind the closing quote"
    else codes "more than a delimiter or a line end stands behind the closing quote"

-- the lines for an error of the grammar
abbrev pub IsStrictExplained : Fault → ReadFile → List ℕ → Type 0
IsStrictExplained (fault.OpenQuote s row column) f lines = IsStrictTold f row column (codes "no quote closes the field that one opens here") lines
IsStrictExplained (fault.AfterQuote s row column) f lines = IsStrictTold f row column (behind_quote f.delimiter) lines
IsStrictExplained (fault.BareQuote s row column) f lines =
    IsStrictTold f row column (codes "a quote stands within a field that doesn't begin with one") lines
IsStrictExplained (fault.BareReturn s row column) f lines =
    IsStrictTold f row column (codes "no line feed follows the carriage return behind the field") lines
IsStrictExplained (fault.EmptyLine s row) f lines = IsStrictTold f row 0 (codes "it is empty, under more than one name") lines
IsStrictExplained (fault.CutShort s row) f lines = IsStrictTold f row 0 (codes "it has no line end") lines
IsStrictExplained _ f lines = lines ≡ []

-- the lines for the place of an error in a file
abbrev pub IsPlaceInFile : Fault → ReadFile → List ℕ → Type 0
IsPlaceInFile (fault.BadName s column) f lines = lines ≡ name_line (at_column column (file_names f))
IsPlaceInFile (fault.RepeatedName s column) f lines = lines ≡ repeated_told (file_names f) (at_column column (file_names f))
IsPlaceInFile (fault.TypeCount s) f lines = IsTypeCountTold f lines
IsPlaceInFile (fault.TypeName s name) f lines = IsTypeNameTold f lines
IsPlaceInFile (fault.TooManyColumns s) f lines = lines ≡ columns_line (length (file_names f))
IsPlaceInFile fault.BadNull f lines = lines ≡ null_rule
IsPlaceInFile (fault.RaggedRow s row) f lines = IsRaggedTold f row lines
IsPlaceInFile (fault.BadInteger s row column) f lines = IsCellTold f row column lines
IsPlaceInFile (fault.BadText s row column) f lines = IsCellTold f row column lines
IsPlaceInFile told f lines = IsStrictExplained told f lines

-- the side in whose file the place of an error is
abbrev pub place_side : Fault → Option Side
place_side (fault.CutShort s row) = Some s
place_side f = file_side f

abbrev pub IsPlaceIn : Option Side → Fault → Inputs → List ℕ → Type 0
IsPlaceIn None f inputs lines = lines ≡ []
IsPlaceIn (Some s) f inputs lines = IsPlaceInFile f (side_file s inputs) lines

abbrev pub IsPlaceInSide : Fault → Inputs → List ℕ → Type 0
IsPlaceInSide f inputs lines = IsPlaceIn (place_side f) f inputs lines

-- The lines for the place of an error. No definition fixes those of E11.
abbrev pub IsPlaceTold : Fault → Inputs → List ℕ → Type 0
IsPlaceTold fault.UnknownColumn inputs lines = IsNameTold inputs lines
IsPlaceTold fault.AmbiguousColumn inputs lines = IsNameTold inputs lines
IsPlaceTold fault.RepeatedUsing inputs lines = IsNameTold inputs lines
IsPlaceTold fault.TypeMismatch inputs lines = IsMismatchTold inputs lines
IsPlaceTold (fault.SharedTypeName name) inputs lines = IsSharedNameTold inputs lines
IsPlaceTold (fault.Syntax byte) inputs lines = Unit {0}
IsPlaceTold (fault.AmbiguousNull row column) inputs lines = IsNullTold row column inputs lines
IsPlaceTold (fault.SelectedName number) inputs lines = IsSelectedTold number inputs lines
IsPlaceTold fault.BadNull inputs lines = lines ≡ null_rule
IsPlaceTold f inputs lines = IsPlaceInSide f inputs lines

-- what is said of the whole file in which an error is, by the file's label
abbrev pub table_told : Option Side → Fault → ReadFile → List ℕ
table_told label told f = file_line label (file_words label f.delimiter told f.bytes (file_names f))

abbrev pub file_told_of : Fault → Inputs → Option Side → List ℕ
file_told_of f inputs None = []
file_told_of f inputs (Some s) = table_told (Some s) f (side_file s inputs)

abbrev pub file_told : Fault → Inputs → List ℕ
file_told f inputs = file_told_of f inputs (file_side f)

-- the lines for an error
abbrev pub IsExplained : Fault → Inputs → List ℕ → Type 0
IsExplained f inputs lines = (place : List ℕ) × IsPlaceTold f inputs place × (lines ≡ place ++ file_told f inputs)

-- the same for the only file of a run
abbrev pub only_file_told_of : Fault → ReadFile → Option Side → List ℕ
only_file_told_of told f None = []
only_file_told_of told f (Some s) = table_told None told f

abbrev pub only_file_told : Fault → ReadFile → List ℕ
only_file_told told f = only_file_told_of told f (file_side told)

abbrev pub IsExplainedAlone : Fault → ReadFile → List ℕ → Type 0
IsExplainedAlone told f lines = (place : List ℕ) × IsPlaceInFile told f place × (lines ≡ place ++ only_file_told told f)
