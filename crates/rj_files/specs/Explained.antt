-- The lines that explain an error of a join of two files.
use Rattle.std.specs.Prelude.{ℕ, ◌≡◌, ◌≢◌, ◌⊎◌, ◌+◌, Bool, true, false, List, [], ◌∷◌, ◌++◌, Option, None, Ok, Some, codes, decimal}
use Rattle.rj_command.specs.Operands.{IsFirstFault}
use Rattle.rj_command.specs.Sides.{delimiter_of, nulls_of}
use Rattle.rj_command.specs.Violations.{HasViolation}
use Rattle.rj_engine.specs.declared.violations.Violation.{Violation}
use Rattle.rj_engine.specs.declared.violations.Violation.TheVariants as violation
use Rattle.rj_explain.specs.Explained.{IsExplained, IsPairedTold, file_of}
use Rattle.rj_explain.specs.Further.{IsFurtherExplained}
use Rattle.rj_explain.specs.declared.inputs.Inputs.{Inputs}
use Rattle.rj_line.specs.Faults.{side_text}
use Rattle.rj_line.specs.declared.fault.Fault.{Fault}
use Rattle.rj_line.specs.declared.fault.Fault.TheVariants as fault
use Rattle.rj_line.specs.declared.fault.Side.{Side}
use Rattle.rj_line.specs.declared.fault.Side.TheVariants as side
use Rattle.rj_line.specs.declared.line.Line.{Line}
use Rattle.rj_line.specs.Misfits.{IsSuggestion}
use Rattle.rj_line.specs.Suggested.{IsSuggestFault}
use Rattle.rj_line.specs.declared.suggest.suggestion.Suggestion.{Suggestion}
use Rattle.rj_files.specs.Entries.{entry_for}
use Rattle.rj_files.specs.Memory.{IsMemoryTold}
use Rattle.rj_files.specs.Streams.{IsOfStreams}
use Rattle.rj_files.specs.Texts.{IsIndented, unkept_lines, unread_memory_text}
use Rattle.rj_files.specs.Told.{IsThere, OptionalText}

-- the lines for its place; where all is asked for, with those for further cells behind them
abbrev pub IsPlaceExplained : Bool → Fault → Inputs → List ℕ → Type 0
IsPlaceExplained false f inputs lines = IsExplained f inputs lines
IsPlaceExplained true f inputs lines = (place further : List ℕ) × IsExplained f inputs place × IsFurtherExplained f inputs further × (lines ≡ place ++ further)

-- the lines for a violation of what is expected of the joined table: how many rows it has, or its
-- first row with too many matches, or with none
abbrev pub IsViolationTold : Inputs → Violation → List ℕ → Type 0
IsViolationTold inputs (violation.Rows n) lines = lines ≡ codes "  the joined table has " ++ (decimal n ++ (codes " rows" ++ 10 ∷ []))
IsViolationTold inputs (violation.LeftRow i pairs) lines = IsPairedTold side.Left (i + 1) pairs inputs lines
IsViolationTold inputs (violation.RightRow j pairs) lines = IsPairedTold side.Right (j + 1) pairs inputs lines
IsViolationTold inputs (violation.LoneLeft i) lines = IsPairedTold side.Left (i + 1) 0 inputs lines

-- there is no violation: the joined table is as expected, or the tables or the clause have an error
abbrev pub HasNoViolation : Inputs → Type 0
HasNoViolation inputs =
    HasViolation inputs.left.now inputs.right.now inputs.request.now None
    ⊎ ((f : Fault) × (f ≢ fault.Memory) × IsFirstFault false inputs.left.now inputs.right.now inputs.request.now f)

-- the lines for that of two files' joined table; none only if there is none
abbrev pub IsUnexpectedTold : Inputs → List ℕ → Type 0
IsUnexpectedTold inputs lines =
    (HasNoViolation inputs × (lines ≡ []))
    ⊎ ((v : Violation) × HasViolation inputs.left.now inputs.right.now inputs.request.now (Some v) × IsViolationTold inputs v lines)

-- the line for a column whose type isn't declared, with the entry that its cells suggest, if there is
-- one
abbrev pub undeclared_line : Side → Option (List ℕ) → List ℕ
undeclared_line s None = codes "  declare its type by --" ++ (side_text s ++ (codes "-types" ++ 10 ∷ []))
undeclared_line s (Some entry) =
    codes "  declare its type; its cells suggest --" ++ (side_text s ++ (codes "-types '" ++ (entry ++ (codes "'" ++ 10 ∷ []))))

-- what the cells of a side's file suggest, or why they suggest nothing
abbrev pub IsSuggestedOf : Side → Inputs → Suggestion → Type 0
IsSuggestedOf s inputs suggestion = IsSuggestion (delimiter_of inputs.request.now s) (file_of s inputs) (nulls_of inputs.request.now s) suggestion

abbrev pub IsUnsuggestedOf : Side → Inputs → Fault → Type 0
IsUnsuggestedOf s inputs f = (f ≢ fault.Memory) × IsSuggestFault (delimiter_of inputs.request.now s) (file_of s inputs) (nulls_of inputs.request.now s) f

-- that line for a column of this name, by what its file's cells suggest; none only if they suggest
-- nothing
abbrev pub IsUndeclaredTold : Side → List ℕ → Inputs → List ℕ → Type 0
IsUndeclaredTold s name inputs lines =
    ((f : Fault) × IsUnsuggestedOf s inputs f × (lines ≡ []))
    ⊎ ((suggestion : Suggestion) × IsSuggestedOf s inputs suggestion × (lines ≡ undeclared_line s (entry_for name suggestion.list.items)))

-- the lines for an error of what a line asks for of two files
abbrev pub IsToldOf : Line → Fault → Inputs → List ℕ → Type 0
IsToldOf line fault.Memory inputs lines = IsMemoryTold line.count inputs lines
IsToldOf line (fault.NoSuchRows s) inputs lines = lines ≡ unkept_lines s
IsToldOf line fault.NotAsExpected inputs lines = IsUnexpectedTold inputs lines
IsToldOf line (fault.UndeclaredType s name) inputs lines = IsUndeclaredTold s name inputs lines
IsToldOf line f inputs lines = IsPlaceExplained line.explain_all f inputs lines

-- the same of two files with these bytes
abbrev pub AreLinesBy : Line → List ℕ → List ℕ → Fault → OptionalText → Type 0
AreLinesBy line l r f lines =
    (inputs : Inputs) × (inputs.left.now ≡ l) × (inputs.right.now ≡ r) × (inputs.request.now ≡ line.request) × IsThere lines (IsToldOf line f inputs)

-- the line when a side's file can't be read: one that explains its stream, or that memory ran out
-- meanwhile
abbrev pub IsUnreadExplained : Side → (List ℕ → Type 0) → Fault → OptionalText → Type 0
IsUnreadExplained s explains f lines =
    ((f ≡ fault.ReadDevice s) × IsThere lines (λ text. IsIndented text × explains text))
    ⊎ ((f ≡ fault.Memory) × IsThere lines (λ text. text ≡ unread_memory_text s))

-- between the reading and the join, a line completes headers or takes types from cells
abbrev pub IsPreparing : Line → Type 0
IsPreparing line = (line.unnamed ≡ true) ⊎ (line.request.auto_types ≡ true)

-- the lines for an error of a run over two streams, which explain theirs so, other than that of a
-- failed write: there are none if memory ran out between the reading and the join
abbrev pub AreLinesOf : Line → Line → Option (List ℕ) → Option (List ℕ) → (List ℕ → Type 0) → (List ℕ → Type 0) → Fault → OptionalText → Type 0
AreLinesOf line joined left right explains_left explains_right f lines =
    (IsPreparing line × (f ≡ fault.Memory) × (lines ≡ Ok None))
    ⊎ (IsUnreadExplained side.Left explains_left f lines ⊎ (IsUnreadExplained side.Right explains_right f lines
    ⊎ IsOfStreams line joined left right (λ l r. AreLinesBy joined l r f lines)))
