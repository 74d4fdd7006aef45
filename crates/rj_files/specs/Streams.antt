-- What becomes of two streams of bytes: what is written of their joined table, or why nothing is.
use Rattle.std.specs.Prelude.{◌≡◌, ◌≢◌, ◌⊎◌, Bool, true, false, ℕ, List, Option, IfSome}
use Rattle.std.specs.Io.KnownBytes.{Appends}
use Rattle.rj_command.specs.Auto.{IsCompleted}
use Rattle.rj_command.specs.Counts.{IsCountFault, WritesCounts}
use Rattle.rj_command.specs.Runs.{IsRunFault, WritesJoined}
use Rattle.rj_command.specs.Sides.{strict_fault}
use Rattle.rj_line.specs.Faults.{IsOfWriting}
use Rattle.rj_line.specs.declared.fault.Fault.{Fault}
use Rattle.rj_line.specs.declared.fault.Fault.TheVariants as fault
use Rattle.rj_line.specs.declared.fault.Side.{Side}
use Rattle.rj_line.specs.declared.fault.Side.TheVariants as side
use Rattle.rj_line.specs.declared.line.Line.{Line}
use Rattle.rj_line.specs.declared.request.Strictness.{Strictness}
use Rattle.rj_line.specs.declared.request.Strictness.TheVariants as strictness
use Rattle.rj_line.specs.Keys.{IsListing}
use Rattle.rj_line.specs.StrictListings.{IsStrictListing, IsStrictRefusal}
use Rattle.rj_line.specs.Suggested.{IsSuggestFault}
use Rattle.rj_line.specs.declared.suggest.suggestion.ListedColumns.{ListedColumns}
use Rattle.rj_line.specs.declared.suggest.suggestion.Suggestion.{Suggestion}
use Rattle.rj_line.specs.declared.suggest.strict.StrictlyRefused.{StrictlyRefused}
use Rattle.rj_line.specs.declared.suggest.strict.StrictlyRefused.TheVariants as refused
use Rattle.rj_files.specs.Given.{IsGiven}
use Rattle.rj_files.specs.declared.joining.Written.{Written}
use Rattle.rj_files.specs.declared.joining.Written.TheVariants.{Counted, Joined}

-- these are all bytes of a stream: those that it tells; if it tells nothing, they may be any
abbrev pub AreBytesOf : Option (List ℕ) → List ℕ → Type 0
AreBytesOf told bytes = IfSome told (λ xs. bytes ≡ xs)

-- a side's stream can't be opened or read to its end, or memory ran out
abbrev pub IsUnread : Side → Fault → Type 0
IsUnread s f = (f ≡ fault.Memory) ⊎ (f ≡ fault.ReadDevice s)

-- what a line asks for of two tables' bytes was written after what the writer already had: the text
-- of what is chosen of their joined table, with its statistics, or with `--count` the line of the
-- numbers of its members, with the report, if one is asked for
abbrev pub WritesAsked : Line → List ℕ → List ℕ → Option (List ℕ) → Option (List ℕ) → Written → Type 0
WritesAsked line l r before after (Joined stats) = (line.count ≡ false) × WritesJoined l r line.request before after stats
WritesAsked line l r before after (Counted report) = (line.count ≡ true) × WritesCounts l r line.request before after report

-- why it isn't written
abbrev pub IsAskedFault : Line → List ℕ → List ℕ → Fault → Type 0
IsAskedFault line l r f = (line.count ≡ false → IsRunFault l r line.request f) × (line.count ≡ true → IsCountFault l r line.request f)

-- these stand for the bytes of both tables
abbrev pub AreGiven : Line → List ℕ → List ℕ → List ℕ → List ℕ → Type 0
AreGiven line l r given_l given_r = IsGiven line side.Left l given_l × IsGiven line side.Right r given_r

-- the line by which two tables' bytes are joined: this one, or with the types that it takes from their cells
abbrev pub IsCompletedLine : List ℕ → List ℕ → Line → Line → Type 0
IsCompletedLine l r line joined = IsCompleted l r line.request joined.request × (record joined { request = line.request } ≡ line)

-- this line joins the bytes of two streams, or what stands for them, of which this holds
abbrev pub IsOfStreams : Line → Line → Option (List ℕ) → Option (List ℕ) → (List ℕ → List ℕ → Type 0) → Type 0
IsOfStreams line joined left right holds =
    (l r given_l given_r : List ℕ) × AreBytesOf left l × AreBytesOf right r × AreGiven line l r given_l given_r
    × IsCompletedLine given_l given_r line joined × holds given_l given_r

-- what it asks for of them was written
abbrev pub WritesOf : Line → Line → Option (List ℕ) → Option (List ℕ) → Option (List ℕ) → Option (List ℕ) → Written → Type 0
WritesOf line joined left right before after written =
    IsOfStreams line joined left right (λ l r. WritesAsked joined l r before after written)

-- it was written to some writer, which may tell nothing
abbrev pub IsWrittenOf : Line → Line → Option (List ℕ) → Option (List ℕ) → Written → Type 0
IsWrittenOf line joined left right written = (before after : Option (List ℕ)) × WritesOf line joined left right before after written

-- why it isn't written: out of memory, a failed writer, a stream that can't be read, or the error
-- of their bytes
abbrev pub IsFaultOf : Line → Line → Option (List ℕ) → Option (List ℕ) → Fault → Type 0
IsFaultOf line joined left right f =
    IsOfWriting f ⊎ (IsUnread side.Left f ⊎ (IsUnread side.Right f
    ⊎ IsOfStreams line joined left right (λ l r. IsAskedFault joined l r f)))

-- what a file's bytes suggest of these columns, read by a delimiter and as strictly as this
abbrev pub IsSuggestedBy : ListedColumns → Strictness → ℕ → List ℕ → List (List ℕ) → Suggestion → Type 0
IsSuggestedBy listed strictness.Off d bytes nulls s = IsListing listed d bytes nulls s
IsSuggestedBy listed strictness.On d bytes nulls s = IsStrictListing listed false d bytes nulls s
IsSuggestedBy listed strictness.Full d bytes nulls s = IsStrictListing listed true d bytes nulls s

-- the error of a file that is read strictly, as that of a left table
abbrev pub fault_of_refused : StrictlyRefused → Fault
fault_of_refused (refused.Records f) = f
fault_of_refused (refused.Text f) = strict_fault side.Left f

abbrev pub IsStrictlyUnsuggested : Bool → ℕ → List ℕ → List (List ℕ) → Fault → Type 0
IsStrictlyUnsuggested full d bytes nulls f = (r : StrictlyRefused) × IsStrictRefusal full d bytes nulls r × (f ≡ fault_of_refused r)

-- why its bytes suggest nothing
abbrev pub IsUnsuggestedBy : Strictness → ℕ → List ℕ → List (List ℕ) → Fault → Type 0
IsUnsuggestedBy strictness.Off d bytes nulls f = IsSuggestFault d bytes nulls f
IsUnsuggestedBy strictness.On d bytes nulls f = IsStrictlyUnsuggested false d bytes nulls f
IsUnsuggestedBy strictness.Full d bytes nulls f = IsStrictlyUnsuggested true d bytes nulls f

-- the list that a stream's bytes suggest of these columns was written after what the writer already had
abbrev pub WritesSuggested : ListedColumns → Strictness → ℕ → List (List ℕ) → Option (List ℕ) → Option (List ℕ) → Option (List ℕ) → Type 0
WritesSuggested listed strict d nulls told before after =
    (bytes : List ℕ) × (s : Suggestion) × AreBytesOf told bytes × IsSuggestedBy listed strict d bytes nulls s × Appends before after s.list.items

-- why none is made: the stream can't be read, or the error of its bytes
abbrev pub IsUnsuggested : Strictness → ℕ → List (List ℕ) → Option (List ℕ) → Fault → Type 0
IsUnsuggested strict d nulls told f =
    IsUnread side.Left f ⊎ ((bytes : List ℕ) × AreBytesOf told bytes × (f ≢ fault.Memory → IsUnsuggestedBy strict d bytes nulls f))
