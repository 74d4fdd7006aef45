-- Faults of which `--explain` tells more, and what it tells.
use Rattle.std.specs.Prelude.{◌≡◌, ◌≢◌, ◌⊎◌, ◌==◌, not, if◌then◌else◌, Bool, true, false, List, [], ◌∷◌, ℕ, Option, None, IsSomeAnd, codes}
use Rattle.std.specs.List.{before_first, list_any}
use Rattle.std.specs.Str.{bytes_eq}
use Rattle.rj_explain.specs.Explained.{IsExplained}
use Rattle.rj_explain.specs.Listed.{AreWordsTold}
use Rattle.rj_explain.specs.declared.inputs.Inputs.{Inputs}
use Rattle.rj_line.specs.declared.fault.Fault.{Fault}
use Rattle.rj_line.specs.declared.fault.Fault.TheVariants as fault
use Rattle.rj_line.specs.Line.{IsLineFault, IsLineOf}
use Rattle.rj_line.specs.declared.line.Line.{Line}
use Rattle.shards.specs.Heads.{Begins}
use Rattle.shards.specs.declared.failure.Failure.{Failure}
use Rattle.shards.specs.declared.failure.Failure.TheVariants.{Told}

-- the word that asks for failures to be explained
abbrev pub is_explain : List ℕ → Bool
is_explain word = bytes_eq word (codes "--explain")

-- the options that a join in one go doesn't have; each takes a value
abbrev pub own_options : List (List ℕ)
own_options = codes "--side" ∷ codes "--parts" ∷ codes "--from" ∷ codes "--to" ∷ codes "--out" ∷ codes "--cuts" ∷ []

-- a word is such an option, with its value after `=` or without
abbrev pub is_own_option : List ℕ → Bool
is_own_option word = list_any (λ o. bytes_eq o (before_first (λ c. c == 61) word)) own_options

-- an option's word has its value after `=`
abbrev pub has_value : List ℕ → Bool
has_value word = list_any (λ c. c == 61) word

-- the words without these options and their values, where the first word may be such a value
abbrev pub without_own : Bool → List (List ℕ) → List (List ℕ)
without_own is_value [] = []
without_own true (word ∷ words) = without_own false words
without_own false (word ∷ words) =
    if is_own_option word then without_own (not (has_value word)) words else word ∷ without_own false words

-- a fault stands in a header, in a type list that doesn't fit one, or in the clause: E2 to E4, E11, E13 to E16 and E27
abbrev pub is_of_headers : Fault → Bool
is_of_headers (fault.BadName side column) = true
is_of_headers (fault.RepeatedName side column) = true
is_of_headers (fault.TypeCount side) = true
is_of_headers (fault.TypeName side name) = true
is_of_headers (fault.Syntax byte) = true
is_of_headers fault.UnknownColumn = true
is_of_headers fault.AmbiguousColumn = true
is_of_headers fault.TypeMismatch = true
is_of_headers fault.RepeatedUsing = true
is_of_headers _ = false

-- what a join in one go with these words tells of a fault, by the first bytes of both files (`holds` is
-- what the files of names have)
pub record IsToldOf (holds : List ℕ → Option (List ℕ)) (f : Fault) (words : List (List ℕ)) (lines : List ℕ) : Type 0 where
  pub line : Line
  pub read : IsLineOf 1 words line
  pub inputs : Inputs
  pub request : inputs.request.now ≡ line.request
  pub left : Begins (holds line.left.now) inputs.left.now
  pub right : Begins (holds line.right.now) inputs.right.now
  pub lines_told : IsExplained f inputs lines

-- why nothing is told: these words are no line of a join in one go, or a file can't be read (`fails`
-- says that one may fail)
abbrev pub IsUntold : Type 0 → List (List ℕ) → Type 0
IsUntold fails words = ((f : Fault) × (f ≢ fault.Memory) × IsLineFault words f) ⊎ fails

-- what is told of a fault of headers: this, or nothing for one of these reasons
abbrev pub AreHeadersTold : (List ℕ → Option (List ℕ)) → Type 0 → Fault → List (List ℕ) → List ℕ → Type 0
AreHeadersTold holds fails f words lines =
    ((lines ≡ []) × IsUntold fails (without_own false words)) ⊎ IsToldOf holds f (without_own false words) lines

-- the lines of a failure with these words: those for a fault of headers, or else for an invalid value of
-- an option, and none for all else
abbrev pub AreLinesOf : (List ℕ → Option (List ℕ)) → Type 0 → Failure → List (List ℕ) → Option (List ℕ) → Type 0
AreLinesOf holds fails (Told f) words lines =
    (is_of_headers f ≡ true → IsSomeAnd lines (AreHeadersTold holds fails f words)) × (is_of_headers f ≡ false → AreWordsTold f words lines)
AreLinesOf holds fails e words lines = lines ≡ None
