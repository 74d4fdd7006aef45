-- What the words of the command line say.
use Rattle.std.specs.Prelude.{◌≡◌, ◌≢◌, ◌^◌, ℕ, Bool, true, false, List, [], ◌∷◌, codes, pos, Option, None, Some, option_and_then, unwrap_or}
use Rattle.std.specs.Str.{bytes_eq}
use Rattle.std.specs.Str.Parse.{without_leading_plus}
use Rattle.clap.specs.Words.{App, IsAmong, Rule, Text, fault_of, first_of, kind_of, matches_of, new_rule}
use Rattle.clap.specs.Simple.{new_shape}
use Rattle.clap.specs.declared.builder.ArgAction.TheVariants.{Set, SetTrue}
use Rattle.clap.specs.declared.builder.value_parser.ValueParser.TheVariants as parser
use Rattle.clap.specs.declared.error.kind.ErrorKind.TheVariants.{OutOfMemory}
use Rattle.arrivals.specs.declared.failure.Failure.{Failure}
use Rattle.arrivals.specs.declared.failure.Failure.TheVariants as failure
use Rattle.arrivals.specs.declared.line.Line.{Line}
use Rattle.rj_line.specs.Script.{number_of}

-- a required option whose number is from the least to the most
abbrev pub number_rule : Text → ℕ → ℕ → Rule
number_rule name least most =
    record (new_rule name) { long = Some name; action = Some Set; required = true; parser = Some (parser.Signed (pos least) (pos most)) }

-- the program's options: three numbers, and a flag
abbrev pub line_rules : List Rule
line_rules =
    number_rule (codes "partition") 0 1023
    ∷ number_rule (codes "senders") 1 128
    ∷ number_rule (codes "block") 1 65536
    ∷ record (new_rule (codes "gaps")) { long = Some (codes "gaps"); action = Some SetTrue }
    ∷ []

-- the command line, as `clap` has it: it has a version, and its words begin after the program's name
abbrev pub line_app : App
line_app = record { top = record (new_shape (codes "arrivals")) { rules = line_rules; has_version = true; no_binary_name = true }; subs = [] }

-- the value that words give an option
abbrev pub word_of : List Text → Text → Option Text
word_of words name = first_of name (matches_of line_app words)

-- the number of 32 bits that an option's value writes, perhaps with a plus, or another one if it
-- writes none
abbrev pub number_or : ℕ → Option Text → ℕ
number_or other word = unwrap_or (option_and_then (λ text. number_of (2 ^ 32) (without_leading_plus text)) word) other

-- a flag's value is `true` if it is given
abbrev pub is_true : Option Text → Bool
is_true None = false
is_true (Some word) = bytes_eq word (codes "true")

-- the values of the options say this
pub record IsLineBy (word : Text → Option Text) (line : Line) : Type 0 where
  pub partition : line.partition ≡ number_or 0 (word (codes "partition"))
  pub senders : line.senders ≡ number_or 1 (word (codes "senders"))
  pub block : line.block ≡ number_or 1 (word (codes "block"))
  pub gaps : line.gaps ≡ is_true (word (codes "gaps"))

-- `clap` has no error to report of the words, and their values say this
pub record IsReplayLine (words : List Text) (line : Line) : Type 0 where
  pub accepted : fault_of line_app words ≡ []
  pub values : IsLineBy (word_of words) line

-- why words are no such line: an error of `clap` that it may report of them, or memory ran out
abbrev pub IsLineFailure : List Text → Failure → Type 0
IsLineFailure words (failure.CommandLine e) = (kind_of e ≢ OutOfMemory) × IsAmong (kind_of e) (fault_of line_app words)
IsLineFailure words failure.Memory = Unit {0}
IsLineFailure words f = ⊥
