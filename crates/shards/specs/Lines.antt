-- What the command line says, by the values of its options.
use Rattle.std.specs.Prelude.{ℕ, ◌≡◌, ◌≢◌, ◌≤◌, ◌<◌, ◌^◌, ◌⊎◌, true, if◌then◌else◌, List, [], length, Option, Some, None, codes, is_some, unwrap_or}
use Rattle.std.specs.Str.{bytes_eq}
use Rattle.std.specs.Str.Parse.{IsNumeral, digits_value, without_leading_plus}
use Rattle.clap.specs.Words.{IsAmong, Text, all_of, fault_of, first_of, kind_of, matches_of}
use Rattle.clap.specs.declared.error.kind.ErrorKind.TheVariants.{OutOfMemory}
use Rattle.rj_csv_io.specs.Typed.{null_texts}
use Rattle.rj_line.specs.declared.fault.Fault.{Fault}
use Rattle.rj_line.specs.declared.fault.Fault.TheVariants as fault
use Rattle.rj_line.specs.declared.fault.Side.{Side}
use Rattle.rj_line.specs.declared.fault.Side.TheVariants as side
use Rattle.rj_line.specs.Delimiters.{delimiter_given}
use Rattle.rj_line.specs.Line.{null_word, nulls_or}
use Rattle.rj_line.specs.Named.{is_word}
use Rattle.rj_line.specs.declared.request.Strictness.{Strictness}
use Rattle.rj_line.specs.declared.request.Strictness.TheVariants as strictness
use Rattle.rj_settings.specs.Lists.{IsTypeList}
use Rattle.rj_settings.specs.declared.types.entry.TypeEntry.{TypeEntry}
use Rattle.shards.specs.Options.{OptionWords, line_app}
use Rattle.shards.specs.declared.failure.Failure.{Failure}
use Rattle.shards.specs.declared.failure.Failure.TheVariants as failure
use Rattle.shards.specs.declared.line.Bounds.{Bounds}
use Rattle.shards.specs.declared.line.Line.{Line}
use Rattle.shards.specs.declared.line.Operand.{Operand}
use Rattle.shards.specs.declared.line.Task.{Task}
use Rattle.shards.specs.declared.line.Task.TheVariants as task

-- the table of a side
abbrev pub operand_of : Line → Side → Operand
operand_of l side.Left = l.left
operand_of l side.Right = l.right

-- an option's value, or no text if it has none
abbrev pub text_or_none : Option Text → Text
text_or_none word = unwrap_or word []

-- the side that an option's value names: the right one, or else the left one
abbrev pub side_named : Option Text → Side
side_named word = if is_word (codes "right") word then side.Right else side.Left

-- how strictly files are read by an option's value
abbrev pub strictness_named : Option Text → Strictness
strictness_named None = strictness.Off
strictness_named (Some text) = if bytes_eq text (codes "full") then strictness.Full else strictness.On

-- the text is a numeral of this number, perhaps with a plus before it, and the number has this many
-- bits at most
abbrev pub Spells : ℕ → Text → ℕ → Type 0
Spells bits text n = IsNumeral 10 (without_leading_plus text) × (digits_value 10 (without_leading_plus text) ≡ n) × (n < 2 ^ bits)

-- the number that an option's value spells, if it has one
abbrev pub IsNumberOf : ℕ → Option Text → Option ℕ → Type 0
IsNumberOf bits None n = n ≡ None
IsNumberOf bits (Some text) None = (n : ℕ) → Spells bits text n → ⊥
IsNumberOf bits (Some text) (Some n) = Spells bits text n

-- the same, or another number if it has none
abbrev pub IsNumberOr : ℕ → ℕ → Option Text → ℕ → Type 0
IsNumberOr bits other word n = (given : Option ℕ) × IsNumberOf bits word given × (n ≡ unwrap_or given other)

-- between which bytes the file is divided: from the first one on if none is given
pub record AreBoundsOf (word : Text → Option Text) (b : Bounds) : Type 0 where
  pub from : IsNumberOr 64 0 (word (codes "from")) b.from
  pub to : IsNumberOf 64 (word (codes "to")) b.to

-- what to do, by this number of ranges: to cut the file into as many, or to divide bytes into a folder;
-- nothing if both or neither are asked for
abbrev pub IsTaskBy : (Text → Option Text) → Option ℕ → Option Task → Type 0
IsTaskBy word (Some n) (Some (task.Cut ranges)) = (ranges ≡ n) × (word (codes "out") ≡ None)
IsTaskBy word None (Some (task.Divide bounds folder)) = (word (codes "out") ≡ Some folder.now) × AreBoundsOf word bounds
IsTaskBy word (Some n) None = is_some (word (codes "out")) ≡ true
IsTaskBy word None None = word (codes "out") ≡ None
IsTaskBy word ranges task = ⊥

abbrev pub IsTaskOf : (Text → Option Text) → Option Task → Type 0
IsTaskOf word task = (ranges : Option ℕ) × IsNumberOf 32 (word (codes "cuts")) ranges × IsTaskBy word ranges task

-- what the values of the options say of a table, by the names of those that are its own
pub record IsOperandOf (word : Text → Option Text) (texts : Text → List Text) (file_name types_name null_name delimiter_name : Text) (o : Operand) : Type 0 where
  pub file : o.file.now ≡ text_or_none (word file_name)
  pub types : IsTypeList (text_or_none (word types_name)) o.types.items
  pub nulls : null_texts o.nulls.items ≡ nulls_or (texts null_name) (null_word word)
  pub delimiter : delimiter_given word delimiter_name ≡ Some o.delimiter

abbrev pub IsLeftOf : (Text → Option Text) → (Text → List Text) → Operand → Type 0
IsLeftOf word texts o = IsOperandOf word texts (codes "left") (codes "left-types") (codes "left-null") (codes "left-delimiter") o

abbrev pub IsRightOf : (Text → Option Text) → (Text → List Text) → Operand → Type 0
IsRightOf word texts o = IsOperandOf word texts (codes "right") (codes "right-types") (codes "right-null") (codes "right-delimiter") o

-- what the values of the options say
pub record IsLineOf (word : Text → Option Text) (texts : Text → List Text) (l : Line) : Type 0 where
  pub side : l.side ≡ side_named (word (codes "side"))
  pub left : IsLeftOf word texts l.left
  pub right : IsRightOf word texts l.right
  pub clause : l.clause.now ≡ text_or_none (word (codes "join"))
  pub strict : l.strict ≡ strictness_named (word (codes "strict"))
  pub parts : IsNumberOr 32 1 (word (codes "parts")) l.parts
  pub task : IsTaskOf word (Some l.task)

-- an option's value is a type list, or is none
abbrev pub GivesTypes : Option Text → Type 0
GivesTypes word = (types : List TypeEntry) × IsTypeList (text_or_none word) types

abbrev pub GivesNoTypes : Option Text → Type 0
GivesNoTypes word = (types : List TypeEntry) → IsTypeList (text_or_none word) types → ⊥

-- both tables have type lists
abbrev pub GiveTypes : (Text → Option Text) → Type 0
GiveTypes word = GivesTypes (word (codes "left-types")) × GivesTypes (word (codes "right-types"))

-- and no more than four NULL texts each
abbrev pub GiveTexts : (Text → Option Text) → (Text → List Text) → Type 0
GiveTexts word texts = GiveTypes word × (length (texts (codes "left-null")) ≤ 4) × (length (texts (codes "right-null")) ≤ 4)

-- and delimiters
abbrev pub AreGiven : (Text → Option Text) → (Text → List Text) → Type 0
AreGiven word texts =
    GiveTexts word texts × (is_some (delimiter_given word (codes "left-delimiter")) ≡ true) × (is_some (delimiter_given word (codes "right-delimiter")) ≡ true)

-- why the values of the options say no tables: a bad type list on the left, then on the right, then
-- too many NULL texts on the left, then on the right, then a delimiter that is none; or memory ran out
abbrev pub IsTableFault : (Text → Option Text) → (Text → List Text) → Fault → Type 0
IsTableFault word texts (fault.BadTypeList side.Left) = GivesNoTypes (word (codes "left-types"))
IsTableFault word texts (fault.BadTypeList side.Right) = GivesTypes (word (codes "left-types")) × GivesNoTypes (word (codes "right-types"))
IsTableFault word texts (fault.TooManyNulls side.Left) = GiveTypes word × (4 < length (texts (codes "left-null")))
IsTableFault word texts (fault.TooManyNulls side.Right) =
    GiveTypes word × (length (texts (codes "left-null")) ≤ 4) × (4 < length (texts (codes "right-null")))
IsTableFault word texts fault.BadDelimiter =
    GiveTexts word texts × ((delimiter_given word (codes "left-delimiter") ≡ None) ⊎ (delimiter_given word (codes "right-delimiter") ≡ None))
IsTableFault word texts fault.Memory = Unit {0}
IsTableFault word texts e = ⊥

-- why they say nothing: no tables, or else both or neither of `--out` and `--cuts`
abbrev pub IsValueFailure : (Text → Option Text) → (Text → List Text) → Failure → Type 0
IsValueFailure word texts (failure.Told f) = IsTableFault word texts f
IsValueFailure word texts failure.NoTask = AreGiven word texts × IsTaskOf word None
IsValueFailure word texts e = ⊥

-- the value that words give an option, and those that they give it use by use
abbrev pub word_of : OptionWords → List Text → Text → Option Text
word_of h words name = first_of name (matches_of (line_app h) words)

abbrev pub words_of : OptionWords → List Text → Text → List Text
words_of h words name = unwrap_or (all_of name (matches_of (line_app h) words)) []

-- `clap` has no error to report of the words, and their values say this
pub record IsShardsLine (words : List Text) (l : Line) : Type 0 where
  pub option_words : OptionWords
  pub accepted : fault_of (line_app option_words) words ≡ []
  pub values : IsLineOf (word_of option_words words) (words_of option_words words) l

-- why words are no such line: an error of `clap` that it may report of them, or else one of their
-- values; or memory ran out
abbrev pub IsLineFailure : List Text → Failure → Type 0
IsLineFailure words (failure.Told (fault.CommandLine e)) = (kind_of e ≢ OutOfMemory) × ((h : OptionWords) × IsAmong (kind_of e) (fault_of (line_app h) words))
IsLineFailure words (failure.Told fault.Memory) = Unit {0}
IsLineFailure words e = (h : OptionWords) × (fault_of (line_app h) words ≡ []) × IsValueFailure (word_of h words) (words_of h words) e
