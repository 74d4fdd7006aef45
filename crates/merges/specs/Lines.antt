-- What the words of the command line say.
use Rattle.std.specs.Prelude.{◌≡◌, ◌≢◌, ◌-◌, ◌⊎◌, ◌^◌, ◌&&◌, ℕ, nat_lt, Bool, true, false, if◌then◌else◌, List, [], ◌∷◌, length, map, codes, Option, None, Some, is_some, option_map, option_and_then, unwrap_or}
use Rattle.std.specs.Borrow.{Bor}
use Rattle.std.specs.Str.{bytes_eq}
use Rattle.std.specs.Str.Parse.{digits_value, without_leading_plus}
use Rattle.clap.specs.Lexer.{usize_max}
use Rattle.clap.specs.Simple.{new_shape}
use Rattle.clap.specs.Words.{App, IsAmong, Rule, Text, all_of, app_of, fault_of, first_of, first_value, found_of, kind_of, matches_of, new_rule}
use Rattle.clap.specs.declared.builder.ArgAction.TheVariants.{Set}
use Rattle.clap.specs.declared.builder.command.Command.{Command}
use Rattle.clap.specs.declared.builder.value_parser.ValueParser.TheVariants as parser
use Rattle.clap.specs.declared.error.kind.ErrorKind.TheVariants.{OutOfMemory}
use Rattle.clap.specs.declared.parser.matches.ArgMatches.{ArgMatches}
use Rattle.merges.specs.Copies.{AreCopiesOf}
use Rattle.merges.specs.declared.failure.Failure.{Failure}
use Rattle.merges.specs.declared.failure.Failure.TheVariants as failure
use Rattle.merges.specs.declared.line.Line.{Line}
use Rattle.rj_csv_io.specs.Tables.{is_null_text}
use Rattle.rj_line.specs.Delimiters.{named_or_comma}
use Rattle.rj_line.specs.Line.{null_word, texts_found}
use Rattle.rj_shards.specs.MergeTexts.{is_number}
use Rattle.rj_shards.specs.declared.merge.copies.Copies.{Copies}
use Rattle.rj_shards.specs.declared.merge.options.MergeOptions.{MergeOptions}
use Rattle.rj_shards.specs.declared.merge.place.Place.{Place}
use Rattle.rj_shards.specs.declared.merge.place.Place.TheVariants.{Pair}
use Rattle.rj_settings.specs.declared.choice.RowOrder.{RowOrder}
use Rattle.rj_settings.specs.declared.choice.RowOrder.TheVariants.{LeftFirst, PairsFirst}

-- the names of the orders, wherever they are in memory
pub record OrderWords : Type 0 where
  pub orders : Bor (List (Bor Text))
  pub are_orders : map (λ w. w.now) orders.now ≡ codes "pairs" ∷ codes "left" ∷ []

-- an option with a text
abbrev pub text_rule : Text → Rule
text_rule name = record (new_rule name) { long = Some name; value_names = 1; action = Some Set }

-- an option with a number of 64 bits
abbrev pub place_rule : Text → Rule
place_rule name = record (text_rule name) { parser = Some (parser.Unsigned 0 (2 ^ 64 - 1)) }

-- an option with the name of an order
abbrev pub order_rule : OrderWords → Rule
order_rule h = record (text_rule (codes "order")) { parser = Some (parser.Names h.orders) }

-- the files, of which there is at least one
abbrev pub files_rule : Rule
files_rule = record (new_rule (codes "files")) { value_names = 1; range = Some (record { start_inclusive = 1; end_inclusive = usize_max }); required = true }

-- the program's options, and the files
abbrev pub line_rules : OrderWords → List Rule
line_rules h =
    text_rule (codes "null")
    ∷ order_rule h
    ∷ place_rule (codes "from")
    ∷ place_rule (codes "to")
    ∷ text_rule (codes "copies")
    ∷ text_rule (codes "out-delimiter")
    ∷ files_rule
    ∷ []

-- the command line, as `clap` has it: it has a version, and its words begin after the program's name
abbrev pub line_app : OrderWords → App
line_app h = record { top = record (new_shape (codes "merges")) { rules = line_rules h; has_version = true; no_binary_name = true }; subs = [] }

-- the command of that line
abbrev pub IsCommand : Command → Type 0
IsCommand c = (h : OrderWords) × (app_of c ≡ line_app h)

-- the value that words give an option
abbrev pub word_of : OrderWords → List Text → Text → Option Text
word_of h words name = first_of name (matches_of (line_app h) words)

-- the files that they name
abbrev pub files_of : OrderWords → List Text → List Text
files_of h words = unwrap_or (all_of (codes "files") (matches_of (line_app h) words)) []

-- the order that a word names: each left row at its place by `left`, and else pairs first
abbrev pub order_named : Option Text → RowOrder
order_named None = PairsFirst
order_named (Some word) = if bytes_eq word (codes "left") then LeftFirst else PairsFirst

-- the number of 64 bits that digits write
abbrev pub number_of : Text → Option ℕ
number_of digits = if is_number digits then Some (digits_value 10 digits) else None

-- the first place of the left row whose number an option's value writes, perhaps with a plus
abbrev pub place_named : Option Text → Option Place
place_named word = option_map (λ left. Pair left 0) (option_and_then (λ text. number_of (without_leading_plus text)) word)

-- the values of the options say this
pub record AreOptionsOf (word : Text → Option Text) (how : MergeOptions) : Type 0 where
  pub delimiter : named_or_comma (word (codes "out-delimiter")) ≡ Some how.delimiter
  pub null : how.null.now ≡ null_word word
  pub order : how.order ≡ order_named (word (codes "order"))
  pub from : how.from ≡ place_named (word (codes "from"))
  pub to : how.to ≡ place_named (word (codes "to"))

-- so many files can be merged: at least one, and fewer than 2^32
abbrev pub is_file_count : ℕ → Bool
is_file_count n = nat_lt 0 n && nat_lt n (2 ^ 32)

-- the values of the options and these files say this
pub record IsMergeLineBy (word : Text → Option Text) (given : List Text) (line : Line) : Type 0 where
  pub files : map (λ f. f.now) line.files.items ≡ given
  pub count : is_file_count (length given) ≡ true
  pub copies : AreCopiesOf (word (codes "copies")) (length given) line.copies.items
  pub options : AreOptionsOf word line.how
  pub null : is_null_text (null_word word) ≡ true

-- there are copies of each file
abbrev pub HaveCopies : (Text → Option Text) → List Text → Type 0
HaveCopies word files = (all : List Copies) × AreCopiesOf (word (codes "copies")) (length files) all

-- why they say nothing that can be done: a list of copies that isn't one of these files, then a
-- delimiter that is none, then a text that may not be NULL, then the number of files; or memory ran
-- out
abbrev pub IsValueFailure : (Text → Option Text) → List Text → Failure → Type 0
IsValueFailure word files failure.BadCopies = HaveCopies word files → ⊥
IsValueFailure word files failure.BadDelimiter = HaveCopies word files × (named_or_comma (word (codes "out-delimiter")) ≡ None)
IsValueFailure word files failure.BadNull =
    HaveCopies word files × (is_some (named_or_comma (word (codes "out-delimiter"))) ≡ true) × (is_null_text (null_word word) ≡ false)
IsValueFailure word files failure.FileCount =
    HaveCopies word files × (is_some (named_or_comma (word (codes "out-delimiter"))) ≡ true) × (is_null_text (null_word word) ≡ true)
    × (is_file_count (length files) ≡ false)
IsValueFailure word files failure.Memory = Unit {0}
IsValueFailure word files f = ⊥

-- `clap` has no error to report of the words, and a parse found their values
pub record IsMergeParse (words : List Text) (m : ArgMatches) : Type 0 where
  pub order_words : OrderWords
  pub accepted : fault_of (line_app order_words) words ≡ []
  pub values : (name : Text) → first_value (found_of m) name ≡ word_of order_words words name
  pub files : texts_found (found_of m) (codes "files") ≡ files_of order_words words

-- an error of `clap` that it may report of the words, or memory ran out
abbrev pub IsParseFailure : List Text → Failure → Type 0
IsParseFailure words (failure.CommandLine e) = (kind_of e ≢ OutOfMemory) × ((h : OrderWords) × IsAmong (kind_of e) (fault_of (line_app h) words))
IsParseFailure words failure.Memory = Unit {0}
IsParseFailure words f = ⊥

-- `clap` has no error to report of the words, and their values say this
pub record IsMergeLine (words : List Text) (line : Line) : Type 0 where
  pub order_words : OrderWords
  pub accepted : fault_of (line_app order_words) words ≡ []
  pub values : IsMergeLineBy (word_of order_words words) (files_of order_words words) line

-- why words are no such line: an error of `clap`; or if it has none to report, one of the values
abbrev pub IsLineFailure : List Text → Failure → Type 0
IsLineFailure words f =
    IsParseFailure words f
    ⊎ ((h : OrderWords) × (fault_of (line_app h) words ≡ []) × IsValueFailure (word_of h words) (files_of h words) f)
