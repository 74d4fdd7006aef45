-- What the words of the command line say.
use Rattle.std.specs.Prelude.{◌≡◌, ◌≢◌, ◌≤◌, ◌<◌, ◌⊎◌, ◌&&◌, ◌||◌, Bool, true, false, ℕ, List, [], ◌∷◌, ◌++◌, length, Option, Some, None, option_map, codes, is_some, unwrap_or, pos}
use Rattle.std.specs.Str.Parse.{IsNumeral, signed_digits_value, without_leading_sign}
use Rattle.clap.specs.Words.{App, IsAmong, IsSignedIn, Text, all_of, fault_of, first_of, first_value, found_of, kind_of, matched_of, matches_of, raw_values}
use Rattle.clap.specs.declared.error.Error.{Error}
use Rattle.clap.specs.declared.error.kind.ErrorKind.TheVariants.{OutOfMemory}
use Rattle.clap.specs.declared.parser.matches.ArgMatches.{ArgMatches}
use Rattle.clap.specs.declared.parser.matches.Found.{Found}
use Rattle.rj_csv_io.specs.Typed.{null_texts}
use Rattle.rj_settings.specs.declared.settings.Settings.{Settings}
use Rattle.rj_line.specs.declared.fault.Fault.{Fault}
use Rattle.rj_line.specs.declared.fault.Fault.TheVariants as fault
use Rattle.rj_line.specs.declared.fault.Side.TheVariants as side
use Rattle.rj_line.specs.declared.line.Line.{Line}
use Rattle.rj_line.specs.declared.request.Hash.{Hash}
use Rattle.rj_line.specs.declared.request.Hash.TheVariants as hash
use Rattle.rj_settings.specs.declared.expectation.Expectation.{Expectation}
use Rattle.rj_settings.specs.declared.expectation.Matching.{Matching}
use Rattle.rj_settings.specs.declared.expectation.Matching.TheVariants as matching
use Rattle.rj_line.specs.declared.request.Request.{Request}
use Rattle.rj_line.specs.declared.request.Strictness.{Strictness}
use Rattle.rj_line.specs.declared.request.Strictness.TheVariants as strictness
use Rattle.rj_settings.specs.declared.choice.Choice.{Choice}
use Rattle.rj_line.specs.Choices.{GivesSide, IsChoiceFault, IsChoiceOf, is_looked_for, order_name}
use Rattle.rj_line.specs.Delimiters.{are_delimiters_given, delimiter_given}
use Rattle.rj_line.specs.Forms.{default_strictness, default_workers, explains_by_word, form_of, is_explained, is_short}
use Rattle.rj_line.specs.Named.{IsNameOf, IsNamedOr, is_true, is_word}
use Rattle.rj_line.specs.Options.{OptionWords, line_app}
use Rattle.rj_line.specs.Types.{AreTypesOf, GivesNoShared, GivesNoTypes, GivesShared, GivesTypes, is_auto}
use Rattle.rj_line.specs.declared.form.Form.{Form}
use Rattle.rj_settings.specs.declared.types.entry.TypeEntry.{TypeEntry}

-- the options by which the words of a line of this form are read
abbrev pub app_for : Form → OptionWords → List Text → App
app_for f h words = line_app f (explains_by_word words) h

-- the value that the words of a line of this form give an option, or a word that is no option
abbrev pub word_of : Form → OptionWords → List Text → Text → Option Text
word_of f h words name = first_of name (matches_of (app_for f h words) words)

-- the values that they give an option, use by use
abbrev pub words_of : Form → OptionWords → List Text → Text → List Text
words_of f h words name = unwrap_or (all_of name (matches_of (app_for f h words) words)) []

-- those that a parse found
abbrev pub texts_found : Found → Text → List Text
texts_found found name = unwrap_or (option_map raw_values (matched_of found name)) []

-- the NULL texts of a table: its own, or the default of all if it has none
abbrev pub nulls_or : List Text → Text → List Text
nulls_or [] null = null ∷ []
nulls_or (text ∷ texts) null = text ∷ texts

-- the default text for NULL
abbrev pub null_word : (Text → Option Text) → Text
null_word word = unwrap_or (word (codes "null")) []

-- the text is a numeral of this number, perhaps with a sign before it
abbrev pub Spells : Text → ℕ → Type 0
Spells text n = IsNumeral 10 (without_leading_sign text) × (signed_digits_value 10 text ≡ pos n)

-- the number that an option's value spells, or another one if it has none
abbrev pub IsNumberOr : ℕ → Option Text → ℕ → Type 0
IsNumberOr other None n = n ≡ other
IsNumberOr other (Some text) n = Spells text n

-- an option's value, if it has one, is a number from the least to the most
abbrev pub IsNumberIn : ℕ → ℕ → Option Text → Type 0
IsNumberIn least most None = Unit {0}
IsNumberIn least most (Some text) = IsSignedIn (pos least) (pos most) text

-- each setting is its option's number or its default: this many workers, 16
-- partitions that are not divided further, blocks of 1,024 rows, one lane of 64 parcels, one retry,
-- and pieces of 65,536 rows
pub record AreSettings (other : ℕ) (word : Text → Option Text) (s : Settings) : Type 0 where
  pub workers : IsNumberOr other (word (codes "workers")) s.workers
  pub bits1 : IsNumberOr 4 (word (codes "bits1")) s.bits1
  pub bits2 : IsNumberOr 0 (word (codes "bits2")) s.bits2
  pub block : IsNumberOr 1024 (word (codes "block")) s.block
  pub lanes : IsNumberOr 1 (word (codes "lanes")) s.lanes
  pub capacity : IsNumberOr 64 (word (codes "capacity")) s.capacity
  pub retries : IsNumberOr 1 (word (codes "retries")) s.retries
  pub piece : IsNumberOr 65536 (word (codes "piece")) s.piece

-- the name of a hash
abbrev pub hash_name : Hash → Text
hash_name hash.Plain = codes "plain"
hash_name hash.Mixed = codes "mixed"

-- the name of an expectation of the matches
abbrev pub matching_name : Matching → Text
matching_name matching.OneToOne = codes "one-to-one"
matching_name matching.ManyToOne = codes "many-to-one"
matching_name matching.OneToMany = codes "one-to-many"

-- the word for such an expectation, for that each left row is in a match, or for both
abbrev pub expected_word : Option Matching → Bool → Option Text
expected_word None false = None
expected_word None true = Some (codes "matched")
expected_word (Some m) false = Some (matching_name m)
expected_word (Some m) true = Some (matching_name m ++ codes ",matched")

-- an option's value, if it has one, is such a word
abbrev pub GivesExpected : Option Text → Type 0
GivesExpected word = (m : Option Matching) × (matched : Bool) × (expected_word m matched ≡ word)

-- the number that an option's value spells, if it has one
abbrev pub SpellsSome : Option Text → Option ℕ → Type 0
SpellsSome None n = n ≡ None
SpellsSome (Some text) None = ⊥
SpellsSome (Some text) (Some n) = Spells text n

-- what the values of the options expect of a joined table
pub record IsExpectationOf (word : Text → Option Text) (e : Expectation) : Type 0 where
  pub matching : expected_word e.matching e.matched ≡ word (codes "expect")
  pub most_rows : SpellsSome (word (codes "max-rows")) e.most_rows

-- how strictly files are read by an option's value, or as here if it has none
abbrev pub IsStrictness : Strictness → Option Text → Strictness → Type 0
IsStrictness other None s = s ≡ other
IsStrictness other (Some text) strictness.Off = ⊥
IsStrictness other (Some text) strictness.On = text ≡ codes "on"
IsStrictness other (Some text) strictness.Full = text ≡ codes "full"

-- an option's value, if it has one, is the name of such a reading
abbrev pub IsStrictName : Option Text → Type 0
IsStrictName None = Unit {0}
IsStrictName (Some text) = (text ≡ codes "on") ⊎ (text ≡ codes "full")

-- what the values of the options of a line of this form ask of two tables: each is the one given or
-- the default, by which there may be a worker for each of these processors
pub record IsRequestOf (f : Form) (processors : ℕ) (word : Text → Option Text) (texts : Text → List Text) (r : Request) : Type 0 where
  pub shared_types : GivesShared (word (codes "types")) r.shared_types.items
  pub auto_types : r.auto_types ≡ is_auto (word (codes "types"))
  pub left_types : AreTypesOf f r.shared_types.items (word (codes "left-types")) r.left_types.items r.left_undeclared
  pub right_types : AreTypesOf f r.shared_types.items (word (codes "right-types")) r.right_types.items r.right_undeclared
  pub join : word (codes "join") ≡ Some r.clause.now
  pub short : r.short ≡ is_short f
  pub left_nulls : null_texts r.left_nulls.items ≡ nulls_or (texts (codes "left-null")) (null_word word)
  pub right_nulls : null_texts r.right_nulls.items ≡ nulls_or (texts (codes "right-null")) (null_word word)
  pub few_nulls : (length r.left_nulls.items ≤ 4) × (length r.right_nulls.items ≤ 4)
  pub out_null : r.out_null.now ≡ unwrap_or (word (codes "out-null")) (null_word word)
  pub left_delimiter : delimiter_given word (codes "left-delimiter") ≡ Some r.left_delimiter
  pub right_delimiter : delimiter_given word (codes "right-delimiter") ≡ Some r.right_delimiter
  pub out_delimiter : delimiter_given word (codes "out-delimiter") ≡ Some r.out_delimiter
  pub strict : IsStrictness (default_strictness f (is_true (word (codes "lenient")))) (word (codes "strict")) r.strict
  pub settings : AreSettings (default_workers f processors) word r.settings
  pub hash : IsNamedOr hash_name hash.Plain (word (codes "hash")) r.hash
  pub tells_pieces : r.tells_pieces ≡ is_some (word (codes "piece"))
  pub choice : IsChoiceOf f word r.choice
  pub expectation : IsExpectationOf word r.expectation
  pub report : r.report ≡ is_true (word (codes "report"))

-- all that explains an error is asked for
abbrev pub asks_all : (Text → Option Text) → Bool
asks_all word = is_word (codes "all") (word (codes "explain"))

-- an error is to be explained, as a flag says or by the word for all
abbrev pub is_to_explain : (Text → Option Text) → Bool
is_to_explain word = is_true (word (codes "explain")) || asks_all word

-- whether the values of the options of a line of this form ask for errors to be explained
abbrev pub asks_explained : Form → (Text → Option Text) → Bool
asks_explained f word = is_explained f (is_to_explain word) (is_true (word (codes "terse"))) (is_true (word (codes "quiet")))

-- nothing but the line of an error is to be printed, and explanations or the progress too
abbrev pub is_quiet_twice : (Text → Option Text) → Bool
is_quiet_twice word = is_true (word (codes "quiet")) && (is_to_explain word || is_true (word (codes "progress")))

-- rows, columns or their order are chosen
abbrev pub is_chosen : (Text → Option Text) → Bool
is_chosen word =
    is_looked_for word
    || (is_some (word (codes "rows")) || (is_some (word (codes "columns")) || (is_some (word (codes "select")) || is_some (word (codes "order")))))

-- they are, and the rows are to be counted, whichever they are
abbrev pub is_counted_choice : (Text → Option Text) → Bool
is_counted_choice word = is_true (word (codes "count")) && is_chosen word

-- read in this form, `clap` has no error to report, what is required is given, each value is the
-- one given or the default, and no two exclude each other
pub record IsLineIn (f : Form) (processors : ℕ) (words : List Text) (l : Line) : Type 0 where
  pub option_words : OptionWords
  pub accepted : fault_of (app_for f option_words words) words ≡ []
  pub left : word_of f option_words words (codes "left") ≡ Some l.left.now
  pub right : word_of f option_words words (codes "right") ≡ Some l.right.now
  pub request : IsRequestOf f processors (word_of f option_words words) (words_of f option_words words) l.request
  pub stats : l.stats ≡ is_true (word_of f option_words words (codes "stats"))
  pub explain : l.explain ≡ asks_explained f (word_of f option_words words)
  pub explain_all : l.explain_all ≡ asks_all (word_of f option_words words)
  pub output : option_map (λ s. s.now) l.output ≡ word_of f option_words words (codes "output")
  pub count : l.count ≡ is_true (word_of f option_words words (codes "count"))
  pub progress : l.progress ≡ is_true (word_of f option_words words (codes "progress"))
  pub quiet : l.quiet ≡ is_true (word_of f option_words words (codes "quiet"))
  pub unnamed : l.unnamed ≡ is_true (word_of f option_words words (codes "unnamed"))
  pub quiet_once : is_quiet_twice (word_of f option_words words) ≡ false
  pub counts_all : is_counted_choice (word_of f option_words words) ≡ false

-- the words are read in the form that they have
abbrev pub IsLineOf : ℕ → List Text → Line → Type 0
IsLineOf processors words l = IsLineIn (form_of words) processors words l

-- the type list for both tables is such a list
abbrev pub GiveShared : (Text → Option Text) → Type 0
GiveShared word = (shared : List TypeEntry) × GivesShared (word (codes "types")) shared

-- and so are those of either table
abbrev pub GiveTypes : Form → (Text → Option Text) → Type 0
GiveTypes f word =
    GiveShared word × ((types : List TypeEntry) × GivesTypes f (word (codes "left-types")) types)
    × ((types : List TypeEntry) × GivesTypes f (word (codes "right-types")) types)

-- and at most four NULL texts are given for either table
abbrev pub AreTablesGiven : Form → (Text → Option Text) → (Text → List Text) → Type 0
AreTablesGiven f word texts = GiveTypes f word × (length (texts (codes "left-null")) ≤ 4) × (length (texts (codes "right-null")) ≤ 4)

-- why the values of the options choose nothing: a delimiter of a table or of the result that is
-- none, then what is chosen of the joined table; or memory ran out
abbrev pub IsChosenFault : Form → (Text → Option Text) → Fault → Type 0
IsChosenFault f word fault.BadDelimiter = are_delimiters_given word ≡ false
IsChosenFault f word fault.Memory = Unit {0}
IsChosenFault f word e = (are_delimiters_given word ≡ true) × IsChoiceFault f word e

-- why the values of the options ask for nothing that can be done: a bad type list for both tables,
-- then one on the left, then one on the right, then too many NULL texts on the left, then on the
-- right, then a delimiter that is none, then what is chosen of the joined table; or memory ran out
abbrev pub IsRequestFault : Form → (Text → Option Text) → (Text → List Text) → Fault → Type 0
IsRequestFault f word texts fault.BadSharedTypeList = GivesNoShared (word (codes "types"))
IsRequestFault f word texts (fault.BadTypeList side.Left) = GiveShared word × GivesNoTypes (word (codes "left-types"))
IsRequestFault f word texts (fault.BadTypeList side.Right) =
    GiveShared word × ((types : List TypeEntry) × GivesTypes f (word (codes "left-types")) types) × GivesNoTypes (word (codes "right-types"))
IsRequestFault f word texts (fault.TooManyNulls side.Left) = GiveTypes f word × (4 < length (texts (codes "left-null")))
IsRequestFault f word texts (fault.TooManyNulls side.Right) =
    GiveTypes f word × (length (texts (codes "left-null")) ≤ 4) × (4 < length (texts (codes "right-null")))
IsRequestFault f word texts fault.Memory = Unit {0}
IsRequestFault f word texts e = AreTablesGiven f word texts × IsChosenFault f word e

-- what is asked of the tables is given
abbrev pub IsAskedOf : Form → (Text → Option Text) → (Text → List Text) → Type 0
IsAskedOf f word texts = AreTablesGiven f word texts × (are_delimiters_given word ≡ true) × ((c : Choice) × IsChoiceOf f word c)

-- why the values of the options make no line: they ask nothing of the tables, then they are quiet
-- and not, then they choose what is only counted; or memory ran out
abbrev pub IsValueFault : Form → (Text → Option Text) → (Text → List Text) → Fault → Type 0
IsValueFault f word texts fault.QuietTwice = IsAskedOf f word texts × (is_quiet_twice word ≡ true)
IsValueFault f word texts fault.CountedChoice = IsAskedOf f word texts × (is_quiet_twice word ≡ false) × (is_counted_choice word ≡ true)
IsValueFault f word texts e = IsRequestFault f word texts e

-- an error of `clap`: out of memory, or one of a kind that it may report of the words
abbrev pub IsParseError : Form → List Text → Error → Type 0
IsParseError f words e = (kind_of e ≡ OutOfMemory) ⊎ ((h : OptionWords) × IsAmong (kind_of e) (fault_of (app_for f h words) words))

-- read in this form: an error of `clap` of a kind that it may report of the words, other than out of
-- memory; or if it has none to report, an error of the values; or memory ran out
abbrev pub IsFaultIn : Form → List Text → Fault → Type 0
IsFaultIn f words (fault.CommandLine e) = (kind_of e ≢ OutOfMemory) × ((h : OptionWords) × IsAmong (kind_of e) (fault_of (app_for f h words) words))
IsFaultIn f words fault.Memory = Unit {0}
IsFaultIn f words e =
    (h : OptionWords) × (fault_of (app_for f h words) words ≡ []) × IsValueFault f (word_of f h words) (words_of f h words) e

abbrev pub IsLineFault : List Text → Fault → Type 0
IsLineFault words e = IsFaultIn (form_of words) words e

-- the numbers that are given are within their limits
pub record AreNumbersIn (word : Text → Option Text) : Type 0 where
  pub bits1 : IsNumberIn 0 10 (word (codes "bits1"))
  pub bits2 : IsNumberIn 0 10 (word (codes "bits2"))
  pub workers : IsNumberIn 1 64 (word (codes "workers"))
  pub block : IsNumberIn 1 65536 (word (codes "block"))
  pub capacity : IsNumberIn 1 4096 (word (codes "capacity"))
  pub lanes : IsNumberIn 1 4 (word (codes "lanes"))
  pub retries : IsNumberIn 0 3 (word (codes "retries"))
  pub piece : IsNumberIn 1 1048576 (word (codes "piece"))

-- the values from which a request is read: those that are required are given, each number is within
-- its limits, and each word is one of its option's
pub record HasValues (f : Form) (word : Text → Option Text) : Type 0 where
  pub left_types : is_short f ≡ false → is_some (word (codes "left-types")) ≡ true
  pub right_types : is_short f ≡ false → is_some (word (codes "right-types")) ≡ true
  pub join : is_some (word (codes "join")) ≡ true
  pub numbers : AreNumbersIn word
  pub hash : IsNameOf hash_name (word (codes "hash"))
  pub strict : IsStrictName (word (codes "strict"))
  pub order : IsNameOf order_name (word (codes "order"))
  pub columns : GivesSide (word (codes "columns"))
  pub expect : GivesExpected (word (codes "expect"))
  pub most_rows : IsNumberIn 0 4294967295 (word (codes "max-rows"))

-- the parsed words, with the names of both files, and the values from which a request is read
pub record IsParseOf (f : Form) (words : List Text) (m : ArgMatches) : Type 0 where
  pub option_words : OptionWords
  pub accepted : fault_of (app_for f option_words words) words ≡ []
  pub values : (name : Text) → first_value (found_of m) name ≡ word_of f option_words words name
  pub texts : (name : Text) → texts_found (found_of m) name ≡ words_of f option_words words name
  pub left : is_some (first_value (found_of m) (codes "left")) ≡ true
  pub right : is_some (first_value (found_of m) (codes "right")) ≡ true
  pub asked : HasValues f (first_value (found_of m))
