-- The options of the command line, as `clap` has them.
use Rattle.std.specs.Prelude.{◌≡◌, if◌then◌else◌, ℕ, Bool, true, false, List, [], ◌∷◌, ◌++◌, Option, None, Some, codes, map, pos}
use Rattle.std.specs.Borrow.{Bor}
use Rattle.clap.specs.Words.{App, Rule, Text, AddsArg, app_of, args_of, groups_of, new_app, new_rule, rule_of, with_rule}
use Rattle.clap.specs.Built.{AddsInTurn}
use Rattle.clap.specs.Simple.{on_top}
use Rattle.clap.specs.declared.builder.ArgAction.TheVariants.{Append, Set, SetTrue}
use Rattle.clap.specs.declared.builder.arg.Arg.{Arg}
use Rattle.clap.specs.declared.builder.command.Command.{Command}
use Rattle.clap.specs.declared.builder.command.Command.TheViews.{out-Command}
use Rattle.clap.specs.declared.builder.value_parser.ValueParser.TheVariants as parser
use Rattle.rj_line.specs.declared.form.Form.{Form}
use Rattle.rj_line.specs.declared.form.Form.TheVariants as form
use Rattle.rj_line.specs.declared.options.LineOption.{LineOption}
use Rattle.rj_line.specs.declared.options.Takes.{Takes}
use Rattle.rj_line.specs.declared.options.Takes.TheVariants as takes

-- an option with its long name, and perhaps a letter
abbrev pub named : Text → Option ℕ → Rule
named name letter = record (new_rule name) { long = Some name; short = letter }

-- an option with one of these words, or with none, which means another text
abbrev pub word_or_none : Text → Option ℕ → Bor (List (Bor Text)) → Text → Rule
word_or_none name letter words other =
    record (named name letter) {
      action = Some Set;
      range = Some (record { start_inclusive = 0; end_inclusive = 1 });
      missing = other ∷ [];
      parser = Some (parser.Names words);
    }

-- a word that is no option; an option with one value, with one at each use, with one or none, or
-- with none
abbrev pub rule_for : Text → Option ℕ → Takes → Rule
rule_for name letter takes.Place = record (new_rule name) { action = Some Set; required = true }
rule_for name letter takes.Required = record (named name letter) { action = Some Set; required = true }
rule_for name letter takes.Text = record (named name letter) { action = Some Set }
rule_for name letter takes.Texts = record (named name letter) { action = Some Append }
rule_for name letter (takes.Number least most) =
    record (named name letter) { action = Some Set; parser = Some (parser.Signed (pos least) (pos most)) }
rule_for name letter (takes.Word words) = record (named name letter) { action = Some Set; parser = Some (parser.Names words) }
rule_for name letter (takes.WordOrNone words other) = word_or_none name letter words other.now
rule_for name letter takes.Nothing = record (named name letter) { action = Some SetTrue }

abbrev pub rule_of_option : LineOption → Rule
rule_of_option o = rule_for o.name.now o.letter o.takes

-- the words for what is expected of the matches
abbrev pub expect_words : List Text
expect_words =
    codes "one-to-one" ∷ codes "many-to-one" ∷ codes "one-to-many" ∷ codes "matched" ∷ codes "one-to-one,matched" ∷ codes "many-to-one,matched"
    ∷ codes "one-to-many,matched" ∷ []

-- the words that options take, wherever they are in memory
pub record OptionWords : Type 0 where
  pub hashes : Bor (List (Bor Text))
  pub are_hashes : map (λ w. w.now) hashes.now ≡ codes "plain" ∷ codes "mixed" ∷ []
  pub levels : Bor (List (Bor Text))
  pub are_levels : map (λ w. w.now) levels.now ≡ codes "on" ∷ codes "full" ∷ []
  pub orders : Bor (List (Bor Text))
  pub are_orders : map (λ w. w.now) orders.now ≡ codes "pairs" ∷ codes "left" ∷ []
  pub sides : Bor (List (Bor Text))
  pub are_sides : map (λ w. w.now) sides.now ≡ codes "all" ∷ codes "left" ∷ codes "right" ∷ []
  pub matchings : Bor (List (Bor Text))
  pub are_matchings : map (λ w. w.now) matchings.now ≡ expect_words
  pub explained : Bor (List (Bor Text))
  pub are_explained : map (λ w. w.now) explained.now ≡ codes "all" ∷ []

-- the options of each form alone; in the short one the first three words that are no options are
-- the left table, the right table and the clause
abbrev pub own_rules : Form → List Rule
own_rules form.Long =
    rule_for (codes "left") None takes.Required
    ∷ rule_for (codes "right") None takes.Required
    ∷ rule_for (codes "left-types") None takes.Required
    ∷ rule_for (codes "right-types") None takes.Required
    ∷ rule_for (codes "join") None takes.Required
    ∷ []
own_rules form.Short =
    rule_for (codes "left") None takes.Place
    ∷ rule_for (codes "right") None takes.Place
    ∷ rule_for (codes "join") None takes.Place
    ∷ rule_for (codes "left-types") None takes.Text
    ∷ rule_for (codes "right-types") None takes.Text
    ∷ rule_for (codes "lenient") None takes.Nothing
    ∷ rule_for (codes "terse") None takes.Nothing
    ∷ []

-- the options of both forms, in order, but for the one that explains errors; 100 is d, 111 is o, 113 is q and 119 is w
abbrev pub common_rules : OptionWords → List Rule
common_rules h =
    rule_for (codes "types") None takes.Text
    ∷ rule_for (codes "null") None takes.Text
    ∷ rule_for (codes "left-null") None takes.Texts
    ∷ rule_for (codes "right-null") None takes.Texts
    ∷ rule_for (codes "out-null") None takes.Text
    ∷ rule_for (codes "delimiter") (Some 100) takes.Text
    ∷ rule_for (codes "left-delimiter") None takes.Text
    ∷ rule_for (codes "right-delimiter") None takes.Text
    ∷ rule_for (codes "out-delimiter") None takes.Text
    ∷ word_or_none (codes "strict") None h.levels (codes "on")
    ∷ rule_for (codes "bits1") None (takes.Number 0 10)
    ∷ rule_for (codes "bits2") None (takes.Number 0 10)
    ∷ rule_for (codes "hash") None (takes.Word h.hashes)
    ∷ rule_for (codes "workers") (Some 119) (takes.Number 1 64)
    ∷ rule_for (codes "block") None (takes.Number 1 65536)
    ∷ rule_for (codes "capacity") None (takes.Number 1 4096)
    ∷ rule_for (codes "lanes") None (takes.Number 1 4)
    ∷ rule_for (codes "retries") None (takes.Number 0 3)
    ∷ rule_for (codes "piece") None (takes.Number 1 1048576)
    ∷ rule_for (codes "stats") None takes.Nothing
    ∷ rule_for (codes "output") (Some 111) takes.Text
    ∷ rule_for (codes "order") None (takes.Word h.orders)
    ∷ rule_for (codes "rows") None takes.Text
    ∷ rule_for (codes "columns") None (takes.Word h.sides)
    ∷ rule_for (codes "anti") None takes.Nothing
    ∷ rule_for (codes "semi") None takes.Nothing
    ∷ rule_for (codes "repeated") None takes.Text
    ∷ rule_for (codes "expect") None (takes.Word h.matchings)
    ∷ rule_for (codes "max-rows") None (takes.Number 0 4294967295)
    ∷ rule_for (codes "count") None takes.Nothing
    ∷ rule_for (codes "report") None takes.Nothing
    ∷ rule_for (codes "progress") None takes.Nothing
    ∷ rule_for (codes "select") None takes.Text
    ∷ rule_for (codes "quiet") (Some 113) takes.Nothing
    ∷ rule_for (codes "unnamed") None takes.Nothing
    ∷ []

-- the option that explains errors: by a word, or a flag
abbrev pub explain_rules : Bool → OptionWords → List Rule
explain_rules by_word h = rule_for (codes "explain") None (if by_word then takes.Word h.explained else takes.Nothing) ∷ []

abbrev pub option_rules : Form → Bool → OptionWords → List Rule
option_rules f by_word h = own_rules f ++ (common_rules h ++ explain_rules by_word h)

-- a command with these further rules
abbrev pub with_rules : App → List Rule → App
with_rules app [] = app
with_rules app (r ∷ rules) = with_rules (with_rule app r) rules

-- the program's command line in a form, which has a version, and whose words begin after its name
abbrev pub line_app : Form → Bool → OptionWords → App
line_app f by_word h =
    with_rules (on_top (λ s. record s { has_version = true; no_binary_name = true }) (new_app (codes "radixjoin"))) (option_rules f by_word h)

-- a command with the arguments of these further rules, each added in turn
abbrev pub IsChain : Command → List Rule → Command → Type 0
IsChain start rules command = (arguments : List Arg) × AddsInTurn AddsArg start arguments command × (map rule_of arguments ≡ rules)

-- a command with no argument yet, and nothing that lifts what is required
pub record IsBare (c : Command) : Type 0 where
  pub args : args_of c ≡ []
  pub groups : groups_of c ≡ []
  pub globals : (out-Command c).has_globals ≡ false
  pub negates : (out-Command c).subcommand_negates_reqs ≡ false

-- a bare command with the options of a form in turn, of which one explains errors by a word or as a flag
pub record IsLineCommand (f : Form) (by_word : Bool) (c : Command) : Type 0 where
  pub start : Command
  pub option_words : OptionWords
  pub bare : IsBare start
  pub chain : IsChain start (option_rules f by_word option_words) c
  pub app : app_of c ≡ line_app f by_word option_words
