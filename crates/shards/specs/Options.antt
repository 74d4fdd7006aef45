-- The options of the command line, as `clap` has them.
use Rattle.std.specs.Prelude.{◌≡◌, ◌^◌, ℕ, Bool, true, false, List, [], ◌∷◌, ◌++◌, codes, map, pos, None, Some}
use Rattle.std.specs.Borrow.{Bor}
use Rattle.clap.specs.Words.{App, Rule, Text, app_of, new_app}
use Rattle.clap.specs.Simple.{on_top}
use Rattle.clap.specs.declared.builder.ArgAction.TheVariants.{Append, Set, SetTrue}
use Rattle.clap.specs.declared.builder.command.Command.{Command}
use Rattle.clap.specs.declared.builder.value_parser.ValueParser.TheVariants as parser
use Rattle.rj_line.specs.Options.{named, with_rules, word_or_none}

-- an option with a value, which may have to be given; one with a value at each use
abbrev pub text_rule : Text → Bool → Rule
text_rule name required = record (named name None) { action = Some Set; required = required }

abbrev pub texts_rule : Text → Rule
texts_rule name = record (named name None) { action = Some Append }

-- a required option with one of these words
abbrev pub word_rule : Text → Bor (List (Bor Text)) → Rule
word_rule name words = record (text_rule name true) { parser = Some (parser.Names words) }

-- an option with a number from 1 to this one; one with a place up to 2^62
abbrev pub number_rule : Text → Bool → ℕ → Rule
number_rule name required most = record (text_rule name required) { parser = Some (parser.Signed (pos 1) (pos most)) }

abbrev pub place_rule : Text → Rule
place_rule name = record (text_rule name false) { parser = Some (parser.Unsigned 0 (2 ^ 62)) }

-- the delimiter of both files, whose letter is d; how strictly they are read: by a word, or by none,
-- which means `on`; whether errors are explained
abbrev pub delimiter_rule : Rule
delimiter_rule = record (text_rule (codes "delimiter") false) { short = Some 100 }

abbrev pub strict_rule : Bor (List (Bor Text)) → Rule
strict_rule levels = word_or_none (codes "strict") None levels (codes "on")

abbrev pub explain_rule : Rule
explain_rule = record (named (codes "explain") None) { action = Some SetTrue }

-- the words that options take, wherever they are in memory
pub record OptionWords : Type 0 where
  pub sides : Bor (List (Bor Text))
  pub are_sides : map (λ w. w.now) sides.now ≡ codes "left" ∷ codes "right" ∷ []
  pub levels : Bor (List (Bor Text))
  pub are_levels : map (λ w. w.now) levels.now ≡ codes "on" ∷ codes "full" ∷ []

-- the options that name the two tables and the join of them
abbrev pub table_rules : Bor (List (Bor Text)) → List Rule
table_rules levels =
    text_rule (codes "left") true
    ∷ text_rule (codes "right") true
    ∷ text_rule (codes "left-types") true
    ∷ text_rule (codes "right-types") true
    ∷ text_rule (codes "join") true
    ∷ text_rule (codes "null") false
    ∷ texts_rule (codes "left-null")
    ∷ texts_rule (codes "right-null")
    ∷ delimiter_rule
    ∷ text_rule (codes "left-delimiter") false
    ∷ text_rule (codes "right-delimiter") false
    ∷ strict_rule levels
    ∷ []

-- the options that say which rows go where
abbrev pub division_rules : List Rule
division_rules =
    number_rule (codes "parts") true 1024
    ∷ place_rule (codes "from")
    ∷ place_rule (codes "to")
    ∷ text_rule (codes "out") false
    ∷ number_rule (codes "cuts") false 100000
    ∷ []

-- all options, in order
abbrev pub line_rules : OptionWords → List Rule
line_rules h = word_rule (codes "side") h.sides ∷ (table_rules h.levels ++ (explain_rule ∷ division_rules))

-- the program's command line, which has a version, and whose words begin after the program's name
abbrev pub line_app : OptionWords → App
line_app h = with_rules (on_top (λ s. record s { has_version = true; no_binary_name = true }) (new_app (codes "shards"))) (line_rules h)

-- a command is the program's
abbrev pub IsLineCommand : Command → Type 0
IsLineCommand command = (h : OptionWords) × (app_of command ≡ line_app h)
