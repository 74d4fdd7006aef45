-- The values that a parse of each form has.
use Rattle.std.proofs.Common.{◌≡◌, ◌∙◌, refl, sym, ap, subst, Bool, true, false, lit<, true≢false, is_some, codes, List, [], ◌∷◌, Option, Some, None}
use Rattle.std.specs.List.{list_all}
use Rattle.clap.specs.Words.{IsParsedFrom, Text, first_value, found_of}
use Rattle.clap.specs.declared.builder.command.Command.{Command}
use Rattle.clap.specs.declared.parser.matches.ArgMatches.{ArgMatches}
use Rattle.rj_line.specs.Choices.{GivesSide, NamesColumns, order_name}
use Rattle.rj_line.specs.Line.{GivesExpected, HasValues, expected_word, hash_name}
use Rattle.rj_line.specs.Named.{IsNameOf}
use Rattle.rj_line.specs.Options.{IsBare, IsChain, OptionWords, option_rules}
use Rattle.rj_line.specs.declared.form.Form.{Form}
use Rattle.rj_line.specs.declared.form.Form.TheVariants as form
use Rattle.rj_line.specs.declared.request.Hash.TheVariants as hash
use Rattle.rj_line.proofs.ChainFacts.{are_distinct, fits_option, wanted_given}
use Rattle.rj_line.proofs.NumberFacts.{name_given, number_given, strict_given}
use Rattle.rj_settings.specs.declared.expectation.Matching.{Matching}
use Rattle.rj_settings.specs.declared.expectation.Matching.TheVariants as matching
use Rattle.rj_settings.specs.declared.choice.ColumnChoice.{ColumnChoice}
use Rattle.rj_settings.specs.declared.choice.ColumnChoice.TheVariants as columns
use Rattle.rj_settings.specs.declared.choice.RowOrder.TheVariants as order

-- a word, and the columns that it names
abbrev SideWord : Type 0
SideWord = (c : ColumnChoice) × (word : Text) × NamesColumns word c

abbrev side_words : List SideWord
side_words = (columns.All, codes "all", refl) ∷ (columns.Left, codes "left", refl) ∷ (columns.Right, codes "right", refl) ∷ []

side_given : (word : Option Text) → IsNameOf (λ (w : SideWord). w.1) word → GivesSide word
side_given None is = (columns.All, refl)
side_given (Some text) is = (is.0.0, subst (λ (w : Text). NamesColumns w is.0.0) (sym is.1) is.0.2)

-- a word, and what it expects of the matches
abbrev ExpectWord : Type 0
ExpectWord = (m : Option Matching) × (matched : Bool) × (word : Text) × (expected_word m matched ≡ Some word)

abbrev expect_words : List ExpectWord
expect_words =
    (Some matching.OneToOne, false, codes "one-to-one", refl)
    ∷ (Some matching.ManyToOne, false, codes "many-to-one", refl)
    ∷ (Some matching.OneToMany, false, codes "one-to-many", refl)
    ∷ (None, true, codes "matched", refl)
    ∷ (Some matching.OneToOne, true, codes "one-to-one,matched", refl)
    ∷ (Some matching.ManyToOne, true, codes "many-to-one,matched", refl)
    ∷ (Some matching.OneToMany, true, codes "one-to-many,matched", refl)
    ∷ []

expected_given : (word : Option Text) → IsNameOf (λ (w : ExpectWord). w.2) word → GivesExpected word
expected_given None is = (None, false, refl)
expected_given (Some text) is = (is.0.0, is.0.1, is.0.3 ∙ ap Some (sym is.1))

pub all_plain : (f : Form) (b : Bool) (h : OptionWords) → list_all fits_option (option_rules f b h) ≡ true
all_plain form.Long true h = refl
all_plain form.Long false h = refl
all_plain form.Short true h = refl
all_plain form.Short false h = refl

pub all_apart : (f : Form) (b : Bool) (h : OptionWords) → are_distinct (option_rules f b h) ≡ true
all_apart form.Long true h = refl
all_apart form.Long false h = refl
all_apart form.Short true h = refl
all_apart form.Short false h = refl

module _ (start command : Command) (b : Bool) (h : OptionWords) (m : ArgMatches) (bare : IsBare start) (parsed : IsParsedFrom command m) where
  pub left_given : (f : Form) → IsChain start (option_rules f b h) command → is_some (first_value (found_of m) (codes "left")) ≡ true
  left_given form.Long chain = wanted_given start command (option_rules form.Long b h) m bare chain (all_plain form.Long b h) (all_apart form.Long b h) 0 (lit< tt) refl parsed
  left_given form.Short chain = wanted_given start command (option_rules form.Short b h) m bare chain (all_plain form.Short b h) (all_apart form.Short b h) 0 (lit< tt) refl parsed

  pub right_given : (f : Form) → IsChain start (option_rules f b h) command → is_some (first_value (found_of m) (codes "right")) ≡ true
  right_given form.Long chain = wanted_given start command (option_rules form.Long b h) m bare chain (all_plain form.Long b h) (all_apart form.Long b h) 1 (lit< tt) refl parsed
  right_given form.Short chain = wanted_given start command (option_rules form.Short b h) m bare chain (all_plain form.Short b h) (all_apart form.Short b h) 1 (lit< tt) refl parsed

  long_values : IsChain start (option_rules form.Long b h) command → HasValues form.Long (first_value (found_of m))
  long_values chain =
      let rules = option_rules form.Long b h in
      let given = wanted_given start command rules m bare chain (all_plain form.Long b h) (all_apart form.Long b h) in
      let number = number_given start command rules m bare chain (all_plain form.Long b h) (all_apart form.Long b h) in
      record {
        left_types = λ _. given 2 (lit< tt) refl parsed;
        right_types = λ _. given 3 (lit< tt) refl parsed;
        join = given 4 (lit< tt) refl parsed;
        numbers = record {
          bits1 = number 15 0 10 (lit< tt) refl parsed;
          bits2 = number 16 0 10 (lit< tt) refl parsed;
          workers = number 18 1 64 (lit< tt) refl parsed;
          block = number 19 1 65536 (lit< tt) refl parsed;
          capacity = number 20 1 4096 (lit< tt) refl parsed;
          lanes = number 21 1 4 (lit< tt) refl parsed;
          retries = number 22 0 3 (lit< tt) refl parsed;
          piece = number 23 1 1048576 (lit< tt) refl parsed;
        };
        expect = expected_given (first_value (found_of m) (codes "expect")) (name_given start command rules m bare chain (all_plain form.Long b h) (all_apart form.Long b h) (λ (w : ExpectWord). w.2) expect_words h.matchings h.are_matchings 32 (lit< tt) refl refl parsed);
        most_rows = number 33 0 4294967295 (lit< tt) refl parsed;
        hash = name_given start command rules m bare chain (all_plain form.Long b h) (all_apart form.Long b h) hash_name (hash.Plain ∷ hash.Mixed ∷ []) h.hashes h.are_hashes 17 (lit< tt) refl refl parsed;
        order = name_given start command rules m bare chain (all_plain form.Long b h) (all_apart form.Long b h) order_name (order.PairsFirst ∷ order.LeftFirst ∷ []) h.orders h.are_orders 26 (lit< tt) refl refl parsed;
        columns = side_given (first_value (found_of m) (codes "columns")) (name_given start command rules m bare chain (all_plain form.Long b h) (all_apart form.Long b h) (λ (w : SideWord). w.1) side_words h.sides h.are_sides 28 (lit< tt) refl refl parsed);
        strict = strict_given start command rules m bare chain (all_plain form.Long b h) (all_apart form.Long b h) 14 (lit< tt) h refl refl parsed;
      }

  short_values : IsChain start (option_rules form.Short b h) command → HasValues form.Short (first_value (found_of m))
  short_values chain =
      let rules = option_rules form.Short b h in
      let given = wanted_given start command rules m bare chain (all_plain form.Short b h) (all_apart form.Short b h) in
      let number = number_given start command rules m bare chain (all_plain form.Short b h) (all_apart form.Short b h) in
      record {
        left_types = λ e. absurd (true≢false e);
        right_types = λ e. absurd (true≢false e);
        join = given 2 (lit< tt) refl parsed;
        numbers = record {
          bits1 = number 17 0 10 (lit< tt) refl parsed;
          bits2 = number 18 0 10 (lit< tt) refl parsed;
          workers = number 20 1 64 (lit< tt) refl parsed;
          block = number 21 1 65536 (lit< tt) refl parsed;
          capacity = number 22 1 4096 (lit< tt) refl parsed;
          lanes = number 23 1 4 (lit< tt) refl parsed;
          retries = number 24 0 3 (lit< tt) refl parsed;
          piece = number 25 1 1048576 (lit< tt) refl parsed;
        };
        expect = expected_given (first_value (found_of m) (codes "expect")) (name_given start command rules m bare chain (all_plain form.Short b h) (all_apart form.Short b h) (λ (w : ExpectWord). w.2) expect_words h.matchings h.are_matchings 34 (lit< tt) refl refl parsed);
        most_rows = number 35 0 4294967295 (lit< tt) refl parsed;
        hash = name_given start command rules m bare chain (all_plain form.Short b h) (all_apart form.Short b h) hash_name (hash.Plain ∷ hash.Mixed ∷ []) h.hashes h.are_hashes 19 (lit< tt) refl refl parsed;
        order = name_given start command rules m bare chain (all_plain form.Short b h) (all_apart form.Short b h) order_name (order.PairsFirst ∷ order.LeftFirst ∷ []) h.orders h.are_orders 28 (lit< tt) refl refl parsed;
        columns = side_given (first_value (found_of m) (codes "columns")) (name_given start command rules m bare chain (all_plain form.Short b h) (all_apart form.Short b h) (λ (w : SideWord). w.1) side_words h.sides h.are_sides 30 (lit< tt) refl refl parsed);
        strict = strict_given start command rules m bare chain (all_plain form.Short b h) (all_apart form.Short b h) 16 (lit< tt) h refl refl parsed;
      }

  pub values_given : (f : Form) → IsChain start (option_rules f b h) command → HasValues f (first_value (found_of m))
  values_given form.Long chain = long_values chain
  values_given form.Short chain = short_values chain
