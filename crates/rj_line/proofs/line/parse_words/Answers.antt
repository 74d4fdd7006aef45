use Rattle.std.proofs.Common.{◌≡◌, ◌∙◌, ap, refl, subst, inl, inr, sym, true, false, Bool, List, [], Option, unwrap_or, Bor, map}
use Rattle.clap.specs.Words.{App, IsAmong, Text, all_of, app_of, fault_of, first_of, found_of, kind_of, is_simple, is_simple_and_free, matches_of}
use Rattle.clap.proofs.OnLiterals.{clap_on_literals}
use Rattle.clap.proofs.WalkLemmas.{first_value-rows, list_any-map, raw_values-rows}
use Rattle.std.specs.List.{list_any}
use Rattle.rj_line.specs.Forms.{explains_by_word, is_explain_all}
use Rattle.rj_line.specs.Line.{app_for}
use Rattle.rj_line.specs.Options.{OptionWords, line_app}
use Rattle.rj_line.specs.declared.form.Form.{Form}
use Rattle.rj_line.specs.declared.form.Form.TheVariants as form
use Rattle.rj_line.proofs.ValueFacts.{left_given, right_given, values_given}
use Rattle.rj_line.proofs.line.parse_words.Goals as goal

simple : (f : Form) (b : Bool) (h : OptionWords) → is_simple (line_app f b h) ≡ true
unfolding clap_on_literals
simple form.Long true h = refl
simple form.Long false h = refl
simple form.Short true h = refl
simple form.Short false h = refl

-- the option that explains errors takes a word by what was found of the words
by_word : (words : List (Bor Text)) (b : Bool) → b ≡ list_any (λ (w : Bor Text). is_explain_all w.now) words → b ≡ explains_by_word (map (λ (w : Bor Text). w.now) words)
by_word words b is = is ∙ list_any-map is_explain_all (λ (w : Bor Text). w.now) words

free : (f : Form) (b : Bool) (h : OptionWords) → is_simple_and_free (line_app f b h) ≡ true
unfolding clap_on_literals
free form.Long true h = refl
free form.Long false h = refl
free form.Short true h = refl
free form.Short false h = refl

pub returns-in-Ok-clause-ok : goal.returns-in-Ok-clause-ok
returns-in-Ok-clause-ok c =
    let command = c.in_ok-command.ensures in
    let f = c.args.form in
    let h = command.option_words in
    let words : List Text = map (λ (w : Bor Text). w.now) c.args.words.now in
    let m = c.in-Ok.matches in
    let b = c.explains_by_word.result in
    let app : app_of c.in_ok-command.command ≡ app_for f h words = command.app ∙ ap (λ b. line_app f b h) (by_word c.args.words.now b c.explains_by_word.ensures) in
    let got = c.in-Ok.ensures in
    let rows = (got.matches (ap is_simple command.app ∙ simple f b h)).0 ∙ ap (λ (a : App). matches_of a words) app in
    record {
      option_words = h;
      accepted = ap (λ (a : App). fault_of a words) (sym app) ∙ got.kinds (ap is_simple_and_free command.app ∙ free f b h);
      values = λ name. first_value-rows (found_of m) name ∙ ap (first_of name) rows;
      texts = λ name. ap (λ (o : Option (List Text)). unwrap_or o []) (raw_values-rows (found_of m) name ∙ ap (all_of name) rows);
      left = left_given command.start c.in_ok-command.command b h m command.bare got.parsed f command.chain;
      right = right_given command.start c.in_ok-command.command b h m command.bare got.parsed f command.chain;
      asked = values_given command.start c.in_ok-command.command b h m command.bare got.parsed f command.chain;
    }

pub returns-in-Err-clause-error : goal.returns-in-Err-clause-error
returns-in-Err-clause-error c =
    let command = c.in_ok-command.ensures in
    let f = c.args.form in
    let h = command.option_words in
    let words : List Text = map (λ (w : Bor Text). w.now) c.args.words.now in
    let b = c.explains_by_word.result in
    let app : app_of c.in_ok-command.command ≡ app_for f h words = command.app ∙ ap (λ b. line_app f b h) (by_word c.args.words.now b c.explains_by_word.ensures) in
    elim (c.in-Err.ensures.kinds (ap is_simple_and_free command.app ∙ free f b h)) [
      | inl memory ↦ inl memory
      | inr among ↦ inr (h, subst (λ (a : App). IsAmong (kind_of c.in-Err.error) (fault_of a words)) app among)
    ]
