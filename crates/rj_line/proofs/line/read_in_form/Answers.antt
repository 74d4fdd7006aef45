use Rattle.std.proofs.Common.{◌≡◌, ◌∙◌, ap, subst, sym, Err, IfErr, List, Option, Result, codes, map, Bor}
use Rattle.std.proofs.lemmas.Result.{err_from_is_err_and}
use Rattle.clap.specs.Words.{Text, first_value, found_of}
use Rattle.rj_line.specs.declared.fault.Fault.{Fault}
use Rattle.rj_line.specs.declared.fault.Fault.TheVariants as fault
use Rattle.rj_line.specs.declared.line.Line.{Line}
use Rattle.rj_line.specs.Line.{IsFaultIn, IsRequestOf, IsValueFault, asks_all, asks_explained, is_counted_choice, is_quiet_twice, texts_found, word_of, words_of}
use Rattle.rj_line.specs.Named.{is_true}
use Rattle.rj_line.proofs.LineFacts.{asked_fault, asked_of, clap_line_fault, line_fault}
use Rattle.rj_line.proofs.line.read_in_form.Goals as goal

-- what holds of the values that a parse found holds of those that the words give
by_words : (P : (Text → Option Text) → (Text → List Text) → Type 0) (found word : Text → Option Text) (found_texts texts : Text → List Text)
    → ((name : Text) → found name ≡ word name) → ((name : Text) → found_texts name ≡ texts name) → P found found_texts → P word texts
by_words P found word found_texts texts same alike holds =
    let words : found ≡ word = λ i name. same name i in
    let lists : found_texts ≡ texts = λ i name. alike name i in
    subst (P word) lists (subst (λ w. P w found_texts) words holds)

pub returns-clause-line : goal.returns-clause-line
returns-clause-line c =
    let parse = c.in_ok-matches.ensures.ok in
    let words : List Text = map (λ (w : Bor Text). w.now) c.args.words.now in
    let found = found_of c.in_ok-matches.matches in
    let f = c.args.form in
    let values : first_value found ≡ word_of f parse.option_words words = λ i name. parse.values name i in
    record {
      option_words = parse.option_words;
      accepted = parse.accepted;
      left = sym (parse.values (codes "left")) ∙ c.given.ensures;
      right = sym (parse.values (codes "right")) ∙ c.given-2.ensures;
      request = by_words (λ word texts. IsRequestOf f c.args.processors word texts c.in-Ok.request) (first_value found) (word_of f parse.option_words words)
          (texts_found found) (words_of f parse.option_words words) parse.values parse.texts c.in-Ok.ensures.request;
      stats = c.is_given.ensures ∙ ap is_true (parse.values (codes "stats"));
      explain = c.asks_explained.ensures ∙ ap (asks_explained f) values;
      explain_all = c.asks_all.ensures ∙ ap asks_all values;
      output = c.get_str.ensures ∙ parse.values (codes "output");
      count = c.is_given-2.ensures ∙ ap is_true (parse.values (codes "count"));
      progress = c.is_given-3.ensures ∙ ap is_true (parse.values (codes "progress"));
      quiet = c.is_given-4.ensures ∙ ap is_true (parse.values (codes "quiet"));
      unnamed = c.is_given-5.ensures ∙ ap is_true (parse.values (codes "unnamed"));
      quiet_once = sym (ap is_quiet_twice values) ∙ (sym c.is_quiet_twice.ensures ∙ c.if-is_quiet_twice.false);
      counts_all = sym (ap is_counted_choice values) ∙ (sym c.is_counted_choice.ensures ∙ c.if-is_counted_choice.false);
    }

pub returns-then-is_quiet_twice-clause-fault : goal.returns-then-is_quiet_twice-clause-fault
returns-then-is_quiet_twice-clause-fault c =
    let parse = c.in_ok-matches.ensures.ok in
    let words : List Text = map (λ (w : Bor Text). w.now) c.args.words.now in
    let found = found_of c.in_ok-matches.matches in
    let f = c.args.form in
    let asked = asked_of f c.args.processors (first_value found) (texts_found found) c.in-Ok.request c.in-Ok.ensures.request in
    line_fault f words parse.option_words fault.QuietTwice parse.accepted
    (by_words (λ word texts. IsValueFault f word texts fault.QuietTwice) (first_value found) (word_of f parse.option_words words)
    (texts_found found) (words_of f parse.option_words words) parse.values parse.texts (asked, sym c.is_quiet_twice.ensures ∙ c.if-is_quiet_twice.true))

pub returns-then-is_counted_choice-clause-fault : goal.returns-then-is_counted_choice-clause-fault
returns-then-is_counted_choice-clause-fault c =
    let parse = c.in_ok-matches.ensures.ok in
    let words : List Text = map (λ (w : Bor Text). w.now) c.args.words.now in
    let found = found_of c.in_ok-matches.matches in
    let f = c.args.form in
    let asked = asked_of f c.args.processors (first_value found) (texts_found found) c.in-Ok.request c.in-Ok.ensures.request in
    line_fault f words parse.option_words fault.CountedChoice parse.accepted
    (by_words (λ word texts. IsValueFault f word texts fault.CountedChoice) (first_value found) (word_of f parse.option_words words)
    (texts_found found) (words_of f parse.option_words words) parse.values parse.texts
    (asked, sym c.is_quiet_twice.ensures ∙ c.if-is_quiet_twice.false, sym c.is_counted_choice.ensures ∙ c.if-is_counted_choice.true))

pub returns-in-Err-clause-fault : goal.returns-in-Err-clause-fault
returns-in-Err-clause-fault c =
    let parse = c.in_ok-matches.ensures.ok in
    let words : List Text = map (λ (w : Bor Text). w.now) c.args.words.now in
    let found = found_of c.in_ok-matches.matches in
    let f = c.args.form in
    line_fault f words parse.option_words c.in-Err.fault parse.accepted
    (by_words (λ word texts. IsValueFault f word texts c.in-Err.fault) (first_value found) (word_of f parse.option_words words)
    (texts_found found) (words_of f parse.option_words words) parse.values parse.texts
    (asked_fault f (first_value found) (texts_found found) c.in-Err.fault c.in-Err.ensures.fault))

pub returns-in_err-matches-clause-fault : goal.returns-in_err-matches-clause-fault
returns-in_err-matches-clause-fault c =
    let words : List Text = map (λ (w : Bor Text). w.now) c.args.words.now in
    let told = err_from_is_err_and c.from_residual.result c.from_residual.ensures.1 in
    subst (λ (r : Result Line Fault). IfErr r (IsFaultIn c.args.form words)) (sym (told.1 ∙ ap Err told.2)) (clap_line_fault c.args.form words c.in_err-matches.field-0.0 c.in_err-matches.ensures.error)
