use Rattle.std.proofs.Common.{◌≡◌, ◌∙◌, ap, inl, inr, rules, subst, sym, Bor, List, [], Option, map, unwrap_or}
use Rattle.std.proofs.lemmas.Result.{IfErr-weaker, IfOk-weaker}
use Rattle.clap.specs.Words.{App, IsAmong, Text, all_of, fault_of, first_of, first_value, found_of, is_simple, is_simple_and_free, kind_of, matches_of}
use Rattle.clap.specs.declared.error.kind.ErrorKind.TheVariants.{OutOfMemory}
use Rattle.clap.proofs.WalkLemmas.{first_value-rows, raw_values-rows}
use Rattle.rj_line.specs.Line.{texts_found}
use Rattle.shards.specs.Lines.{IsLineFailure, IsLineOf, IsShardsLine, IsValueFailure, word_of, words_of}
use Rattle.shards.specs.Options.{line_app}
use Rattle.shards.proofs.LineFacts.{by-words, line-failure}
use Rattle.shards.proofs.OptionFacts.{free, simple}
use Rattle.shards.proofs.line.read_line.Goals as goal

pub returns-in-Ok-clause-line : goal.returns-in-Ok-clause-line
returns-in-Ok-clause-line c =
    let words : List Text = map (λ (w : Bor Text). w.now) c.args.words.now in
    let h = c.in_ok-command.ensures.0 in
    let app = c.in_ok-command.ensures.1 in
    let found = found_of c.in-Ok.matches in
    let got = c.in-Ok.ensures in
    let rows = (got.matches (ap is_simple app ∙ simple h)).0 ∙ ap (λ (a : App). matches_of a words) app in
    let values = λ (name : Text). first_value-rows found name ∙ ap (first_of name) rows in
    let texts = λ (name : Text). ap (λ (o : Option (List Text)). unwrap_or o []) (raw_values-rows found name ∙ ap (all_of name) rows) in
    IfOk-weaker c.line_of.result _ (IsShardsLine words) (λ l is. record {
      option_words = h;
      accepted = ap (λ (a : App). fault_of a words) (sym app) ∙ got.kinds (ap is_simple_and_free app ∙ free h);
      values = by-words (λ word texts. IsLineOf word texts l) (first_value found) (word_of h words) (texts_found found) (words_of h words) values texts is;
    }) c.line_of.ensures.line

pub returns-in-Ok-clause-failure : goal.returns-in-Ok-clause-failure
returns-in-Ok-clause-failure c =
    let words : List Text = map (λ (w : Bor Text). w.now) c.args.words.now in
    let h = c.in_ok-command.ensures.0 in
    let app = c.in_ok-command.ensures.1 in
    let found = found_of c.in-Ok.matches in
    let got = c.in-Ok.ensures in
    let rows = (got.matches (ap is_simple app ∙ simple h)).0 ∙ ap (λ (a : App). matches_of a words) app in
    let values = λ (name : Text). first_value-rows found name ∙ ap (first_of name) rows in
    let texts = λ (name : Text). ap (λ (o : Option (List Text)). unwrap_or o []) (raw_values-rows found name ∙ ap (all_of name) rows) in
    let accepted = ap (λ (a : App). fault_of a words) (sym app) ∙ got.kinds (ap is_simple_and_free app ∙ free h) in
    IfErr-weaker c.line_of.result _ (IsLineFailure words) (λ e is.
    line-failure words h e accepted
    (by-words (λ word texts. IsValueFailure word texts e) (first_value found) (word_of h words) (texts_found found) (words_of h words) values texts is)) c.line_of.ensures.fault

pub returns-in-Err-2-clause-failure : goal.returns-in-Err-2-clause-failure
returns-in-Err-2-clause-failure c =
    let words : List Text = map (λ (w : Bor Text). w.now) c.args.words.now in
    let h = c.in_ok-command.ensures.0 in
    let app = c.in_ok-command.ensures.1 in
    let error = c.in-Err.error in
    let other : kind_of error ≡ OutOfMemory → ⊥ = search rules in
    let among : IsAmong (kind_of error) (fault_of (line_app h) words) = elim (c.in-Err.ensures.kinds (ap is_simple_and_free app ∙ free h)) [
      | inl memory ↦ absurd (other memory)
      | inr found ↦ subst (λ (a : App). IsAmong (kind_of error) (fault_of a words)) app found
    ] in
    (other, (h, among))
