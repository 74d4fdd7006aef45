use Rattle.std.proofs.Common.{◌≡◌, ◌∙◌, Bor, List, ap, map, refl, subst, sym, true}
use Rattle.clap.specs.Words.{App, Text, fault_of, first_of, first_value, found_of, is_simple, is_simple_and_free, matches_of}
use Rattle.clap.proofs.OnLiterals.{clap_on_literals}
use Rattle.clap.proofs.WalkLemmas.{first_value-rows}
use Rattle.arrivals.specs.Lines.{IsLineBy, line_app, word_of}
use Rattle.arrivals.proofs.line.read_line.Goals as goal

simple : is_simple line_app ≡ true
unfolding clap_on_literals
simple = refl

free : is_simple_and_free line_app ≡ true
unfolding clap_on_literals
free = refl

pub returns-in-Ok-clause-line : goal.returns-in-Ok-clause-line
returns-in-Ok-clause-line c =
    let words : List Text = map (λ (w : Bor Text). w.now) c.args.words.now in
    let app = c.in_ok-command.ensures in
    let found = found_of c.in-Ok.matches in
    let got = c.in-Ok.ensures in
    let rows = (got.matches (ap is_simple app ∙ simple)).0 ∙ ap (λ (a : App). matches_of a words) app in
    let values : first_value found ≡ word_of words = λ i name. (first_value-rows found name ∙ ap (first_of name) rows) i in
    record {
      accepted = ap (λ (a : App). fault_of a words) (sym app) ∙ got.kinds (ap is_simple_and_free app ∙ free);
      values = subst (λ w. IsLineBy w c.line_of.result) values c.line_of.ensures;
    }
