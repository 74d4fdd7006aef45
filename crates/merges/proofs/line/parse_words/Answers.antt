use Rattle.std.proofs.Common.{◌≡◌, ◌∙◌, Bor, List, [], Option, ap, inl, inr, map, refl, rules, subst, sym, true, unwrap_or}
use Rattle.clap.specs.Words.{App, IsAmong, Text, all_of, fault_of, first_of, found_of, is_simple, is_simple_and_free, kind_of, matches_of}
use Rattle.clap.specs.declared.error.kind.ErrorKind.TheVariants.{OutOfMemory}
use Rattle.clap.proofs.OnLiterals.{clap_on_literals}
use Rattle.clap.proofs.WalkLemmas.{first_value-rows, raw_values-rows}
use Rattle.merges.specs.Lines.{OrderWords, line_app}
use Rattle.std.specs.Prelude.{codes}
use Rattle.merges.proofs.line.parse_words.Goals as goal

simple : (h : OrderWords) → is_simple (line_app h) ≡ true
unfolding clap_on_literals
simple h = refl

free : (h : OrderWords) → is_simple_and_free (line_app h) ≡ true
unfolding clap_on_literals
free h = refl

pub returns-in-Ok-clause-parse : goal.returns-in-Ok-clause-parse
returns-in-Ok-clause-parse c =
    let words : List Text = map (λ (w : Bor Text). w.now) c.args.words.now in
    let h = c.in_ok-command.ensures.0 in
    let app = c.in_ok-command.ensures.1 in
    let found = found_of c.in-Ok.matches in
    let got = c.in-Ok.ensures in
    let rows = (got.matches (ap is_simple app ∙ simple h)).0 ∙ ap (λ (a : App). matches_of a words) app in
    record {
      order_words = h;
      accepted = ap (λ (a : App). fault_of a words) (sym app) ∙ got.kinds (ap is_simple_and_free app ∙ free h);
      values = λ name. first_value-rows found name ∙ ap (first_of name) rows;
      files = ap (λ (o : Option (List Text)). unwrap_or o []) (raw_values-rows found (codes "files") ∙ ap (all_of (codes "files")) rows);
    }

pub returns-in-Err-2-clause-failure : goal.returns-in-Err-2-clause-failure
returns-in-Err-2-clause-failure c =
    let words : List Text = map (λ (w : Bor Text). w.now) c.args.words.now in
    let h = c.in_ok-command.ensures.0 in
    let app = c.in_ok-command.ensures.1 in
    let error = c.in-Err.error in
    let other : kind_of error ≡ OutOfMemory → ⊥ = search rules in
    let among : IsAmong (kind_of error) (fault_of (line_app h) words) = elim (c.in-Err.ensures.kinds (ap is_simple_and_free app ∙ free h)) [
      | inl memory ↦ absurd (other memory)
      | inr found ↦ subst (λ (a : App). IsAmong (kind_of error) (fault_of a words)) app found
    ] in
    (other, (h, among))
