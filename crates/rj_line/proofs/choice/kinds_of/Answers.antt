use Rattle.std.proofs.Common.{rules, ◌≡◌, ◌∙◌, true, false, true≢false, Bor, sym}
use Rattle.std.specs.List.{list_all}
use Rattle.std.proofs.lemmas.List.Folds.{list_all-map}
use Rattle.clap.specs.Words.{Text}
use Rattle.rj_line.specs.Choices.{is_kind}
use Rattle.rj_line.proofs.choice.kinds_of.Goals as goal

pub returns-then-not-are_kinds : goal.returns-then-not-are_kinds
returns-then-not-are_kinds c = λ k are.
    let words = c.args.words.now in
    let known : list_all (λ (w : Bor Text). is_kind w.now) words ≡ true = sym (list_all-map is_kind (λ (w : Bor Text). w.now) words) ∙ are.known in
    let answer : list_all (λ (w : Bor Text). is_kind w.now) words ≡ false = sym c.are_kinds.ensures ∙ c.if-not-are_kinds.true in
    true≢false (sym known ∙ answer)

pub returns : goal.returns
returns c =
    let words = c.args.words.now in
    record {
      known = list_all-map is_kind (λ (w : Bor Text). w.now) words ∙ (sym c.are_kinds.ensures ∙ c.if-not-are_kinds.false);
      pairs = c.in_ok-pairs.ensures;
      matched_left = c.in_ok-matched_left.ensures;
      lone_left = c.in_ok-lone_left.ensures;
      lone_right = c.in_ok-lone_right.ensures;
      apart = search rules;
    }
