use Rattle.std.proofs.Common.{◌≡◌, ◌==◌, ◌+◌, ◌-◌, ◌≤◌, ◌∷◌, ℕ, List, true, false, take, drop, length, get_or, arith, ap, sym, ◌∙◌, length-drop}
use Rattle.std.specs.List.{slice_split}
use Rattle.std.proofs.lemmas.List.{take_all}
use Rattle.std.proofs.lemmas.List.Elements.{All-more}
use Rattle.std.proofs.lemmas.Bool.Decides.{nat_tests}
use Rattle.rj_line.proofs.SplitFacts.{split_at_index, none_found}
use Rattle.rj_line.proofs.script.lines.split_once.Goals as goal

pub loop-at-preserved : goal.loop-at-preserved
loop-at-preserved c =
    let other : (get_or c.args.rest.now c.loop-at.at 0 == c.args.byte) ≡ false = grind (arith, nat_tests, c.if-rest-at.false) in
    All-more (λ b. (b == c.args.byte) ≡ false) c.args.rest.now c.loop-at.at 0 c.loop-at-test.true c.loop-at.invariant other

pub returns-then-rest-at-clause-cut : goal.returns-then-rest-at-clause-cut
returns-then-rest-at-clause-cut c =
    let hit : (get_or c.args.rest.now c.loop-at.at 0 == c.args.byte) ≡ true = grind (arith, nat_tests, c.if-rest-at.true) in
    let within : length (drop (c.loop-at.at + 1) c.args.rest.now) ≤ length c.args.rest.now - (c.loop-at.at + 1) = rw length-drop (omega arith) in
    split_at_index (λ b. b == c.args.byte) c.args.rest.now c.loop-at.at c.loop-at-test.true c.loop-at.invariant hit
    ∙ ap (λ (t : List ℕ). take c.loop-at.at c.args.rest.now ∷ slice_split (λ b. b == c.args.byte) t) (sym (take_all (length c.args.rest.now - (c.loop-at.at + 1)) (drop (c.loop-at.at + 1) c.args.rest.now) within))

pub returns-clause-whole : goal.returns-clause-whole
returns-clause-whole c = none_found (λ b. b == c.args.byte) c.args.rest.now c.loop-at.at c.loop-at-test.false c.loop-at.invariant
