use Rattle.std.proofs.Common.{◌≡◌, ◌∙◌, ◌∷◌, List, ℕ, Option, ap, rules}
use Rattle.std.specs.Borrow.{Bor}
use Rattle.rj_settings.specs.Words.{text_of}
use Rattle.rj_explain.specs.Entries.{further, split_entries}
use Rattle.rj_explain.specs.Listed.{IsList, IsNoList}
use Rattle.rj_explain.proofs.EntryFacts.{first-here, first-later, good-last, good-later}
use Rattle.rj_explain.proofs.entries.bad_entry.Goals as goal

pub returns-then-not-branch : goal.returns-then-not-branch
returns-then-not-branch c =
    let none : IsNoList c.next_entry.result.0.now = rw c.if-not-branch.true at c.in_ok-is_list.ensures in
    c.loop-more.invariant.bad c.next_entry.result.0.now
    (first-here c.loop-more.left.now c.next_entry.result.0.now (further (text_of c.next_entry.result.1)) c.next_entry.ensures.first none)

pub loop-more-preserved : goal.loop-more-preserved
loop-more-preserved c =
    let left = c.loop-more.left.now in
    let entry = c.next_entry.result.0.now in
    let more = c.in-Some.more.now in
    let is : IsList entry = rw c.if-not-branch.false at c.in_ok-is_list.ensures in
    let split : split_entries left ≡ entry ∷ split_entries more =
    c.next_entry.ensures.first ∙ ap (λ (r : Option (Bor (List ℕ))). entry ∷ further (text_of r)) c.in-Some.is in
    record {
      text = search rules;
      bad = λ bad first. c.loop-more.invariant.bad bad (first-later left entry more bad split is first);
      good = λ all. c.loop-more.invariant.good (good-later left entry more split is all);
    }

pub returns-in-None : goal.returns-in-None
returns-in-None c =
    let left = c.loop-more.left.now in
    let entry = c.next_entry.result.0.now in
    let is : IsList entry = rw c.if-not-branch.false at c.in_ok-is_list.ensures in
    c.loop-more.invariant.good
    (good-last left entry (c.next_entry.ensures.first ∙ ap (λ (r : Option (Bor (List ℕ))). entry ∷ further (text_of r)) c.in-None.is) is)
