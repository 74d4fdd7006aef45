use Rattle.std.proofs.Common.{Option, Some, None, List, ℕ, rules, subst}
use Rattle.std.specs.Borrow.{Bor}
use Rattle.rj_settings.specs.Selected.{BeginsSelected, IsSelected}
use Rattle.rj_settings.specs.Words.{text_of}
use Rattle.rj_settings.proofs.SelectedFacts.{column_once}
use Rattle.rj_settings.proofs.Separated.{none_whole, only_more, sound_end, sound_more}
use Rattle.rj_settings.proofs.types.selected.read_entries.Goals as goal

pub loop-entries-preserved : goal.loop-entries-preserved
loop-entries-preserved c =
    let begun = rw c.in-Some.is at c.in_ok-entry.ensures in
    let begins : BeginsSelected c.in-Some.entry c.loop-entries.left.now (Some c.in-Some-rest.more.now) =
    subst (λ (r : Option (Bor (List ℕ))). BeginsSelected c.in-Some.entry c.loop-entries.left.now (text_of r)) c.in-Some-rest.is begun in
    record {
      text = search rules;
      sound = sound_more IsSelected c.args.text.now c.loop-entries.left.now c.in-Some-rest.more.now c.loop-entries.entries.items c.push.new.self.items c.in-Some.entry
          c.in_ok-push-in-Some.ensures.items c.loop-entries.invariant.sound begins;
      only = only_more IsSelected column_once c.args.text.now c.loop-entries.left.now c.in-Some-rest.more.now c.in-Some.entry c.loop-entries.invariant.only begins;
    }

pub returns-in-None-rest : goal.returns-in-None-rest
returns-in-None-rest c =
    let begun = rw c.in-Some.is at c.in_ok-entry.ensures in
    let begins : BeginsSelected c.in-Some.entry c.loop-entries.left.now None =
    subst (λ (r : Option (Bor (List ℕ))). BeginsSelected c.in-Some.entry c.loop-entries.left.now (text_of r)) c.in-None-rest.is begun in
    sound_end IsSelected c.args.text.now c.loop-entries.left.now c.loop-entries.entries.items c.push.new.self.items c.in-Some.entry
    c.in_ok-push-in-Some.ensures.items c.loop-entries.invariant.sound begins

pub returns-in-None : goal.returns-in-None
returns-in-None c =
    none_whole IsSelected c.args.text.now c.loop-entries.left.now c.loop-entries.invariant.only (rw c.in-None.is at c.in_ok-entry.ensures)
