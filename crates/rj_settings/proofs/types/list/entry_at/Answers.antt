use Rattle.rj_settings.specs.Words.{text_of}
use Rattle.rj_settings.proofs.EntryFacts.{entry_found, entry_missing}
use Rattle.rj_settings.proofs.types.list.entry_at.Goals as goal

pub returns-in-Some : goal.returns-in-Some
returns-in-Some c =
    entry_found c.in_ok-label.label c.in-Some.kind c.args.text.now c.in_ok-label.after.now (text_of c.in-Some.rest) c.in_ok-label.ensures c.in-Some.ensures

pub returns-in-None : goal.returns-in-None
returns-in-None c = entry_missing c.in_ok-label.label c.args.text.now c.in_ok-label.after.now c.in_ok-label.ensures c.in-None.ensures
