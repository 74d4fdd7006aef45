use Rattle.std.proofs.Common.{◌∙◌, sym, ap}
use Rattle.rj_csv_io.specs.Cuts.{is_open_place}
use Rattle.rj_csv_io.proofs.PieceFacts.{none-open, none-closed, last-closed}
use Rattle.rj_csv_io.proofs.stretches.later_end.Goals as goal

pub returns-then-is_open : goal.returns-then-is_open
returns-then-is_open c = λ d lawful place last.
    let opened = sym (ap is_open_place place) ∙ (sym c.is_open.ensures ∙ c.if-is_open.true) in
    none-open d lawful c.args.text.now c.args.at c.args.next c.requires.order c.requires.within c.requires.plain c.args.last opened last

pub returns-in-Some : goal.returns-in-Some
returns-in-Some c = λ d lawful place last.
    let closed = sym (ap is_open_place place) ∙ (sym c.is_open.ensures ∙ c.if-is_open.false) in
    last-closed d lawful c.args.text.now c.args.at c.args.next c.requires.order c.requires.within c.requires.plain c.in-Some.feed closed c.in-Some.ensures.0.high c.in-Some.ensures.1 c.in-Some.ensures.0.after

pub returns-in-None : goal.returns-in-None
returns-in-None c = λ d lawful place last.
    none-closed d lawful c.args.text.now c.args.at c.args.next c.requires.order c.requires.within c.requires.plain c.args.last last c.in-None.ensures
