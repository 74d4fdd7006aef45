use Rattle.std.proofs.Common.{◌∙◌, sym, ap, arith, ◌<◌, ◌-◌, get_or}
use Rattle.rj_csv_io.specs.Cuts.{after_run}
use Rattle.rj_csv_io.proofs.PlaceFacts.{run-to}
use Rattle.rj_csv_io.proofs.place.run.Goals as goal

pub returns : goal.returns
returns c = λ p e.
    let some : c.args.from < c.args.to = omega (arith, c.requires.order, c.if-from-to.false) in
    c.plain.ensures ∙ ap (λ x. after_run c.args.delimiter x (get_or c.args.text.now (c.args.to - 1) 0)) e ∙ sym (run-to c.args.delimiter p c.args.text.now c.args.from c.args.to some c.requires.within c.requires.plain)
