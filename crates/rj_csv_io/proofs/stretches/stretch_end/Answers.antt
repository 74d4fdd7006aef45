use Rattle.std.proofs.Common.{◌-◌, length, arith, ap}
use Rattle.std.proofs.lemmas.List.{length-drop, take_rest}
use Rattle.rj_csv_io.proofs.PlaceFacts.{no-quote}
use Rattle.rj_csv_io.proofs.stretches.stretch_end.Goals as goal

pub returns-in-Some-clause-plain : goal.returns-in-Some-clause-plain
returns-in-Some-clause-plain c = λ i a b. no-quote c.args.text.now c.args.at c.in-Some.k c.in-Some.ensures.0.before i a (omega (arith, b))

pub returns-in-None-clause-plain : goal.returns-in-None-clause-plain
returns-in-None-clause-plain c =
    let size = length-drop c.args.at c.args.text.now in
    let rest = ap length (take_rest c.args.text.now c.args.at) in
    λ i a b. no-quote c.args.text.now c.args.at (length c.args.text.now - c.args.at) (λ k x y. c.in-None.ensures k x (omega (arith, size, rest, y))) i a (omega (arith, b, c.requires))
