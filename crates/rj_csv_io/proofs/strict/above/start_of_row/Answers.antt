use Rattle.std.proofs.Common.{◌≡◌, ◌<◌, List, arith, get_or, length, subst, take}
use Rattle.rj_csv_io.specs.StrictFaults.{AreAbove}
use Rattle.rj_csv_io.specs.Grammar.{Line, lines_text}
use Rattle.rj_csv_io.proofs.AboveFacts.{initial-near, end-here, fault-here, lines-here, stands-initial, stands-more}
use Rattle.rj_csv_io.proofs.Lawful.{lawful-is}
use Rattle.rj_csv_io.proofs.StepFacts.{step-near}
use Rattle.rj_csv_io.proofs.strict.above.start_of_row.Goals as goal

pub loop-i-init : goal.loop-i-init
loop-i-init c =
    let near = initial-near c.args.header in
    record {
      row = rw c.begin-standing.ensures near.0;
      column = rw c.begin-standing.ensures near.1;
      stands = stands-initial c.args.delimiter (lawful-is c.args.delimiter c.requires.lawful) c.args.header c.args.row c.args.text.now c.begin-standing.result c.requires.fault c.begin-standing.ensures;
    }

pub returns-in-Err-clause-lines : goal.returns-in-Err-clause-lines
returns-in-Err-clause-lines c =
    let within : c.loop-i.i < length c.args.text.now = omega arith in
    let here = fault-here c.args.delimiter c.args.header c.args.row c.args.text.now c.loop-i.i c.loop-i.standing c.loop-i.invariant.stands c.in-Err.field-0 within c.in-Err.ensures in
    lines-here c.args.delimiter c.args.header c.args.row c.args.text.now c.loop-i.i c.loop-i.standing c.loop-i.invariant.stands (omega arith) here

pub loop-i-preserved : goal.loop-i-preserved
loop-i-preserved c =
    let within : c.loop-i.i < length c.args.text.now = omega arith in
    let near = step-near c.args.delimiter c.loop-i.standing c.in-Ok.next (get_or c.args.text.now c.loop-i.i 0) c.in-Ok.ensures in
    record {
      row = omega (arith, near.0, c.loop-i.invariant.row);
      column = omega (arith, near.1, c.loop-i.invariant.column);
      stands = stands-more c.args.delimiter c.args.header c.args.row c.args.text.now c.loop-i.i c.loop-i.standing c.loop-i.invariant.stands c.in-Ok.next within c.in-Ok.ensures c.if-standing-row.false;
    }

pub returns-clause-lines : goal.returns-clause-lines
returns-clause-lines c =
    let text = c.args.text.now in
    let last : c.loop-i.i ≡ length text = omega arith in
    let here = end-here c.args.delimiter c.args.header c.args.row text c.loop-i.i c.loop-i.standing c.loop-i.invariant.stands (omega arith) in
    subst (λ n. (lines : List Line) × AreAbove c.args.delimiter c.args.header text c.args.row lines × (take n text ≡ lines_text c.args.delimiter lines)) last
    (lines-here c.args.delimiter c.args.header c.args.row text c.loop-i.i c.loop-i.standing c.loop-i.invariant.stands (omega arith) here)
