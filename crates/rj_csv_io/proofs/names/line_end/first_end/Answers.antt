use Rattle.std.proofs.Common.{◌∙◌, ◌<◌, ◌≤◌, ℕ, ap, arith, length, sym}
use Rattle.std.proofs.lemmas.List.{drop_all}
use Rattle.rj_csv_io.specs.StrictReading.{config_of}
use Rattle.rj_csv_io.specs.NameEnds.{behind_first, state_of}
use Rattle.rj_csv_io.proofs.NameEndFacts.{from-none, from-on, from-stop}
use Rattle.rj_csv_io.proofs.names.line_end.first_end.Goals as goal

pub returns-in-None-clause-rest : goal.returns-in-None-clause-rest
returns-in-None-clause-rest c =
    let text = c.args.text.now in
    let within : c.loop-i.i < length text = omega arith in
    sym (from-stop (config_of c.byte-byte.result) (state_of c.loop-i.place) text c.loop-i.i within c.in-None.ensures)
    ∙ (c.loop-i.invariant.told ∙ ap (λ (d : ℕ). behind_first d text) c.loop-i.invariant.same)

pub loop-i-preserved : goal.loop-i-preserved
loop-i-preserved c =
    let text = c.args.text.now in
    let within : c.loop-i.i < length text = omega arith in
    record {
      told = sym (from-on (config_of c.byte-byte.result) (state_of c.loop-i.place) (state_of c.in-Some.next) text c.loop-i.i within c.in-Some.ensures.0 c.in-Some.ensures.1) ∙ c.loop-i.invariant.told;
      end = c.loop-i.invariant.end;
      same = c.loop-i.invariant.same;
    }

pub returns-clause-rest : goal.returns-clause-rest
returns-clause-rest c =
    let text = c.args.text.now in
    let over : length text ≤ c.loop-i.i = omega arith in
    drop_all (length text) text (omega arith)
    ∙ (sym (from-none (config_of c.byte-byte.result) (state_of c.loop-i.place) text c.loop-i.i over)
    ∙ (c.loop-i.invariant.told ∙ ap (λ (d : ℕ). behind_first d text) c.loop-i.invariant.same))
