use Rattle.std.proofs.Common.{ap, ◌∙◌, List, ℕ}
use Rattle.rj_csv_io.specs.StrictReading.{body_of}
use Rattle.rj_csv_io.specs.Internal.StrictSteps.{initial_standing, verdict}
use Rattle.rj_csv_io.proofs.Answering.{is-derived, has-fault, says-ok, says-err}
use Rattle.rj_csv_io.proofs.Lawful.{lawful-is}
use Rattle.rj_csv_io.proofs.strict.checking.check.Goals as goal

pub returns : goal.returns
returns c =
    let d = c.args.delimiter in
    let law = lawful-is d c.judge.ensures.lawful in
    let told = c.judge.ensures.told ∙ ap (λ (text : List ℕ). verdict d c.args.full (initial_standing c.args.header) text) c.body.ensures in
    let text = body_of c.args.header c.args.text.now in
    record {
      derived = is-derived d c.args.header c.args.full text c.judge.result told;
      fault = has-fault d c.args.header c.args.full text c.judge.result told;
      each_file = λ file is. told ∙ says-ok d c.args.header c.args.full text law file is;
      each_fault = λ f is. told ∙ says-err d c.args.header c.args.full text law f is;
    }
