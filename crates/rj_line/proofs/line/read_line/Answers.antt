use Rattle.std.proofs.Common.{List, map, subst, Bor}
use Rattle.std.specs.Prelude.{IfErr, IfOk}
use Rattle.clap.specs.Words.{Text}
use Rattle.rj_line.specs.Line.{IsFaultIn, IsLineIn}
use Rattle.rj_line.specs.declared.form.Form.{Form}
use Rattle.rj_line.proofs.line.read_line.Goals as goal

pub returns-clause-line : goal.returns-clause-line
returns-clause-line c =
    let words : List Text = map (λ (w : Bor Text). w.now) c.args.words.now in
    subst (λ (f : Form). IfOk c.read_in_form.result (IsLineIn f c.args.processors words)) c.form_of.ensures c.read_in_form.ensures.line

pub returns-clause-fault : goal.returns-clause-fault
returns-clause-fault c =
    let words : List Text = map (λ (w : Bor Text). w.now) c.args.words.now in
    subst (λ (f : Form). IfErr c.read_in_form.result (IsFaultIn f words)) c.form_of.ensures c.read_in_form.ensures.fault
