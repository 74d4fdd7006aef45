use Rattle.std.proofs.Common.{◌≡◌, ◌∙◌, ap, subst, sym, List, ℕ}
use Rattle.std.proofs.lemmas.Result.{IfOk-weaker}
use Rattle.csv.specs.Reading.{records, strip_bom}
use Rattle.rj_csv_io.specs.Grammar.{Derives, File, file_text, records_of}
use Rattle.rj_csv_io.specs.StrictReading.{config_of, quoted}
use Rattle.rj_csv_io.specs.declared.strict.header.HeaderPlace.TheVariants.{First}
use Rattle.rj_csv_io.proofs.StrictLawFacts.{reads_quoted_records}
use Rattle.rj_command.specs.Sides.{delimiter_of}
use Rattle.rj_command.proofs.AutoFacts.{of_quoted, where_ok}
use Rattle.rj_command.proofs.join.auto.kinds_of_strict_text.Goals as goal

pub returns : goal.returns
returns c =
    let q = c.args.request.now in
    let s = c.args.side in
    let full = c.args.full in
    let by = delimiter_of q s in
    let text = strip_bom c.args.text.now in
    let own = c.delimiter_of-delimiter.ensures.value in
    let same : (file : File) → Derives by First full text file → records (config_of by) (strip_bom c.as_slice.result.now) ≡ records_of file = λ file d.
    let spelled = c.in_ok-quoted.ensures full file (subst (λ (n : ℕ). Derives n First full text file) (sym own) d) ∙ ap (λ (n : ℕ). file_text n (quoted file)) own in
    ap (λ (x : List ℕ). records (config_of by) (strip_bom x)) c.as_slice.ensures.value
    ∙ (ap (λ (x : List ℕ). records (config_of by) x) spelled ∙ reads_quoted_records by First full text file c.delimiter_of-delimiter.ensures.lawful d) in
    let found = where_ok c.check.result _ (sym c.is_err.ensures.value ∙ c.if-is_err.false) c.check.ensures.derived in
    let derived = subst (λ (n : ℕ). (f : File) × Derives n First full text f) own found in
    IfOk-weaker c.kinds_of_text.result _ _ (λ o are. of_quoted full q s c.args.text.now c.as_slice.result.now o same derived are) c.kinds_of_text.ensures
