use Rattle.std.proofs.Common.{◌∙◌, ap, subst, sym, List, ℕ}
use Rattle.csv.specs.Reading.{records, strip_bom}
use Rattle.rj_csv_io.specs.Grammar.{Derives, file_text, records_of}
use Rattle.rj_csv_io.specs.StrictReading.{config_of, quoted}
use Rattle.rj_csv_io.specs.declared.strict.header.HeaderPlace.TheVariants.{First}
use Rattle.rj_csv_io.proofs.StrictLawFacts.{reads_quoted_records}
use Rattle.rj_command.specs.Sides.{delimiter_of}
use Rattle.rj_command.proofs.SideFacts.{same_reading}
use Rattle.rj_command.proofs.join.strict.read_quoted.Goals as goal

pub returns-clause-reading : goal.returns-clause-reading
returns-clause-reading g c = λ full file d.
    let q = c.args.request.now in
    let s = c.args.side in
    let by = delimiter_of q s in
    let text = strip_bom c.args.text.now in
    let own = c.delimiter_of.ensures.value in
    let spelled = c.in-Ok.ensures full file (subst (λ (n : ℕ). Derives n First full text file) (sym own) d) ∙ ap (λ (n : ℕ). file_text n (quoted file)) own in
    same_reading q s (records (config_of by) (strip_bom c.as_slice.result.now)) (records_of file) c.read_text.result
    (ap (λ (x : List ℕ). records (config_of by) (strip_bom x)) c.as_slice.ensures.value
    ∙ (ap (λ (x : List ℕ). records (config_of by) x) spelled ∙ reads_quoted_records by First full text file c.delimiter_of.ensures.lawful d))
    c.read_text.ensures.reading
