use Rattle.std.proofs.Common.{◌≡◌, ◌∙◌, ap, lit<, subst, true, ℕ}
use Rattle.csv.specs.Reading.{records, strip_bom}
use Rattle.rj_csv_io.specs.Grammar.{Derives, File, records_of}
use Rattle.rj_csv_io.specs.StrictReading.{config_of}
use Rattle.rj_csv_io.specs.declared.strict.header.HeaderPlace.TheVariants.{Above, First}
use Rattle.rj_csv_io.proofs.StrictLawFacts.{derived_with_header, one_derivation, reads_all_records}
use Rattle.rj_command.specs.Sides.{delimiter_of}
use Rattle.rj_command.proofs.SideFacts.{same_reading}
use Rattle.rj_command.proofs.join.strict.read_lines.Goals as goal

pub returns-then-has_full_lines : goal.returns-then-has_full_lines
returns-then-has_full_lines g c = λ file d.
    let q = c.args.request.now in
    let s = c.args.side in
    let by = delimiter_of q s in
    let text = strip_bom c.args.text.now in
    let lawful = c.delimiter_of.ensures.lawful in
    let found = subst (λ (n : ℕ). (f : File) × Derives n (Above 2) true text f) c.delimiter_of.ensures.value (c.has_full_lines.ensures c.if-has_full_lines.true) in
    let whole = derived_with_header by 2 true text found.0 (lit< tt) lawful found.1 in
    let same : found.0 ≡ file = one_derivation by First true text found.0 file lawful whole d in
    same_reading q s (records (config_of by) text) (records_of file) c.read_text.result
    (reads_all_records by (Above 2) true text found.0 lawful found.1 (lit< tt) ∙ ap (λ (f : File). records_of f) same) c.read_text.ensures.reading
