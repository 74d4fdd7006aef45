use Rattle.std.proofs.Common.{◌≡◌, lit<, subst, List, ℕ}
use Rattle.std.specs.Prelude.{None}
use Rattle.csv.specs.Reading.{records, strip_bom}
use Rattle.rj_csv_io.specs.StrictFaults.{AreAbove, HasFault, row_at}
use Rattle.rj_csv_io.specs.Grammar.{Derives, File, Line, lines_text, records_of}
use Rattle.rj_csv_io.specs.StrictReading.{config_of}
use Rattle.rj_csv_io.specs.declared.strict.header.HeaderPlace.TheVariants.{Above, First}
use Rattle.rj_csv_io.proofs.StrictLawFacts.{derived_with_header, reads_all_records}
use Rattle.rj_command.specs.Sides.{delimiter_of}
use Rattle.rj_csv_io.proofs.AboveFacts.{lines_derived}
use Rattle.rj_command.proofs.SideFacts.{records_fault, records_table, same_reading, text_fault}
use Rattle.rj_command.proofs.join.strict.read_strictly.Goals as goal

pub returns-then-has_full_lines-clause-table : goal.returns-then-has_full_lines-clause-table
returns-then-has_full_lines-clause-table g c =
    let q = c.args.request.now in
    let s = c.args.side in
    let by = delimiter_of q s in
    let text = strip_bom c.args.text.now in
    let own = c.delimiter_of-delimiter.ensures in
    let found = subst (λ (n : ℕ). (f : File) × Derives n (Above 2) c.args.full text f) own.value (c.has_full_lines.ensures c.if-has_full_lines.true) in
    let whole = derived_with_header by 2 c.args.full text found.0 (lit< tt) own.lawful found.1 in
    let same = reads_all_records by (Above 2) c.args.full text found.0 own.lawful found.1 (lit< tt) in
    records_table c.args.full q s c.args.text.now found.0 c.read_text.result whole
    (same_reading q s (records (config_of by) text) (records_of found.0) c.read_text.result same c.read_text.ensures.reading)

pub returns-then-has_full_lines-clause-fault : goal.returns-then-has_full_lines-clause-fault
returns-then-has_full_lines-clause-fault g c =
    let q = c.args.request.now in
    let s = c.args.side in
    let by = delimiter_of q s in
    let text = strip_bom c.args.text.now in
    let own = c.delimiter_of-delimiter.ensures in
    let found = subst (λ (n : ℕ). (f : File) × Derives n (Above 2) c.args.full text f) own.value (c.has_full_lines.ensures c.if-has_full_lines.true) in
    let whole = derived_with_header by 2 c.args.full text found.0 (lit< tt) own.lawful found.1 in
    let same = reads_all_records by (Above 2) c.args.full text found.0 own.lawful found.1 (lit< tt) in
    records_fault c.args.full q s c.args.text.now found.0 c.read_text.result whole
    (same_reading q s (records (config_of by) text) (records_of found.0) c.read_text.result same c.read_text.ensures.reading)

pub read_lines-requires-after_bounds : goal.read_lines-requires-after_bounds
read_lines-requires-after_bounds g c =
    let text = strip_bom c.args.text.now in
    let lines = strip_bom c.above_fault-above.result.now in
    let row = row_at c.in-Err.fault in
    let above = subst (λ (n : ℕ). (ls : List Line) × AreAbove n First text row ls × (lines ≡ lines_text n ls)) c.delimiter_of-delimiter.ensures.value c.above_fault-above.ensures in
    λ lifetimes outlives. (
      record { lines = above.0; rest = None },
      lines_derived (delimiter_of c.args.request.now c.args.side) text lines row above.0 above.1 above.2,
    )

pub returns-in-Ok-clause-table : goal.returns-in-Ok-clause-table
returns-in-Ok-clause-table g c =
    let text = strip_bom c.args.text.now in
    let found = subst (λ (n : ℕ). (f : File) × Derives n First c.args.full text f) c.delimiter_of-delimiter.ensures.value c.in-Ok.ensures.derived in
    records_table c.args.full c.args.request.now c.args.side c.args.text.now found.0 c.read_quoted.result found.1 (c.read_quoted.ensures.reading c.args.full found.0 found.1)

pub returns-in-Ok-clause-fault : goal.returns-in-Ok-clause-fault
returns-in-Ok-clause-fault g c =
    let text = strip_bom c.args.text.now in
    let found = subst (λ (n : ℕ). (f : File) × Derives n First c.args.full text f) c.delimiter_of-delimiter.ensures.value c.in-Ok.ensures.derived in
    records_fault c.args.full c.args.request.now c.args.side c.args.text.now found.0 c.read_quoted.result found.1 (c.read_quoted.ensures.reading c.args.full found.0 found.1)

pub returns-in-Err-clause-fault : goal.returns-in-Err-clause-fault
returns-in-Err-clause-fault g c =
    let text = strip_bom c.args.text.now in
    let lines = strip_bom c.above_fault-above.result.now in
    let row = row_at c.in-Err.fault in
    let own = c.delimiter_of-delimiter.ensures.value in
    let above = subst (λ (n : ℕ). (ls : List Line) × AreAbove n First text row ls × (lines ≡ lines_text n ls)) own c.above_fault-above.ensures in
    let file : File = record { lines = above.0; rest = None } in
    let derived = lines_derived (delimiter_of c.args.request.now c.args.side) text lines row above.0 above.1 above.2 in
    text_fault c.args.full c.args.request.now c.args.side c.args.text.now c.in-Err.fault above.0 c.read_lines.result c.first_fault.result
    (subst (λ (n : ℕ). HasFault n First c.args.full text c.in-Err.fault) own c.in-Err.ensures.fault) above.1 (c.read_lines.ensures file derived) c.first_fault.ensures
