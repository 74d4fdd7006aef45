use Rattle.std.proofs.Common.{◌∙◌, ap, subst, sym, true, None}
use Rattle.csv.specs.Reading.{strip_bom}
use Rattle.rj_csv_io.specs.Typed.{null_texts}
use Rattle.rj_csv_io.specs.StrictFaults.{row_at}
use Rattle.rj_csv_io.specs.Grammar.{File, records_of}
use Rattle.rj_line.specs.StrictListings.{IsStrictRefusal, of_records, of_text, refused_below}
use Rattle.rj_line.specs.declared.suggest.strict.StrictlyRefused.{StrictlyRefused}
use Rattle.rj_line.specs.declared.suggest.strict.StrictlyRefused.TheVariants.{Records}
use Rattle.rj_csv_io.proofs.AboveFacts.{lines_derived}
use Rattle.rj_line.proofs.StrictFacts.{refused-by-lines}
use Rattle.rj_line.proofs.suggest.strict.suggest_listed_strictly.Goals as goal

pub suggest_derived-requires-in-Err : goal.suggest_derived-requires-in-Err
suggest_derived-requires-in-Err c =
    let above = c.above_fault-above.ensures in (
      true,
      record { lines = above.0; rest = None },
      lines_derived c.args.format.now.delimiter (strip_bom c.args.bytes.now) (strip_bom c.above_fault-above.result.now) (row_at c.in-Err.fault) above.0 above.1 above.2,
    )

pub returns-in-Err-suggest_derived-clause-refused :
    goal.returns-in-Err-suggest_derived-clause-refused
returns-in-Err-suggest_derived-clause-refused c = λ apart.
    let (file, d) = c.in-Ok.ensures.derived in
    of_records file c.in-Err-suggest_derived.fault d (c.in-Err-suggest_derived.ensures.fault c.args.full file d (λ e. apart (ap Records e)))

pub returns-in-Err-clause-refused : goal.returns-in-Err-clause-refused
returns-in-Err-clause-refused c = λ apart.
    let text = strip_bom c.args.bytes.now in
    let nulls = null_texts c.args.format.now.nulls.now in
    let above = c.above_fault-above.ensures in
    let file : File = record { lines = above.0; rest = None } in
    let derived = lines_derived c.args.format.now.delimiter text (strip_bom c.above_fault-above.result.now) (row_at c.in-Err.fault) above.0 above.1 above.2 in
    let found = c.refused_below.ensures ∙ ap (refused_below c.in-Err.fault) c.err-found.ensures.value in
    let same = refused-by-lines c.in-Err.fault (records_of file) nulls c.suggest_derived-in-Err.result
    (c.suggest_derived-in-Err.ensures.suggestion true file derived) (c.suggest_derived-in-Err.ensures.fault true file derived) (λ e. apart (found ∙ e)) in
    let P : StrictlyRefused → Type 0 = IsStrictRefusal c.args.full c.args.format.now.delimiter c.args.bytes.now nulls in
    subst P (sym (found ∙ same)) (of_text c.in-Err.fault above.0 c.in-Err.ensures.fault above.1)
