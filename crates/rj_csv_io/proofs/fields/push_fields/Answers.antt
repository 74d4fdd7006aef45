use Rattle.std.proofs.Common.{◌<◌, ◌∷◌, [], length, Ok, refl, sym, ap, ◌∙◌, arith}
use Rattle.std.proofs.lemmas.List.{length-append}
use Rattle.csv.specs.Records.{fields_of}
use Rattle.csv.proofs.RecordFacts.{field-get, field-there}
use Rattle.rj_csv_io.proofs.RowsFacts.{cell-fits, FitsAt-from, grows-same}
use Rattle.rj_csv_io.proofs.TypedFacts.{cells-step, cells-fault, cells-end}
use Rattle.rj_csv_io.specs.Typed.{null_texts}
use Rattle.rj_csv_io.proofs.fields.push_fields.Goals as goal

pub unreachable-requires : goal.unreachable-requires
unreachable-requires c =
    field-there (fields_of c.args.fields.now) c.loop-i.i (omega (arith, c.requires.fields, c.loop-i-test.true)) (sym c.in_default.ensures.value)

pub push_field-requires : goal.push_field-requires
push_field-requires c = λ x read.
    let fit = cell-fits (null_texts c.args.nulls.now) _ c.in-Some.field.now x read in
    let place = FitsAt-from c.args.types.now c.loop-i.i _ c.index-types-i.result x c.loop-i-test.true (sym c.index-types-i.is) fit in
    rw (c.loop-i.invariant.same, c.requires.types, c.loop-i.invariant.size) place

pub returns-then-not-has_reading-clause-fault : goal.returns-then-not-has_reading-clause-fault
returns-then-not-has_reading-clause-fault c = λ _.
    let at : c.loop-i.i < length (fields_of c.args.fields.now) = omega (arith, c.requires.fields, c.loop-i-test.true) in
    let field = field-get (fields_of c.args.fields.now) c.loop-i.i c.in-Some.field.now (sym c.in-Some.ensures.value) in
    c.loop-i.invariant.state ∙ rw c.fault_at.ensures (cells-fault (null_texts c.args.nulls.now) c.args.row c.loop-i.builder.row c.args.types.now (fields_of c.args.fields.now) c.loop-i.i _ c.index-types-i.result c.in-Some.field.now
    c.loop-i-test.true at (sym c.index-types-i.is) field (c.in-Ok.ensures.none (ap Ok c.if-not-has_reading.true)) c.loop-i.invariant.size)

pub loop-i-preserved : goal.loop-i-preserved
loop-i-preserved c =
    let at : c.loop-i.i < length (fields_of c.args.fields.now) = omega (arith, c.requires.fields, c.loop-i-test.true) in
    let field = field-get (fields_of c.args.fields.now) c.loop-i.i c.in-Some.field.now (sym c.in-Some.ensures.value) in
    let pushed = c.in-Ok.ensures.cell (ap Ok c.if-not-has_reading.false) in
    record {
      state = c.loop-i.invariant.state ∙ rw pushed.2 (cells-step (null_texts c.args.nulls.now) c.args.row c.loop-i.builder.row c.args.types.now (fields_of c.args.fields.now) c.loop-i.i _ c.index-types-i.result c.in-Some.field.now
          pushed.0 c.loop-i-test.true at (sym c.index-types-i.is) field pushed.1);
      size = rw pushed.2 (omega (arith, length-append c.loop-i.builder.row (pushed.0 ∷ []), c.loop-i.invariant.size));
      same = grows-same c.args.builder.now c.loop-i.builder c.push_field.new.builder _ c.loop-i.invariant.same pushed.2;
      end = refl;
    }

pub returns-clause-cells : goal.returns-clause-cells
returns-clause-cells c = c.loop-i.invariant.state ∙ cells-end (null_texts c.args.nulls.now) c.args.row c.loop-i.builder.row c.args.types.now _ c.loop-i.i (omega arith)
