use Rattle.std.proofs.Common.{◌≡◌, ◌<◌, ◌-◌, ◌^◌, ◌∙◌, ◌++◌, ◌∷◌, [], sym, ap, length, true, arith, rules}
use Rattle.csv.specs.Records.{fields_of}
use Rattle.std.specs.Result.{is_ok}
use Rattle.csv.proofs.RecordFacts.{field-get, field-there}
use Rattle.rj_csv_io.proofs.WriteFacts.{field-written, ok-holds, record-written}
use Rattle.rj_shards.specs.MergeTexts.{others}
use Rattle.rj_shards.proofs.TextFacts.{kept-all, kept-field, kept-none, kept-place}
use Rattle.rj_shards.proofs.merge.fields.Fields.write.Goals as goal

pub loop-i-init : goal.loop-i-init
loop-i-init c = record {
  written = λ d text h. ([], kept-none c.as_ref-whole.result.now.columns (fields_of c.as_ref-whole.result.now.fields), h);
  end = c.len-i-end.ensures;
}

pub unreachable-requires : goal.unreachable-requires
unreachable-requires c = field-there (fields_of c.as_ref-whole.result.now.fields) c.loop-i.i (omega (arith, c.loop-i.invariant.end, c.loop-i-test.true)) (sym c.in_default.ensures.value)

pub loop-i-preserved-then-holds_place : goal.loop-i-preserved-then-holds_place
loop-i-preserved-then-holds_place c =
    let fields = fields_of c.as_ref-whole.result.now.fields in
    let inside : c.loop-i.i < length fields = omega (arith, c.loop-i.invariant.end, c.loop-i-test.true) in
    record {
      written = λ d text h.
          let so_far = c.loop-i.invariant.written d text h in
          (so_far.0, kept-place c.as_ref-whole.result.now.columns c.loop-i.i fields so_far.0 inside (sym c.holds_place.ensures ∙ c.if-holds_place.true) so_far.1, so_far.2);
      end = c.loop-i.invariant.end;
    }

pub loop-i-preserved : goal.loop-i-preserved
loop-i-preserved c =
    let fields = fields_of c.as_ref-whole.result.now.fields in
    let inside : c.loop-i.i < length fields = omega (arith, c.loop-i.invariant.end, c.loop-i-test.true) in
    let bound : c.loop-i.i < 2 ^ 64 - 1 = search rules in
    let field = field-get fields c.loop-i.i c.in-Some.field.now (sym c.in-Some.ensures.value) in
    let said = c.write_field.ensures in
    let good : is_ok c.write_field.result ≡ true = search rules in
    record {
      written = λ d text h.
          let so_far = c.loop-i.invariant.written d text h in
          let few = so_far.1.few in
          let room : length so_far.0 < 2 ^ 64 - 1 = omega arith in (
            so_far.0 ++ c.in-Some.field.now ∷ [],
            kept-field c.as_ref-whole.result.now.columns c.loop-i.i fields so_far.0 c.in-Some.field.now inside field (sym c.holds_place.ensures ∙ c.if-holds_place.false) so_far.1,
            field-written d c.loop-i.writer c.write_field.new.self text so_far.0 c.in-Some.field.now room so_far.2 (ok-holds c.write_field.result good said.text) (ok-holds c.write_field.result good said.same) (ok-holds c.write_field.result good said.count)
                (ok-holds c.write_field.result good said.wrote) (ok-holds c.write_field.result good said.stays),
          );
      end = c.loop-i.invariant.end;
    }

pub returns : goal.returns
returns c =
    let fields = fields_of c.as_ref-whole.result.now.fields in
    let all = kept-all c.as_ref-whole.result.now.columns c.loop-i.i fields in
    let said = c.end_record.ensures in
    let good : is_ok c.end_record.result ≡ true = search rules in
    λ d text h.
    let so_far = c.loop-i.invariant.written d text h in
    let same = all so_far.0 (omega (arith, c.loop-i.invariant.end, c.loop-i-test.false)) so_far.1 ∙ ap (λ w. others w.columns (fields_of w.fields)) c.as_ref-whole.ensures ∙ c.self.view_is in
    rw (← same) (record-written d c.loop-i.writer c.end_record.new.self text so_far.0 so_far.2 (ok-holds c.end_record.result good said.bytes) (ok-holds c.end_record.result good said.same)
    (ok-holds c.end_record.result good said.fields) (ok-holds c.end_record.result good said.wrote))
