use Rattle.std.proofs.Common.{◌≡◌, ◌∙◌, ◌<◌, ◌-◌, ◌^◌, ◌++◌, ◌∷◌, [], List, ℕ, Bor, map, take, length, sym, ap, subst, arith, rules}
use Rattle.std.specs.Prelude.{slice_index_or}
use Rattle.std.proofs.lemmas.List.{length-map, length-take, take_all, take_more, get_or-map}
use Rattle.csv.specs.Writing.{row_text}
use Rattle.rj_csv_io.specs.Shown.{writer_of}
use Rattle.rj_csv_io.specs.Written.{HasWritten}
use Rattle.rj_csv_io.proofs.range.write_header.Goals as goal

pub loop-i-preserved : goal.loop-i-preserved
loop-i-preserved c =
    let names = map (λ (n : Bor (List ℕ)). n.now) c.args.header.now in
    let size : length names ≡ length c.args.header.now = length-map c.args.header.now (λ (n : Bor (List ℕ)). n.now) in
    let inside : c.loop-i.i < length c.args.header.now = omega (arith, c.loop-i.invariant.end, c.loop-i-test.true) in
    let bound : c.loop-i.i < 2 ^ 64 - 1 = search rules in
    let taken = length-take c.loop-i.i names in
    let room : length (take c.loop-i.i names) < 2 ^ 64 - 1 = omega arith in
    let more = take_more names c.loop-i.i c.as_bytes.result.now (omega arith) in
    let name : c.as_bytes.result.now ≡ slice_index_or names c.loop-i.i c.as_bytes.result.now = c.as_bytes.ensures.value ∙ sym (get_or-map (λ (n : Bor (List ℕ)). n.now) c.args.header.now c.loop-i.i _ c.as_bytes.result.now inside) in
    record {
      written = λ d text h.
          let now = c.in_ok-write_field.ensures d text (take c.loop-i.i names) room (c.loop-i.invariant.written d text h) in
          subst (λ fields. HasWritten d c.write_field.new.writer text fields) (ap (λ f. take c.loop-i.i names ++ f ∷ []) name ∙ sym more) now;
      end = c.loop-i.invariant.end;
    }

pub returns : goal.returns
returns c =
    let names = map (λ (n : Bor (List ℕ)). n.now) c.args.header.now in
    let size : length names ≡ length c.args.header.now = length-map c.args.header.now (λ (n : Bor (List ℕ)). n.now) in
    let all : take c.loop-i.i names ≡ names = take_all c.loop-i.i names (omega (arith, c.loop-i.invariant.end, c.loop-i-test.false)) in
    λ d text h.
    subst (λ fields. HasWritten d c.end_record.new.writer (text ++ row_text (writer_of d) fields) []) all (c.in_ok-end_record.ensures d text (take c.loop-i.i names) (c.loop-i.invariant.written d text h))
