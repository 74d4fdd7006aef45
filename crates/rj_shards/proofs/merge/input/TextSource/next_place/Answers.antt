use Rattle.csv.specs.Records.{fields_of}
use Rattle.rj_shards.specs.MergeTexts.{others}
use Rattle.rj_shards.proofs.TextFacts.{gives-end, gives-fault, gives-row}
use Rattle.rj_shards.proofs.merge.input.TextSource.next_place.Goals as goal

pub returns-in-Ok-false-clause-end : goal.returns-in-Ok-false-clause-end
returns-in-Ok-false-clause-end g c = λ is tells.
    let s = c.args.self.now in
    let none = rw (c.in-Ok-false.field-0-test, c.as_mut.ensures.value) at c.in-Ok-false.ensures.next in
    rw c.if-self.false (gives-end s.how.now s.columns s.input s.row s.last _ (none (tells c.if-self.false)))

pub returns-in-Ok-clause-some : goal.returns-in-Ok-clause-some
returns-in-Ok-clause-some g c = λ tells.
    let s = c.args.self.now in
    let fields = fields_of c.next_record.new.fields in
    let next = rw (c.in-Ok-true.field-0-test, c.as_mut.ensures.value) at c.in-Ok-true.ensures.next in
    rw c.if-self.false (gives-row s.how.now s.columns s.input s.row c.in-Some.row s.last fields _ _ record { place = c.in-Ok.place; row = others s.columns fields } (next (tells c.if-self.false)).0 c.in-Some.ensures.1 c.in-Ok.ensures.row)

pub returns-in-Err-place_of_row-clause-fault : goal.returns-in-Err-place_of_row-clause-fault
returns-in-Err-place_of_row-clause-fault g c = λ inside tells.
    let s = c.args.self.now in
    let next = rw (c.in-Ok-true.field-0-test, c.as_mut.ensures.value) at c.in-Ok-true.ensures.next in
    rw c.if-self.false (gives-fault s.how.now s.columns s.input s.row c.in-Some.row s.last (fields_of c.next_record.new.fields) _ _ c.in-Err-place_of_row.e (next (tells c.if-self.false)).0 c.in-Some.ensures.1 c.in-Err-place_of_row.ensures.fault)
