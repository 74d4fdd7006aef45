use Rattle.std.proofs.Common.{◌≡◌, ◌∙◌, ◌∷◌, ℕ, List, None, Some, refl, sym, ap}
use Rattle.csv.specs.Records.{fields_of}
use Rattle.rj_shards.specs.declared.merge.fields.WholeRow.{WholeRow}
use Rattle.rj_shards.specs.Inputs.{records_reading}
use Rattle.rj_shards.specs.Sources.{Reading}
use Rattle.rj_shards.specs.MergeTexts.{others}
use Rattle.rj_shards.proofs.MergeRangeFacts.{above_again, same_before, same_from, same_within, within-below, within-end, within-none, within-row}
use Rattle.rj_shards.proofs.merge.input.TextSourceSource.next.Goals as goal

pub rows-init : goal.rows-init
rows-init g c = rw c.take_row.ensures.kept record { tells = λ t. t; rows = λ t. refl; fault = λ t. refl; columns = c.in-Ok.ensures.columns; copies = refl; number = refl; above = λ p h. h }

pub returns-in-Ok-None-clause-tells : goal.returns-in-Ok-None-clause-tells
returns-in-Ok-None-clause-tells g c = λ t. c.in-Ok-None.ensures.tells (c.rows.invariant.tells t)

pub returns-in-Ok-None-clause-gives : goal.returns-in-Ok-None-clause-gives
returns-in-Ok-None-clause-gives g c = λ t.
    let end = rw c.in-Ok-None.field-0-is at c.in-Ok-None.ensures.end in
    let last = end refl (c.rows.invariant.tells t) in
    let none = within-none c.rows.self.how.now (records_reading g.R.Read.remaining c.rows.self) None last.0 last.1 in
    (c.rows.invariant.rows t ∙ none.0, c.rows.invariant.fault t ∙ none.1)

pub returns-in-Err-clause-gives : goal.returns-in-Err-clause-gives
returns-in-Err-clause-gives g c = λ t out.
    let last = c.in-Err.ensures.fault out (c.rows.invariant.tells t) in
    let none = within-none c.rows.self.how.now (records_reading g.R.Read.remaining c.rows.self) (Some c.in-Err.e) last.0 last.1 in
    (c.rows.invariant.rows t ∙ none.0, c.rows.invariant.fault t ∙ none.1)

pub returns-then-not-is_before-clause-gives : goal.returns-then-not-is_before-clause-gives
returns-then-not-is_before-clause-gives g c = λ t.
    let some = rw c.in-Ok-Some.field-0-is at c.in-Ok-Some.ensures.some in
    let step = some (c.rows.invariant.tells t) in
    let s = c.rows.self in
    let now = c.next_place.new.self in
    let past = sym (same_before now.how.now s.how.now c.in-Ok-Some.place c.in-Ok-Some.ensures.how) ∙ (sym c.is_before.ensures ∙ c.if-not-is_before.true) in
    let end = within-end s.how.now (records_reading g.R.Read.remaining s) record { place = c.in-Ok-Some.place; row = others s.columns (fields_of c.next_place.new.fields) } (records_reading g.R.Read.remaining now).rows step.0 past in
    (c.rows.invariant.rows t ∙ end.0, c.rows.invariant.fault t ∙ end.1)

pub rows-preserved : goal.rows-preserved
rows-preserved g c =
    let some = rw c.in-Ok-Some.field-0-is at c.in-Ok-Some.ensures.some in
    let rises = rw c.in-Ok-Some.field-0-is at c.in-Ok-Some.ensures.rises in
    let s = c.rows.self in
    let now = c.next_place.new.self in
    let old = records_reading g.R.Read.remaining s in
    let new = records_reading g.R.Read.remaining now in
    let before = sym (same_before now.how.now s.how.now c.in-Ok-Some.place c.in-Ok-Some.ensures.how) ∙ (sym c.is_before.ensures ∙ c.if-not-is_before.false) in
    let below = sym (same_from now.how.now s.how.now c.in-Ok-Some.place c.in-Ok-Some.ensures.how) ∙ (sym c.is_from.ensures ∙ c.if-is_from.false) in
    let same = same_within now.how.now s.how.now new c.in-Ok-Some.ensures.how in
    record {
      tells = λ t. c.in-Ok-Some.ensures.tells (c.rows.invariant.tells t);
      rows = λ t.
          let step = some (c.rows.invariant.tells t) in
          c.rows.invariant.rows t ∙ ((within-below s.how.now old new record { place = c.in-Ok-Some.place; row = others s.columns (fields_of c.next_place.new.fields) } step.0 step.1 before below).0 ∙ ap (λ (r : Reading (List (List ℕ))). r.rows) same);
      fault = λ t.
          let step = some (c.rows.invariant.tells t) in
          c.rows.invariant.fault t ∙ ((within-below s.how.now old new record { place = c.in-Ok-Some.place; row = others s.columns (fields_of c.next_place.new.fields) } step.0 step.1 before below).1 ∙ ap (λ (r : Reading (List (List ℕ))). r.fault) same);
      columns = ap (λ (w : WholeRow). w.columns) c.as_mut.ensures.value ∙ c.rows.invariant.columns ∙ sym c.in-Ok-Some.ensures.columns;
      copies = c.in-Ok-Some.ensures.copies ∙ c.rows.invariant.copies;
      number = c.in-Ok-Some.ensures.number ∙ c.rows.invariant.number;
      above = λ p h. c.rows.invariant.above p (above_again s.last c.in-Ok-Some.place p now.last rises.0 rises.1 h);
    }

pub returns-then-is_from-clause-tells : goal.returns-then-is_from-clause-tells
returns-then-is_from-clause-tells g c = λ t. c.in-Ok-Some.ensures.tells (c.rows.invariant.tells t)

pub returns-then-is_from-clause-gives : goal.returns-then-is_from-clause-gives
returns-then-is_from-clause-gives g c = λ t.
    let some = rw c.in-Ok-Some.field-0-is at c.in-Ok-Some.ensures.some in
    let s = c.rows.self in
    let now = c.next_place.new.self in
    let fields = fields_of c.next_place.new.fields in
    let old = records_reading g.R.Read.remaining s in
    let new = records_reading g.R.Read.remaining now in
    let before = sym (same_before now.how.now s.how.now c.in-Ok-Some.place c.in-Ok-Some.ensures.how) ∙ (sym c.is_before.ensures ∙ c.if-not-is_before.false) in
    let from = sym (same_from now.how.now s.how.now c.in-Ok-Some.place c.in-Ok-Some.ensures.how) ∙ (sym c.is_from.ensures ∙ c.if-is_from.true) in
    let same = same_within now.how.now s.how.now new c.in-Ok-Some.ensures.how in
    let step = some (c.rows.invariant.tells t) in
    let named : c.without_place-row.result ≡ others s.columns fields = c.without_place-row.ensures ∙ ap (λ k. others k fields) (ap (λ (w : WholeRow). w.columns) c.as_mut.ensures.value ∙ c.rows.invariant.columns) in
    let found = within-row s.how.now old new record { place = c.in-Ok-Some.place; row = others s.columns fields } step.0 step.1 before from in (
      c.rows.invariant.rows t ∙ (found.0 ∙ (λ u. record { place = c.in-Ok-Some.place; row = sym named u } ∷ (same u).rows)),
      c.rows.invariant.fault t ∙ (found.1 ∙ ap (λ (r : Reading (List (List ℕ))). r.fault) same),
    )
