use Rattle.std.proofs.Common.{◌≡◌, ℕ, length, sym, subst, arith}
use Rattle.rj_csv_io.specs.Pieces.{IsLastEnd}
use Rattle.rj_csv_io.specs.declared.place.ReaderPlace.TheVariants as place
use Rattle.rj_csv_io.proofs.PieceFacts.{cut-records, last-ends, no-end, one-last}
use Rattle.rj_csv_io.proofs.PlaceFacts.{next-place, place-none}
use Rattle.rj_csv_io.proofs.stretches.last_cut.Goals as goal

pub loop-at-init : goal.loop-at-init
loop-at-init c = record { within = omega arith; place = sym (place-none c.byte-byte.result place.Fresh); last = no-end c.byte-byte.result c.args.text.now }

pub loop-at-preserved : goal.loop-at-preserved
loop-at-preserved c = record {
  within = c.stretch_end-next.ensures.within;
  place = next-place c.byte-byte.result place.Fresh c.loop-at.place c.scan-place.result c.args.text.now c.loop-at.at c.stretch_end-next.result
      (omega (arith, c.stretch_end-next.ensures.from)) c.loop-at.invariant.place c.scan-place.ensures;
  last = c.later_end-last.ensures c.byte-byte.result c.byte-byte.ensures.lawful c.loop-at.invariant.place c.loop-at.invariant.last;
}

pub returns-clause-last : goal.returns-clause-last
returns-clause-last c =
    let whole : c.loop-at.at ≡ length c.args.text.now = omega (arith, c.loop-at-test.false, c.loop-at.invariant.within) in
    let there = subst (λ end. IsLastEnd c.byte-byte.result c.args.text.now end c.loop-at.last) whole c.loop-at.invariant.last in
    subst (λ (d : ℕ). IsLastEnd d c.args.text.now (length c.args.text.now) c.loop-at.last) c.byte-byte.ensures.value there

pub returns-clause-records : goal.returns-clause-records
returns-clause-records c =
    let last = subst (λ (d : ℕ). IsLastEnd d c.args.text.now c.loop-at.at c.loop-at.last) c.byte-byte.ensures.value c.loop-at.invariant.last in
    λ more. cut-records c.args.delimiter c.args.text.now more c.loop-at.last (last-ends c.args.delimiter c.args.text.now c.loop-at.at c.loop-at.last last)

pub returns-clause-only : goal.returns-clause-only
returns-clause-only c = λ at other.
    let whole : c.loop-at.at ≡ length c.args.text.now = omega (arith, c.loop-at-test.false, c.loop-at.invariant.within) in
    let there = subst (λ end. IsLastEnd c.byte-byte.result c.args.text.now end c.loop-at.last) whole c.loop-at.invariant.last in
    let last = subst (λ (d : ℕ). IsLastEnd d c.args.text.now (length c.args.text.now) c.loop-at.last) c.byte-byte.ensures.value there in
    one-last c.args.delimiter c.args.text.now (length c.args.text.now) c.loop-at.last at last other
