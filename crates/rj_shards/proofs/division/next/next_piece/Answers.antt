use Rattle.std.specs.Prelude.{vec_len}
use Rattle.std.proofs.Common.{rules, ◌≡◌, ◌<◌, ◌≤◌, ℕ, List, arith, length, refl, subst, inl, inr}
use Rattle.rj_csv_io.specs.Pieces.{IsLastEnd, IsLineEnd}
use Rattle.rj_shards.proofs.ShortFacts.{read-next, read-none, read-plain}
use Rattle.rj_shards.proofs.LenientFacts.{last-records}
use Rattle.rj_shards.proofs.division.next.next_piece.Goals as goal

pub reading-init : goal.reading-init
reading-init g c = record {
  bytes = λ start h. h;
  count = refl;
  some = omega (arith, c.max-size.ensures);
  least = omega (arith, c.max-size.ensures);
  read = (read-none c.args.delimiter c.args.block c.args.bytes.now.items, omega (arith, c.max-size.ensures));
}

pub returns-in-Ok-true-clause-records : goal.returns-in-Ok-true-clause-records
returns-in-Ok-true-clause-records g c = λ more none.
    let all : c.len.result ≡ length c.read_up_to.new.bytes.items = search rules in
    last-records c.args.delimiter c.read_up_to.new.bytes.items more c.len.result all (none refl)

pub returns-in-Ok-true-clause-read : goal.returns-in-Ok-true-clause-read
returns-in-Ok-true-clause-read g c =
    let r = c.reading.invariant.read in
    let old : vec_len c.reading.bytes ≡ length c.reading.bytes.items = search rules in
    let now : vec_len c.read_up_to.new.bytes ≡ length c.read_up_to.new.bytes.items = search rules in
    read-next c.args.delimiter c.args.block c.args.bytes.now.items c.reading.bytes.items c.read_up_to.new.bytes.items c.reading.size r.0 r.1 c.in-Ok-true.ensures.front
    (λ h. let few = c.in-Ok-true.ensures.bound (omega (arith, h, old, now)) in omega (arith, few, now))

pub returns-then-end-gt0-clause-read : goal.returns-then-end-gt0-clause-read
returns-then-end-gt0-clause-read g c =
    let r = c.reading.invariant.read in
    let old : vec_len c.reading.bytes ≡ length c.reading.bytes.items = search rules in
    let now : vec_len c.read_up_to.new.bytes ≡ length c.read_up_to.new.bytes.items = search rules in
    read-next c.args.delimiter c.args.block c.args.bytes.now.items c.reading.bytes.items c.read_up_to.new.bytes.items c.reading.size r.0 r.1 c.in-Ok-false.ensures.front
    (λ h. let few = c.in-Ok-false.ensures.bound (omega (arith, h, old, now)) in omega (arith, few, now))

line-at : (d : ℕ) (text : List ℕ) (end last : ℕ) → 0 < last → IsLastEnd d text end last → IsLineEnd d text last
line-at d text end last some l = elim l.here [ inl none ↦ absurd (omega (arith, some, none)) | inr e ↦ e ]

pub returns-then-end-gt0-clause-line : goal.returns-then-end-gt0-clause-line
returns-then-end-gt0-clause-line g c = λ _.
    rw c.as_slice.ensures.value at (line-at c.args.delimiter c.as_slice.result.now (length c.as_slice.result.now) c.last_cut-end.result (omega arith) c.last_cut-end.ensures.last)

pub returns-then-end-gt0-clause-rest : goal.returns-then-end-gt0-clause-rest
returns-then-end-gt0-clause-rest g c = λ _ at low high e.
    (rw c.as_slice.ensures.value at c.last_cut-end.ensures.last).none at low high e

pub reading-preserved : goal.reading-preserved
reading-preserved g c =
    let r = c.reading.invariant.read in
    let old : vec_len c.reading.bytes ≡ length c.reading.bytes.items = search rules in
    let now : vec_len c.read_up_to.new.bytes ≡ length c.read_up_to.new.bytes.items = search rules in
    let bytes = c.read_up_to.new.bytes.items in
    let last = rw c.as_slice.ensures.value at c.last_cut-end.ensures.last in
    let full : c.reading.size ≤ vec_len c.read_up_to.new.bytes = search rules in
    let none : IsLastEnd c.args.delimiter bytes (length bytes) 0 = subst (λ n. IsLastEnd c.args.delimiter bytes (length bytes) n) (omega arith) last in
    let all = read-plain c.args.delimiter c.args.block c.args.bytes.now.items c.reading.bytes.items bytes c.reading.size r.0 r.1 c.in-Ok-false.ensures.front
    (λ h. let few = c.in-Ok-false.ensures.bound (omega (arith, h, old, now)) in omega (arith, few, now)) none in
    record {
      bytes = λ start h. c.in-Ok-false.ensures.bytes start (c.reading.invariant.bytes start h);
      count = search rules;
      some = omega (arith, c.reading.invariant.some, c.saturating_mul-size.ensures);
      least = omega (arith, c.reading.invariant.least, c.saturating_mul-size.ensures);
      read = (all.0, omega (arith, c.saturating_mul-size.ensures, full, now, all.1));
    }
