use Rattle.std.proofs.Common.{List, ℕ, Bor, map, sym, ◌∙◌, ◌∷◌, [], refl, arith}
use Rattle.std.proofs.lemmas.List.{length-append, map-append}
use Rattle.rj_csv_io.proofs.CutFacts.{strip-plain, all-more, text-step, all-none, all-one}
use Rattle.rj_csv_io.proofs.cut.cut_text.Goals as goal

pub returns-then-starts_with_bom-clause-records : goal.returns-then-starts_with_bom-clause-records
returns-then-starts_with_bom-clause-records c = rw (c.in_ok-push.ensures.items, c.new-parts.ensures.items) (all-one c.args.delimiter c.args.text.now)

pub loop-k-init : goal.loop-k-init
loop-k-init c =
    let plain = strip-plain c.without_bom-rest.result.now (sym c.starts_with_bom.ensures.value ∙ c.if-starts_with_bom.false) in
    record {
      few = rw c.new-parts.ensures.items (omega arith);
      within = omega arith;
      unmarked = plain;
      records = rw (c.new-parts.ensures.items, all-none c.args.delimiter, plain, c.without_bom-rest.ensures) refl;
    }

pub loop-k-preserved : goal.loop-k-preserved
loop-k-preserved c =
    let done = map (λ (p : Bor (List ℕ)). p.now) c.loop-k.parts.items in
    let step = text-step c.args.delimiter done c.loop-k.rest.now c.args.text.now c.in-Some.cut c.loop-k.invariant.unmarked c.in-Some.ensures.unmarked c.in-Some.ensures.ends c.loop-k.invariant.records in
    let more = length-append c.loop-k.parts.items (c.split_at.result.0 ∷ []) in
    record {
      few = rw c.in_ok-push-2.ensures.items (omega (arith, more, c.loop-k.invariant.few));
      within = omega (arith, c.loop-k-test.true);
      unmarked = rw c.split_at.ensures.back c.in-Some.ensures.unmarked;
      records = rw (c.in_ok-push-2.ensures.items, map-append, c.split_at.ensures.front, c.split_at.ensures.back) step;
    }

pub returns-clause-few : goal.returns-clause-few
returns-clause-few c =
    let more = length-append c.loop-k.parts.items (c.loop-k.rest ∷ []) in
    rw c.in_ok-push-3.ensures.items (omega (arith, more, c.loop-k.invariant.few, c.loop-k.invariant.within))

pub returns-clause-records : goal.returns-clause-records
returns-clause-records c = rw (c.in_ok-push-3.ensures.items, map-append, all-more c.args.delimiter (map (λ (p : Bor (List ℕ)). p.now) c.loop-k.parts.items) c.loop-k.rest.now) c.loop-k.invariant.records
