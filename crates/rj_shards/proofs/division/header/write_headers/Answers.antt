use Rattle.std.proofs.Common.{◌≡◌, ◌<◌, ℕ, sym, ap, arith, refl, subst, length, map, get_or, set}
use Rattle.rj_shards.specs.Headers.{HaveTextBefore, IsHeaderFault, header_text}
use Rattle.rj_shards.specs.declared.division.refused.DivideRefused.TheVariants as refused
use Rattle.rj_shards.proofs.PutFacts.{before-after, count-kept, count-more, have-more, wait-more}
use Rattle.rj_shards.proofs.division.header.write_headers.Goals as goal

pub returns-in-Err-put-clause-counts : goal.returns-in-Err-put-clause-counts
returns-in-Err-put-clause-counts g c =
    let now = c.loop-part.outputs in let p = c.loop-part.part in
    let same = ap (λ d. get_or now p d) (sym c.index-outputs-part.is) in
    count-more g.O.Output.count c.args.outputs.now now p (get_or now p c.index-outputs-part.result) c.put.new.self c.loop-part.invariant.counts
    (omega (arith, c.loop-part-test.true, c.loop-part.auto.outputs, c.loop-part.invariant.end)) same c.in-Err-put.ensures.failed

pub loop-part-preserved : goal.loop-part-preserved
loop-part-preserved g c =
    let now = c.loop-part.outputs in let p = c.loop-part.part in let old = c.args.outputs.now in
    let x = get_or now p c.index-outputs-part.result in let y = c.put.new.self in
    let same : get_or now p x ≡ x = ap (λ d. get_or now p d) (sym c.index-outputs-part.is) in
    let low : p < length now = omega (arith, c.loop-part-test.true, c.loop-part.auto.outputs, c.loop-part.invariant.end) in
    let put = rw (c.as_slice.ensures.value, c.loop-part.invariant.text) at c.in-Ok-put.ensures.ok in
    record {
      end = c.loop-part.invariant.end;
      text = c.loop-part.invariant.text;
      counts = count-kept g.O.Output.count old now p x y c.loop-part.invariant.counts same c.in-Ok-put.ensures.kept;
      have = have-more g.O.Output.told (λ (q : ℕ). header_text c.args.table.now c.args.name.now) old now p x y low same c.loop-part.invariant.have c.loop-part.invariant.wait put;
      wait = wait-more g.O.Output.told (λ (q : ℕ). header_text c.args.table.now c.args.name.now) old now p y c.loop-part.invariant.wait;
    }

pub returns-in-Err-clause-before : goal.returns-in-Err-clause-before
returns-in-Err-clause-before g c = λ p is.
    let e : c.in-Err.e ≡ refused.WriteDevice p = cc in
    let low = (subst (IsHeaderFault c.args.table.now c.args.name.now 0) e c.in-Err.ensures.fault).0 in
    absurd (omega (arith, low))

pub returns-in-Err-put-clause-untouched : goal.returns-in-Err-put-clause-untouched
returns-in-Err-put-clause-untouched g c = λ none. absurd (none c.loop-part.part refl)

pub returns-in-Err-put-clause-before : goal.returns-in-Err-put-clause-before
returns-in-Err-put-clause-before g c = λ p is.
    let now = c.loop-part.outputs in let old = c.args.outputs.now in let text = header_text c.args.table.now c.args.name.now in
    let same : c.loop-part.part ≡ p = cc in
    subst (λ (k : ℕ). HaveTextBefore k text (map g.O.Output.told old) (map g.O.Output.told (set now c.loop-part.part c.put.new.self))) same
    (before-after g.O.Output.told (λ (q : ℕ). text) old now c.loop-part.part c.put.new.self c.loop-part.invariant.have c.loop-part.invariant.wait)
