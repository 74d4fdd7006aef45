use Rattle.std.proofs.Common.{◌≡◌, ◌∙◌, ◌<◌, ℕ, Err, sym, ap, arith, length, get_or}
use Rattle.rj_shards.specs.Divisions.{part_text}
use Rattle.rj_shards.specs.declared.division.refused.DivideRefused.TheVariants as refused
use Rattle.rj_shards.proofs.GroupFacts.{numbers-below, numbers-rows}
use Rattle.rj_shards.proofs.PutFacts.{count-kept, count-more, have-more, or-not-kept, or-not-others, wait-more}
use Rattle.rj_shards.proofs.division.table.divide_table.Goals as goal

pub put_rows-requires-clause-rows : goal.put_rows-requires-clause-rows
put_rows-requires-clause-rows g c =
    let many : c.loop-part.part < g.R.Route.count c.args.route.now = omega (arith, c.loop-part-test.true, c.loop-part.invariant.end, c.requires.outputs) in
    let is = c.part.ensures ∙ (c.in-Ok.ensures.parts c.loop-part.part many).same in
    rw is (numbers-below (g.R.Route.part c.args.route.now) c.loop-part.part c.args.table.now.rows)

pub returns-in-Err-Memory-clause-counts : goal.returns-in-Err-Memory-clause-counts
returns-in-Err-Memory-clause-counts g c =
    let now = c.loop-part.outputs in let p = c.loop-part.part in
    let same = ap (λ d. get_or now p d) (sym c.index-outputs-part.is) in
    count-kept g.O.Output.count c.args.outputs.now now p (get_or now p c.index-outputs-part.result) c.put_rows.new.output c.loop-part.invariant.counts same
    (c.in-Err-Memory.ensures.count.1 (λ q. cc (q, c.in-Err-Memory.field-0-is)))

pub returns-in-Err-WriteDevice-clause-counts : goal.returns-in-Err-WriteDevice-clause-counts
returns-in-Err-WriteDevice-clause-counts g c =
    let now = c.loop-part.outputs in let p = c.loop-part.part in
    let same = ap (λ d. get_or now p d) (sym c.index-outputs-part.is) in
    count-more g.O.Output.count c.args.outputs.now now p (get_or now p c.index-outputs-part.result) c.put_rows.new.output c.loop-part.invariant.counts
    (omega (arith, c.loop-part-test.true, c.loop-part.auto.outputs, c.loop-part.invariant.end)) same (c.in-Err-WriteDevice.ensures.count.0 (ap Err c.in-Err-WriteDevice.field-0-is))

pub loop-part-preserved : goal.loop-part-preserved
loop-part-preserved g c =
    let now = c.loop-part.outputs in let p = c.loop-part.part in let old = c.args.outputs.now in
    let x = get_or now p c.index-outputs-part.result in let y = c.put_rows.new.output in
    let part = g.R.Route.part c.args.route.now in let rows = c.args.table.now.rows in let null = c.args.null.now in
    let same : get_or now p x ≡ x = ap (λ d. get_or now p d) (sym c.index-outputs-part.is) in
    let low : p < length now = omega (arith, c.loop-part-test.true, c.loop-part.auto.outputs, c.loop-part.invariant.end) in
    let many : p < g.R.Route.count c.args.route.now = omega (arith, c.loop-part-test.true, c.loop-part.invariant.end, c.requires.outputs) in
    let is = c.part.ensures ∙ (c.in-Ok.ensures.parts p many).same in
    let put = rw (is, numbers-rows part p c.args.first rows) at c.in-Ok-put_rows.ensures.ok in
    record {
      end = c.loop-part.invariant.end;
      counts = count-kept g.O.Output.count old now p x y c.loop-part.invariant.counts same (c.in-Ok-put_rows.ensures.count.1 (λ q. cc q));
      have = have-more g.O.Output.told (λ (q : ℕ). part_text null part q c.args.first rows) old now p x y low same c.loop-part.invariant.have c.loop-part.invariant.wait put;
      wait = wait-more g.O.Output.told (λ (q : ℕ). part_text null part q c.args.first rows) old now p y c.loop-part.invariant.wait;
    }

pub returns-in-Err-Memory-clause-partly : goal.returns-in-Err-Memory-clause-partly
returns-in-Err-Memory-clause-partly g c = λ q low ne.
    let now = c.loop-part.outputs in let p = c.loop-part.part in
    let x = get_or now p c.index-outputs-part.result in
    let same : get_or now p x ≡ x = ap (λ d. get_or now p d) (sym c.index-outputs-part.is) in
    or-not-kept g.O.Output.told (λ (q : ℕ). part_text c.args.null.now (g.R.Route.part c.args.route.now) q c.args.first c.args.table.now.rows) c.args.outputs.now now p x c.put_rows.new.output same
    (c.in-Err-Memory.ensures.memory (ap Err c.in-Err-Memory.field-0-is)) c.loop-part.invariant.have c.loop-part.invariant.wait q

pub returns-in-Err-WriteDevice-clause-partly : goal.returns-in-Err-WriteDevice-clause-partly
returns-in-Err-WriteDevice-clause-partly g c = λ q low ne.
    let now = c.loop-part.outputs in let p = c.loop-part.part in
    or-not-others g.O.Output.told (λ (q : ℕ). part_text c.args.null.now (g.R.Route.part c.args.route.now) q c.args.first c.args.table.now.rows) c.args.outputs.now now p c.put_rows.new.output
    c.loop-part.invariant.have c.loop-part.invariant.wait q (λ e. ne (ap refused.WriteDevice (sym e)))
