use Rattle.std.proofs.Common.{◌≡◌, ℕ, ◌<◌, ◌≤◌, ◌+◌, [], List, length, get_or, set, sym, ap, ◌∙◌, subst, arith, length-set, get_or-set_same, get_or-set_other}
use mathlib.Core.Logic.{dite}
use native.Mathlib.Decide.{ℕ_discrete}
use Rattle.crossbeam_queue.specs.Passes.{view}
use Rattle.rj_exchange.specs.declared.boxes.Outbox.{Outbox}
use Rattle.rj_exchange.specs.declared.boxes.Stub.{Stub}
use Rattle.rj_exchange.specs.declared.queue.Trace.{Trace}
use Rattle.rj_exchange.specs.declared.queue.Where.{Where}
use Rattle.rj_exchange.specs.Passing.{taker, sender}
use Rattle.rj_exchange.specs.Internal.Opening.{place_of, AddsStub}
use Rattle.rj_exchange.proofs.Stubs.{any_default, taker_self}
use Rattle.rj_exchange.proofs.boxes.open.add_queue.Goals as goal

pub deal_at-stub-requires : goal.deal_at-stub-requires
deal_at-stub-requires c = let v = c.loop-at.invariant.end in (v.0, taker_self _ _ _ _ _ v.1, ap (λ (u : Trace). length u.known) v.1)

pub loop-at-preserved : goal.loop-at-preserved
loop-at-preserved c = let v = c.loop-at.invariant in let k : ℕ = c.loop-at.at in let old : Outbox = c.index_mut.result.now in let new : Outbox = c.give.new.outbox in let stub : Stub = c.deal_at-stub.result in
    let boxes : List Outbox = c.loop-at.boxes.items in let first : List Outbox = c.args.boxes.now.items in let place : Where = place_of c.args.partition c.args.lane c.args.lanes c.args.outboxes in
    let mine = c.index_mut.ensures.value ∙ v.yet k old (omega arith) in let g = c.in_ok-give.ensures in let d = c.deal_at-stub.ensures in let e = v.end.1 in let many = v.many in
    let lt : k < length boxes = (let t = c.loop-at-test.true in let z = c.requires.boxes in omega (arith, c.args.boxes.now.ok)) in
    let before = c.requires.boxes in
    let token : view stub.pass ≡ sender place k [] = d.stub.1 ∙ (λ i. sender (e i).place (e i).made []) in record {
      end = (d.end.0, d.end.1 ∙ (λ i. taker (e i).place ((e i).made + 1) (e i).taken (e i).known));
      many = length-set boxes k new ∙ v.many;
      done = λ j b f below. dite (ℕ_discrete j k)
          (λ is.
          let a = mine ∙ any_default first k old b (omega arith) ∙ ap (λ (m : ℕ). get_or first m b) (sym is) in
          let h = sym (ap (λ (m : ℕ). get_or (set boxes k new) m f) is ∙ get_or-set_same boxes k new f lt) in
          let fact : AddsStub place k c.in_ok-queue.queue old new = (g.0, (stub, g.1, (d.stub.0, token))) in
          subst (λ (z : Outbox × Outbox × ℕ). AddsStub place z.2 c.in_ok-queue.queue z.0 z.1) (λ i. (a i, h i, sym is i)) fact)
          (λ ne. subst (λ (z : Outbox). AddsStub place j c.in_ok-queue.queue (get_or first j b) z) (sym (get_or-set_other boxes k j new f ne)) (v.done j b f (omega arith)));
      yet = λ j b le. get_or-set_other boxes k j new b (λ is. omega arith) ∙ v.yet j b (omega arith);
    }

pub returns-clause-queue : goal.returns-clause-queue
returns-clause-queue c = let v = c.loop-at.invariant in let q = c.in_ok-queue.ensures in
    let n : c.loop-at.at ≡ c.args.outboxes = (let a = c.loop-at-test.false in let b = c.requires.boxes in let f = c.loop-at.auto.at-end in omega (arith, c.args.boxes.now.ok)) in
    (q.0, (v.end.0, subst (λ (m : ℕ). view c.loop-at.end.pass ≡ taker (place_of c.args.partition c.args.lane c.args.lanes c.args.outboxes) m [] []) n v.end.1))

pub returns-clause-boxes : goal.returns-clause-boxes
returns-clause-boxes c = let v = c.loop-at.invariant in let n : c.args.outboxes ≤ c.loop-at.at = (let a = c.loop-at-test.false in let b = c.requires.boxes in omega (arith, c.args.boxes.now.ok)) in
    (v.many, λ i b d lt. v.done i b d (omega arith))
