use Rattle.std.proofs.Common.{◌≡◌, ℕ, ◌<◌, ◌≤◌, ◌*◌, ◌+◌, List, length, get_or, sym, ap, ◌∙◌, subst, arith, mul-le-mul_right}
use Rattle.std.specs.Vec.Iter.{into_iter_items}
use Rattle.crossbeam_queue.specs.Passes.{view}
use Rattle.rj_exchange.specs.declared.boxes.Stub.{Stub}
use Rattle.rj_exchange.specs.Boxes.{where_at, IsStubOf}
use Rattle.rj_exchange.specs.Internal.Ends.{Knows, known_of}
use Rattle.rj_exchange.proofs.Stubs.{any_default, knows_none, knows_taker, knows_more, stub_self, row_fits}
use Rattle.rj_exchange.proofs.boxes.ends.give_back_all.Goals as goal

pub loop-outbox-init : goal.loop-outbox-init
loop-outbox-init c = let r = c.into_iter-left.ensures.rest in let n = c.requires.ends.0 in record {
  many = n;
  later = ((let l = ap length r in omega arith), λ i d. ap (λ l. get_or l i d) r ∙ ap (λ (m : ℕ). get_or c.args.stubs.items m d) (let Z : Type 0 = i ≡ 0 * c.args.exchange.now.lanes + i in let z : Z = omega arith in z));
  knows = λ k q s u lt. knows_none (get_or c.args.exchange.now.queues.items (c.args.partition * c.args.exchange.now.lanes + k) q) c.args.ends.now.items k s u (omega arith) (c.requires.ends.1 k q u lt);
}

pub round-requires-clause-ends : goal.round-requires-clause-ends
round-requires-clause-ends c =
    let v = c.loop-outbox.invariant in (
      v.many,
      λ k l s lt. knows_taker c.args.exchange.now.lanes c.args.stubs.items k c.loop-outbox.outbox (get_or c.args.exchange.now.queues.items (c.args.partition * c.args.exchange.now.lanes + k) l)
          (get_or c.args.ends.now.items k s) (get_or c.loop-outbox.ends.items k s) (v.knows k l s s lt),
    )

pub round-requires-clause-stubs : goal.round-requires-clause-stubs
round-requires-clause-stubs c = let v = c.loop-outbox.invariant in let o : ℕ = c.loop-outbox.outbox in let lanes : ℕ = c.args.exchange.now.lanes in let lt : o < c.args.exchange.now.outboxes = c.loop-outbox-test.true in (
  (let m : (o + 1) * lanes ≤ c.args.exchange.now.outboxes * lanes = mul-le-mul_right lanes (omega arith) in let a = v.later.0 in let b = c.requires.stubs.many in omega arith),
  λ k l s below. subst (λ (z : Stub). IsStubOf (view z.pass).place o (get_or c.args.exchange.now.queues.items (c.args.partition * lanes + k) l) z) (sym (v.later.1 k s))
      (stub_self (where_at c.args.exchange.now c.args.partition k) o (get_or c.args.exchange.now.queues.items (c.args.partition * c.args.exchange.now.lanes + k) l)
      (get_or c.args.stubs.items (o * lanes + k) s) (c.requires.stubs.stubs o k l s lt below)),
)

pub loop-outbox-preserved : goal.loop-outbox-preserved
loop-outbox-preserved c = let v = c.loop-outbox.invariant in let o : ℕ = c.loop-outbox.outbox in let lanes : ℕ = c.args.exchange.now.lanes in let lt : o < c.args.exchange.now.outboxes = c.loop-outbox-test.true in
    let r = c.round.ensures in let ss : List Stub = c.args.stubs.items in let left : List Stub = into_iter_items c.loop-outbox.left in record {
      many = r.ends.0;
      later = (
        (let a = v.later.0 in let b = r.stubs.0 in omega arith),
        λ i d. r.stubs.1 i d ∙ v.later.1 (lanes + i) d
            ∙ ap (λ (m : ℕ). get_or ss m d) (let Z : Type 0 = o * lanes + (lanes + i) ≡ (o + 1) * lanes + i in let z : Z = omega arith in z),
      );
      knows = λ k q s u below. let fits = row_fits o c.args.exchange.now.outboxes lanes k lt below in let many = c.requires.stubs.many in
          let inside : o * lanes + k < length ss = omega arith in let t : Stub = get_or left k s in let is : t ≡ get_or ss (o * lanes + k) t = v.later.1 k s ∙ any_default ss (o * lanes + k) s t inside in
          knows_more lanes ss k o (get_or c.args.exchange.now.queues.items (c.args.partition * c.args.exchange.now.lanes + k) q) (get_or c.args.ends.now.items k s)
          (get_or c.loop-outbox.ends.items k s) t (get_or c.round.new.ends.items k u) inside is (v.knows k q s s below) (r.ends.1 k q s s u below);
    }

pub returns : goal.returns
returns c = let v = c.loop-outbox.invariant in (
  v.many,
  λ k l s u lt. let same : c.loop-outbox.outbox ≡ c.args.exchange.now.outboxes = (let a = c.loop-outbox-test.false in let b = c.loop-outbox.auto.outbox-end in omega arith) in
      let f = v.knows k l s u lt in subst
      (λ (o : ℕ). Knows (get_or c.args.exchange.now.queues.items (c.args.partition * c.args.exchange.now.lanes + k) l) (get_or c.args.ends.now.items k s)
      (known_of c.args.exchange.now.lanes c.args.stubs.items k o) (get_or c.loop-outbox.ends.items k u)) same f,
)
