use Rattle.std.proofs.Common.{◌≡◌, ℕ, ◌<◌, ◌+◌, ◌*◌, [], ◌∷◌, List, length, get_or, sym, ap, ◌∙◌, subst, refl, arith, length-append, All}
use Rattle.std.proofs.lemmas.List.Elements.{All-push}
use Rattle.crossbeam_queue.specs.Passes.{view, ruled_capacity}
use Rattle.rj_exchange.specs.declared.boxes.Stub.{Stub}
use Rattle.rj_exchange.specs.declared.queue.Trace.{Trace}
use Rattle.rj_exchange.specs.Passing.{taker, sender}
use Rattle.rj_exchange.specs.Boxes.{Queue, IsEndOf}
use Rattle.rj_exchange.specs.Internal.Opening.{place_of}
use Rattle.rj_exchange.proofs.Opening.{AreBoxes, AreFreshEnds, AreInboxes}
use Rattle.rj_exchange.proofs.Stubs.{pick, row_fits}
use Rattle.rj_exchange.proofs.Opening.{grows, ends_grow, inboxes_stay, inboxes_grow, fresh_untold}
use Rattle.rj_exchange.proofs.boxes.Exchange.open.Goals as goal

pub loop-lane-preserved : goal.loop-lane-preserved
loop-lane-preserved c = let v = c.loop-lane.invariant in let lanes : ℕ = c.args.lanes in let outboxes : ℕ = c.args.outboxes in let p : ℕ = c.loop-partition.partition in
    let k : ℕ = c.loop-lane.lane in let lt : k < lanes = c.loop-lane-test.true in
    let queues : List Queue = c.loop-lane.queues.items in let queue : Queue = c.in_ok-queue.queue in let end : Stub = c.in_ok-queue.end in let e = c.in_ok-push-2.ensures.items in let f = c.in_ok-push-3.ensures.items in
    let q = c.in_ok-queue.ensures.queue in let b = c.in_ok-queue.ensures.boxes in let count = v.count in record {
      count = (let l = ap length e in let m = length-append queues (queue ∷ []) in omega arith);
      caps = subst (All (λ (z : Queue). ruled_capacity z ≡ c.args.capacity)) (sym e) (All-push (λ (z : Queue). ruled_capacity z ≡ c.args.capacity) queues queue v.caps q.0);
      boxes = subst (λ (z : List Queue). AreBoxes lanes outboxes z c.add_queue.new.boxes.items) (sym e) (grows lanes outboxes queues queue c.loop-lane.boxes.items c.add_queue.new.boxes.items p k v.boxes lt v.count b.0 b.1);
      inboxes = subst (λ (z : List Queue). AreInboxes lanes outboxes p z c.loop-partition.inboxes.items) (sym e) (inboxes_stay lanes outboxes p queues queue c.loop-partition.inboxes.items v.inboxes (omega arith));
      ends = subst (λ (z : List Queue × List Stub). AreFreshEnds lanes outboxes p (k + 1) z.0 z.1) (λ i. (sym e i, sym f i)) (ends_grow lanes outboxes p k queues queue c.loop-lane.ends.items end v.ends v.count q.1);
    }

pub loop-partition-preserved : goal.loop-partition-preserved
loop-partition-preserved c = let v = c.loop-lane.invariant in let lanes : ℕ = c.args.lanes in let outboxes : ℕ = c.args.outboxes in let p : ℕ = c.loop-partition.partition in let e = c.in_ok-push-4.ensures.items in
    let all : c.loop-lane.lane ≡ lanes = (let a = c.loop-lane-test.false in let b = c.loop-lane.auto.lane-end in omega arith) in
    let ends = subst (λ (m : ℕ). AreFreshEnds lanes outboxes p m c.loop-lane.queues.items c.loop-lane.ends.items) all v.ends in record {
      count = (let n = v.count in omega arith);
      caps = v.caps;
      boxes = v.boxes;
      inboxes = subst (AreInboxes lanes outboxes (p + 1) c.loop-lane.queues.items) (sym e)
          (inboxes_grow lanes outboxes p c.loop-lane.queues.items c.loop-partition.inboxes.items record { partition = p; ends = c.loop-lane.ends } v.inboxes refl ends);
    }

pub returns-clause-opened : goal.returns-clause-opened
returns-clause-opened c = let v = c.loop-partition.invariant in let lanes : ℕ = c.args.lanes in let outboxes : ℕ = c.args.outboxes in let partitions : ℕ = c.args.partitions in let b = v.boxes in let n = v.inboxes in
    let all : c.loop-partition.partition ≡ partitions = (let x = c.loop-partition-test.false in let y = c.loop-partition.auto.partition-end in omega arith) in
    let many : length c.loop-partition.queues.items ≡ partitions * lanes = v.count ∙ ap (λ (m : ℕ). m * lanes) all in (
      refl,
      refl,
      b.many,
      n.many ∙ all,
      λ i o lt. (
        record {
          many = b.wide i o lt ∙ many;
          below = (let z = b.number i o lt in omega arith);
          tokens = λ p k l s pl kl. let f = b.stubs i p k o l s lt kl (let z = row_fits p partitions lanes k pl kl in omega arith) in (
            f.0,
            subst (λ (m : ℕ). view (get_or (get_or c.loop-partition.boxes.items i o).stubs.items (p * lanes + k) s).pass ≡ sender (place_of p k lanes outboxes) m
                (view (get_or (get_or c.loop-partition.boxes.items i o).stubs.items (p * lanes + k) s).pass).sent) (sym (b.number i o lt)) (f.1 ∙ (λ j. sender (place_of p k lanes outboxes) i (sym f.1 j).sent)),
          );
        },
        b.number i o lt,
        λ p k s pl kl. let inside : p * lanes + k < length c.loop-partition.queues.items = (let z = row_fits p partitions lanes k pl kl in omega arith) in
            let l : Queue = pick c.loop-partition.queues.items (p * lanes + k) inside in ap (λ (u : Trace). u.sent) (b.stubs i p k o l s lt kl inside).1,
      ),
      λ p x lt. let e = n.ends p x (omega arith) in (
        record {
          takes = record {
            many = e.many;
            below = (let z = n.partition p x (omega arith) in omega arith);
            tokens = λ k l s kl. let same = n.partition p x (omega arith) in let f = e.row k l s kl in
                subst (λ (m : ℕ). IsEndOf (place_of m k lanes outboxes) outboxes (get_or c.loop-partition.queues.items (m * lanes + k) l) (get_or (get_or c.loop-partition.inboxes.items p x).ends.items k s)) (sym same)
                (f.0, f.1 ∙ (λ j. taker (place_of p k lanes outboxes) outboxes (sym f.1 j).taken (sym f.1 j).known));
          };
          untold = fresh_untold lanes outboxes p c.loop-partition.queues.items (get_or c.loop-partition.inboxes.items p x).ends.items e
              (let f = row_fits p partitions lanes 0 lt (omega arith) in let z : 0 < length c.loop-partition.queues.items = omega arith in z);
        },
        n.partition p x (omega arith),
        λ k s kl. let inside : p * lanes + k < length c.loop-partition.queues.items = (let z = row_fits p partitions lanes k lt kl in omega arith) in
            let l : Queue = pick c.loop-partition.queues.items (p * lanes + k) inside in ap (λ (u : Trace). u.taken) (e.row k l s kl).1,
      ),
    )
