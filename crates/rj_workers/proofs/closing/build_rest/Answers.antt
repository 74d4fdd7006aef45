use Rattle.std.proofs.Common.{◌≡◌, ◌<◌, ◌+◌, ◌++◌, ◌∷◌, [], ℕ, List, length, get_or, sym, subst, arith, length-append}
use Rattle.std.specs.Vec.Iter.{into_iter_items}
use Rattle.rj_workers.specs.declared.ending.EndedPartition.{EndedPartition}
use Rattle.rj_workers.specs.Posts.{Due}
use Rattle.rj_workers.specs.Arrivals.{IsDelivered, due_lists, rows_by_sender}
use Rattle.rj_workers.specs.Internal.Takes.{Builds, IsBuilding}
use Rattle.rj_workers.specs.Internal.Ends.{IsSettled}
use Rattle.rj_workers.proofs.Posts.{next_is, next_len, next_at}
use Rattle.rj_workers.proofs.Parts.{kept_each, kept_len}
use Rattle.rj_workers.proofs.Wholes.{delivered_rows}
use Rattle.rj_workers.proofs.closing.build_rest.Goals as goal

-- the partition that comes next
ended_at : {T : Type 0} (builds : Builds T) (due : Due) (senders n : ℕ) (xs ys zs all : List (EndedPartition T)) (x : EndedPartition T) → ys ≡ x ∷ zs → xs ++ ys ≡ all → length all ≡ n
    → ((p : ℕ) (d : EndedPartition T) → p < n → IsSettled builds due senders p (get_or all p d)) → (length xs < n) × IsSettled builds due senders (length xs) x
ended_at builds due senders n xs ys zs all x is parts len each =
    let f = next_at xs ys zs all x is parts in let lt : length xs < n = (let l = f.0 in omega arith) in (lt, subst (IsSettled builds due senders (length xs)) f.1 (each (length xs) x lt))

pub build_one-requires-clause-senders : goal.build_one-requires-clause-senders
build_one-requires-clause-senders g c =
    let s = ended_at (g.J.Job.builds c.args.job.now) (g.J.Job.due c.args.job.now) (g.J.Job.stripes c.args.job.now + g.J.Job.stripes c.args.job.now)
    (g.J.Job.partitions c.args.job.now) c.loop-ended.yielded (into_iter_items c.loop-ended.ended-iterator)
    (into_iter_items c.next.new.self) c.args.all.items c.in-Some.ended c.in-Some.ensures.steps.0 c.loop-ended.invariant.rest c.requires.len c.requires.each in
    s.1.delivered.senders

pub build_one-requires-clause-rows : goal.build_one-requires-clause-rows
build_one-requires-clause-rows g c =
    let due : Due = g.J.Job.due c.args.job.now in let senders : ℕ = g.J.Job.stripes c.args.job.now + g.J.Job.stripes c.args.job.now in
    let s = ended_at (g.J.Job.builds c.args.job.now) due senders (g.J.Job.partitions c.args.job.now) c.loop-ended.yielded (into_iter_items c.loop-ended.ended-iterator)
    (into_iter_items c.next.new.self) c.args.all.items c.in-Some.ended c.in-Some.ensures.steps.0 c.loop-ended.invariant.rest c.requires.len c.requires.each in
    subst (g.J.Job.joinable c.args.job.now) (sym (delivered_rows due senders (length c.loop-ended.yielded) c.in-Some.ended.ledger s.1.delivered)) (c.requires.due (length c.loop-ended.yielded) s.0)

pub build_one-requires-clause-built : goal.build_one-requires-clause-built
build_one-requires-clause-built g c =
    let s = ended_at (g.J.Job.builds c.args.job.now) (g.J.Job.due c.args.job.now) (g.J.Job.stripes c.args.job.now + g.J.Job.stripes c.args.job.now)
    (g.J.Job.partitions c.args.job.now) c.loop-ended.yielded (into_iter_items c.loop-ended.ended-iterator)
    (into_iter_items c.next.new.self) c.args.all.items c.in-Some.ended c.in-Some.ensures.steps.0 c.loop-ended.invariant.rest c.requires.len c.requires.each in
    subst (λ (p : ℕ). IsBuilding (g.J.Job.builds c.args.job.now) p c.in-Some.ended.ledger c.in-Some.ended.building) (sym s.1.number) s.1.built

pub loop-ended-preserved : goal.loop-ended-preserved
loop-ended-preserved g c =
    let v = c.loop-ended.invariant in let steps = c.in-Some.ensures.steps in
    let due : Due = g.J.Job.due c.args.job.now in let builds : Builds _ = g.J.Job.builds c.args.job.now in let senders : ℕ = g.J.Job.stripes c.args.job.now + g.J.Job.stripes c.args.job.now in
    let xs : List (EndedPartition _) = c.loop-ended.yielded in let ys : List (EndedPartition _) = into_iter_items c.loop-ended.ended-iterator in let zs : List (EndedPartition _) = into_iter_items c.next.new.self in let x : EndedPartition _ = c.in-Some.ended in
    let s = ended_at builds due senders (g.J.Job.partitions c.args.job.now) xs ys zs c.args.all.items x steps.0 v.rest c.requires.len c.requires.each in
    let long : length (xs ++ x ∷ []) ≡ length xs + 1 = length-append xs (x ∷ []) in
    let r = c.in_ok-ledger.ensures in let p : ℕ = length xs in
    let here : IsDelivered due senders p c.in_ok-ledger.ledger = subst (IsDelivered due senders p) (sym r.ledger) s.1.delivered in
    let kept = subst (λ (rows : List (List ℕ)). builds p rows c.in_ok-ledger.one) (delivered_rows due senders p x.ledger s.1.delivered)
    (subst (λ (q : ℕ). builds q (rows_by_sender x.ledger) c.in_ok-ledger.one) s.1.number r.built) in record {
      rest = next_is xs ys zs c.args.all.items x steps.0 v.rest;
      rest_len = next_len ys zs x _ _ steps.0 v.rest_len steps.1;
      ledgers_len = kept_len c.loop-ended.ledgers.items c.push.new.self.items c.in_ok-ledger.ledger p (length (xs ++ x ∷ [])) c.in_ok-push.ensures.items v.ledgers_len long;
      built_len = kept_len c.loop-ended.built.items c.push-in-loop-ended.new.self.items c.in_ok-ledger.one p (length (xs ++ x ∷ [])) c.in_ok-push-2.ensures.items v.built_len long;
      delivered = kept_each c.loop-ended.ledgers.items c.push.new.self.items c.in_ok-ledger.ledger p (length (xs ++ x ∷ [])) c.in_ok-push.ensures.items v.ledgers_len long (λ q w. IsDelivered due senders q w) v.delivered here;
      built = kept_each c.loop-ended.built.items c.push-in-loop-ended.new.self.items c.in_ok-ledger.one p (length (xs ++ x ∷ [])) c.in_ok-push-2.ensures.items v.built_len long (λ q w. builds q (due_lists due senders q) w) v.built kept;
    }
