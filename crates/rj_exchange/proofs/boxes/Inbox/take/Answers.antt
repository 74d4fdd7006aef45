use Rattle.std.proofs.Common.{◌<◌, List, [], ◌∷◌, ◌++◌, map, length, set, ap, ◌∙◌, subst, refl, arith}
use Rattle.std.proofs.Math.Seq.{map-set_same}
use Rattle.crossbeam_queue.specs.Fifo.{Held}
use Rattle.rj_exchange.specs.declared.boxes.Stub.{Stub}
use Rattle.rj_exchange.specs.declared.queue.Trace.{Trace}
use Rattle.rj_exchange.specs.declared.posted.Posted.{Posted}
use Rattle.rj_exchange.specs.Passing.{Belongs, Left, Next}
use Rattle.rj_exchange.specs.Boxes.{taken_of}
use Rattle.rj_exchange.proofs.Stubs.{told}
use Rattle.rj_exchange.proofs.Taking.{IsAt, knows, still, untold, as_told}
use Rattle.rj_exchange.proofs.boxes.Inbox.take.Goals as goal

pub returns-clause-same : goal.returns-clause-same
returns-clause-same g c =
    let r = c.requires in let a = c.index-at.ensures in let h : IsAt _ _ _ _ _ _ = record { takes = r.0; within = r.1; place = a.0; inside = a.1; there = c.index.ensures; token = c.index_mut.ensures.value } in
    let s = still _ _ _ _ _ _ _ _ h refl refl c.take_at.ensures.end in (s.0, refl, s.1)

pub returns-clause-inbox : goal.returns-clause-inbox
returns-clause-inbox g c = let s = returns-clause-same g c in λ h. untold _ _ _ h (s.0, s.2)

pub returns-clause-heard : goal.returns-clause-heard
returns-clause-heard g c = let s = returns-clause-same g c in as_told _ _ _ (s.0, s.2)

pub returns-clause-taken : goal.returns-clause-taken
returns-clause-taken g c =
    let r = c.requires in let a = c.index-at.ensures in let x = c.args.exchange.now in let o = c.args.self.now in
    let old : Stub = c.index_mut.result.now in let new : Stub = c.take_at.new.end in let d = c.index_mut.ensures.value in let t = c.in_ok-posted.ensures.told in let posted : Posted = c.in_ok-posted.posted in
    let h : IsAt x o c.args.lane c.index-at.result c.index.result.now old = record { takes = r.0; within = r.1; place = a.0; inside = a.1; there = c.index.ensures; token = d } in
    let v = knows x o c.args.lane c.index-at.result c.index.result.now old h in
    let lt : c.args.lane < length o.ends.items = (let z = r.0.many in let y = r.1 in omega arith) in
    let S : List (List Posted) = map taken_of o.ends.items in (
      posted.outbox,
      told taken_of o.ends.items c.args.lane old new [] (taken_of old ++ posted ∷ []) lt d t.0 ∙ (λ i. set S c.args.lane ((v i).taken ++ posted ∷ [])),
      subst (λ (w : Trace). Belongs w.place posted) v t.1,
      subst (λ (w : Trace). Next w posted) v t.2,
    )

pub returns-in_err-posted-clause-same : goal.returns-in_err-posted-clause-same
returns-in_err-posted-clause-same g c =
    let r = c.requires in let a = c.index-at.ensures in let h : IsAt _ _ _ _ _ _ = record { takes = r.0; within = r.1; place = a.0; inside = a.1; there = c.index.ensures; token = c.index_mut.ensures.value } in
    let s = still _ _ _ _ _ _ _ _ h refl refl c.take_at.ensures.end in (s.0, refl, s.1)

pub returns-in_err-posted-clause-inbox : goal.returns-in_err-posted-clause-inbox
returns-in_err-posted-clause-inbox g c = let s = returns-in_err-posted-clause-same g c in λ h. untold _ _ _ h (s.0, s.2)

pub returns-in_err-posted-clause-heard : goal.returns-in_err-posted-clause-heard
returns-in_err-posted-clause-heard g c = let s = returns-in_err-posted-clause-same g c in as_told _ _ _ (s.0, s.2)

pub returns-in_err-posted-clause-taken : goal.returns-in_err-posted-clause-taken
returns-in_err-posted-clause-taken g c =
    let r = c.requires in let a = c.index-at.ensures in let x = c.args.exchange.now in let o = c.args.self.now in
    let old : Stub = c.index_mut.result.now in let new : Stub = c.take_at.new.end in let d = c.index_mut.ensures.value in let t = c.in_err-posted.ensures.told in
    let h : IsAt x o c.args.lane c.index-at.result c.index.result.now old = record { takes = r.0; within = r.1; place = a.0; inside = a.1; there = c.index.ensures; token = d } in
    let v = knows x o c.args.lane c.index-at.result c.index.result.now old h in
    rw c.from_residual.ensures (map-set_same taken_of o.ends.items c.args.lane new old (t.0 ∙ ap taken_of d), subst (λ (w : Trace). Held 0 (Left w)) v t.1)
