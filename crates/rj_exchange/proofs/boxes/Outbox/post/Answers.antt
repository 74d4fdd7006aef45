use Rattle.std.proofs.Common.{◌≡◌, ℕ, ◌<◌, ◌*◌, ◌+◌, ◌%◌, List, [], ◌∷◌, ◌++◌, map, length, get_or, set, sym, ap, ◌∙◌, subst, refl, arith, length-set}
use Rattle.std.proofs.Math.Seq.{map-set_same}
use Rattle.crossbeam_queue.specs.Passes.{view, ruled_capacity}
use Rattle.crossbeam_queue.specs.Fifo.{Held}
use Rattle.rj_exchange.specs.declared.boxes.Stub.{Stub}
use Rattle.rj_exchange.specs.declared.queue.Trace.{Trace}
use Rattle.rj_exchange.specs.declared.queue.Where.{Where}
use Rattle.rj_exchange.specs.declared.ledger.parcel.Parcel.{Parcel}
use Rattle.rj_exchange.specs.Passing.{HeldAt}
use Rattle.rj_exchange.specs.Boxes.{Queue, sent_of, where_at, queue_of, IsStubOf}
use Rattle.rj_exchange.proofs.Stubs.{kept, told, was}
use Rattle.rj_exchange.proofs.boxes.Outbox.post.Goals as goal

pub returns-in-Ok-clause-same : goal.returns-in-Ok-clause-same
returns-in-Ok-clause-same g c =
    let a = c.index-at.ensures in let b = c.index.ensures in let d = c.index_mut.ensures.value in let e = c.post_at.ensures.stub in let r = c.requires.0 in let x = c.args.exchange.now in let o = c.args.self.now in
    let at : ℕ = c.index-at.result in let old : Stub = c.index_mut.result.now in let new : Stub = c.post_at.new.stub in let queue : Queue = c.index.result.now in
    let n = x.sized in (
      record {
        many = length-set o.stubs.items at new ∙ r.many;
        below = r.below;
        tokens = λ p k l s pl kl. kept (IsStubOf (where_at x p k) o.number) x.queues.items o.stubs.items (p * x.lanes + k) at (p * x.lanes + k) at queue new a.1 (let z = r.many in let y = a.1 in omega arith) b (λ is. is)
            (λ is. let here = ap (λ (z : Stub). (view z.pass).place) d ∙ ap (λ (m : ℕ). (view (get_or o.stubs.items m old).pass).place) (sym is)
            ∙ ap (λ (v : Trace). v.place) (r.tokens p k queue old pl kl).1 in subst (λ w. IsStubOf w o.number queue new) here e)
            (λ l' s'. r.tokens p k l' s' pl kl)
            l s;
      },
      refl,
    )

pub returns-in-Ok-clause-sent : goal.returns-in-Ok-clause-sent
returns-in-Ok-clause-sent g c =
    let a = c.index-at.ensures in let b = c.index.ensures in let d = c.index_mut.ensures.value in let r = c.requires.0 in let x = c.args.exchange.now in let o = c.args.self.now in
    let at : ℕ = c.index-at.result in let old : Stub = c.index_mut.result.now in let new : Stub = c.post_at.new.stub in let queue : Queue = c.index.result.now in let n = x.sized in
    let lt : at < length o.stubs.items = (let z = r.many in let y = a.1 in omega arith) in let S : List (List Parcel) = map sent_of o.stubs.items in let Q : ℕ = queue_of x c.args.parcel in
    let q : at ≡ Q = a.0 ∙ ap (λ (m : ℕ). c.args.parcel.partition * x.lanes + c.args.parcel.number % m) c.from.ensures in
    let before : sent_of old ≡ get_or S Q [] = sym (was sent_of o.stubs.items at old [] lt d) ∙ ap (λ (m : ℕ). get_or S m []) q in
    told sent_of o.stubs.items at old new [] (sent_of old ++ c.args.parcel ∷ []) lt d c.in-Ok.ensures.told ∙ (λ i. set S (q i) (before i ++ c.args.parcel ∷ []))

pub returns-in-Err-clause-same : goal.returns-in-Err-clause-same
returns-in-Err-clause-same g c =
    let a = c.index-at.ensures in let b = c.index.ensures in let d = c.index_mut.ensures.value in let e = c.post_at.ensures.stub in let r = c.requires.0 in let x = c.args.exchange.now in let o = c.args.self.now in
    let at : ℕ = c.index-at.result in let old : Stub = c.index_mut.result.now in let new : Stub = c.post_at.new.stub in let queue : Queue = c.index.result.now in
    let n = x.sized in (
      record {
        many = length-set o.stubs.items at new ∙ r.many;
        below = r.below;
        tokens = λ p k l s pl kl. kept (IsStubOf (where_at x p k) o.number) x.queues.items o.stubs.items (p * x.lanes + k) at (p * x.lanes + k) at queue new a.1 (let z = r.many in let y = a.1 in omega arith) b (λ is. is)
            (λ is. let here = ap (λ (z : Stub). (view z.pass).place) d ∙ ap (λ (m : ℕ). (view (get_or o.stubs.items m old).pass).place) (sym is)
            ∙ ap (λ (v : Trace). v.place) (r.tokens p k queue old pl kl).1 in subst (λ w. IsStubOf w o.number queue new) here e)
            (λ l' s'. r.tokens p k l' s' pl kl)
            l s;
      },
      refl,
    )

pub returns-in-Err-clause-sent : goal.returns-in-Err-clause-sent
returns-in-Err-clause-sent g c =
    let a = c.index-at.ensures in let b = c.index.ensures in let d = c.index_mut.ensures.value in let r = c.requires.0 in let x = c.args.exchange.now in let o = c.args.self.now in
    let at : ℕ = c.index-at.result in let old : Stub = c.index_mut.result.now in let new : Stub = c.post_at.new.stub in let queue : Queue = c.index.result.now in let n = x.sized in
    let lt : at < length o.stubs.items = (let z = r.many in let y = a.1 in omega arith) in let S : List (List Parcel) = map sent_of o.stubs.items in let Q : ℕ = queue_of x c.args.parcel in
    let q : at ≡ Q = a.0 ∙ ap (λ (m : ℕ). c.args.parcel.partition * x.lanes + c.args.parcel.number % m) c.from.ensures in
    let before : sent_of old ≡ get_or S Q [] = sym (was sent_of o.stubs.items at old [] lt d) ∙ ap (λ (m : ℕ). get_or S m []) q in
    let t = c.in-Err.ensures.told in let lane : ℕ = c.args.parcel.number % x.lanes in
    let is : c.args.parcel.partition * x.lanes + lane ≡ at = sym q in
    let here = ap (λ (z : Stub). (view z.pass).place) d ∙ ap (λ (m : ℕ). (view (get_or o.stubs.items m old).pass).place) (sym is)
    ∙ ap (λ (v : Trace). v.place) (r.tokens c.args.parcel.partition lane queue old c.requires.1 (let z = x.limits in omega arith)).1 in
    let cap : ruled_capacity queue ≡ x.capacity = ap ruled_capacity b ∙ x.room at queue a.1 in (
      ap (λ z. z.parcel) t.0,
      map-set_same sent_of o.stubs.items at new old (t.1 ∙ ap sent_of d),
      subst (λ (z : ℕ × Where × List Parcel). Held z.0 (HeldAt z.1 o.number z.2)) (λ i. (cap i, here i, before i)) t.2,
    )
