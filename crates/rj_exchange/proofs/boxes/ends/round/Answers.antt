use Rattle.std.proofs.Common.{◌≡◌, ℕ, suc, ◌<◌, ◌*◌, ◌+◌, List, length, get_or, set, sym, ap, ◌∙◌, subst, arith, length-set, get_or-set_same, get_or-set_other}
use mathlib.Core.Logic.{dite}
use native.Mathlib.Decide.{ℕ_discrete}
use Rattle.std.specs.Vec.Iter.{into_iter_items}
use Rattle.crossbeam_queue.specs.Passes.{view}
use Rattle.rj_exchange.specs.declared.boxes.Stub.{Stub}
use Rattle.rj_exchange.specs.Boxes.{Queue, IsStubOf}
use Rattle.rj_exchange.specs.Internal.Ends.{IsGrown}
use Rattle.rj_exchange.proofs.Stubs.{any_default}
use Rattle.rj_exchange.proofs.boxes.ends.round.Goals as goal

pub give_back_at-requires-clause-stub : goal.give_back_at-requires-clause-stub
give_back_at-requires-clause-stub c = let v = c.loop-lane.invariant in let k : ℕ = c.loop-lane.lane in let x : Stub = c.in-Some.stub in let old : Stub = c.index_mut.result.now in let queue : Queue = c.index.result.now in
    let lt : k < c.args.exchange.now.lanes = c.loop-lane-test.true in
    let first = sym (ap (λ l. get_or l 0 x) c.in-Some.ensures.items) ∙ v.later.1 0 x ∙ ap (λ (m : ℕ). get_or (into_iter_items c.args.stubs.now) m x) (let Z : Type 0 = k + 0 ≡ k in let z : Z = omega arith in z) in
    let here = c.index.ensures ∙ ap (λ (m : ℕ). get_or c.args.exchange.now.queues.items m queue) c.index-at.ensures.0 in
    let mine = c.index_mut.ensures.value ∙ v.yet k old (omega arith) in let count = ap (λ (s : Stub). length (view s.pass).known) mine ∙ (c.requires.ends.1 k queue old lt).2 in
    subst (λ (z : Stub × Queue × ℕ). IsStubOf (view z.0.pass).place z.2 z.1 z.0) (λ i. (sym first i, sym here i, sym count i)) (c.requires.stubs.1 k queue x lt)

pub loop-lane-preserved : goal.loop-lane-preserved
loop-lane-preserved c = let v = c.loop-lane.invariant in let k : ℕ = c.loop-lane.lane in let x : Stub = c.in-Some.stub in let old : Stub = c.index_mut.result.now in
    let new : Stub = c.give_back_at.new.end in let queue : Queue = c.index.result.now in
    let lt : k < c.args.exchange.now.lanes = c.loop-lane-test.true in let all : List Stub = into_iter_items c.args.stubs.now in let qs : List Queue = c.args.exchange.now.queues.items in let ends : List Stub = c.loop-lane.ends.items in
    let items = c.in-Some.ensures.items in
    let first = sym (ap (λ l. get_or l 0 x) items) ∙ v.later.1 0 x ∙ ap (λ (m : ℕ). get_or all m x) (let Z : Type 0 = k + 0 ≡ k in let z : Z = omega arith in z) in
    let at = c.index-at.ensures in let mine = c.index_mut.ensures.value ∙ v.yet k old (omega arith) in let many = v.many in let more = v.later.0 in let rest = c.requires.stubs.0 in let were = c.requires.ends.0 in record {
      many = length-set ends k new ∙ v.many;
      later = ((let l = ap length items in omega arith), λ i d. ap (λ l. get_or l (suc i) d) (sym items) ∙ v.later.1 (suc i) d ∙ ap (λ (m : ℕ). get_or all m d) (let Z : Type 0 = k + suc i ≡ k + 1 + i in let z : Z = omega arith in z));
      done = λ j q s t u below. dite (ℕ_discrete j k)
          (λ e.
          let a = c.index.ensures ∙ any_default qs c.index-at.result queue q at.1 ∙ ap (λ (m : ℕ). get_or qs m q) (at.0 ∙ ap (λ (m : ℕ). c.args.partition * c.args.exchange.now.lanes + m) (sym e)) in
          let b = mine ∙ any_default c.args.ends.now.items k old s (omega arith) ∙ ap (λ (m : ℕ). get_or c.args.ends.now.items m s) (sym e) in
          let d = first ∙ any_default all k x t (omega arith) ∙ ap (λ (m : ℕ). get_or all m t) (sym e) in
          let f = sym (ap (λ (m : ℕ). get_or (set ends k new) m u) e ∙ get_or-set_same ends k new u (omega arith)) in
          subst (λ (z : Queue × Stub × Stub × Stub). IsGrown z.0 z.1 z.2 z.3) (λ i. (a i, b i, d i, f i)) c.give_back_at.ensures)
          (λ ne. subst (λ (z : Stub). IsGrown (get_or qs (c.args.partition * c.args.exchange.now.lanes + j) q) (get_or c.args.ends.now.items j s) (get_or all j t) z)
          (sym (get_or-set_other ends k j new u ne)) (v.done j q s t u (omega arith)));
      yet = λ j s le. get_or-set_other ends k j new s (λ e. omega arith) ∙ v.yet j s (omega arith);
    }

pub returns-clause-ends : goal.returns-clause-ends
returns-clause-ends c = let v = c.loop-lane.invariant in (v.many, λ k l s t u lt. v.done k l s t u (let f = c.loop-lane-test.false in omega arith))
