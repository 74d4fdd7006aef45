use Rattle.std.proofs.Common.{ℕ, ◌<◌, ◌++◌, List, get_or, set, sym, ap, ◌∙◌, subst, arith, All, length-set, get_or-set_same, get_or-set_other}
use mathlib.Core.Logic.{dite}
use native.Mathlib.Decide.{ℕ_discrete}
use Rattle.crossbeam_queue.specs.Passes.{view, ruled_capacity}
use Rattle.rj_exchange.specs.declared.boxes.Stub.{Stub}
use Rattle.rj_exchange.specs.Passing.{Belongs, Interleaves}
use Rattle.rj_exchange.specs.Boxes.{Queue, PostedVec, taken_of}
use Rattle.rj_exchange.specs.Internal.Ends.{IsTaker, IsRoom}
use Rattle.rj_exchange.proofs.Stubs.{any_default}
use Rattle.rj_exchange.proofs.boxes.ends.drain_all.Goals as goal

pub drain_at-requires-clause-end : goal.drain_at-requires-clause-end
drain_at-requires-clause-end g c =
    let v = c.loop-lane.invariant in let k : ℕ = c.loop-lane.lane in let old : Stub = c.index_mut.result.now in let room : PostedVec = c.index_mut-in-loop-lane.result.now in let queue : Queue = c.index.result.now in
    let lt : k < c.args.exchange.now.lanes = c.loop-lane-test.true in let mine = c.index_mut.ensures.value ∙ v.yet k old (omega arith) in let free = c.index_mut-in-loop-lane.ensures.value ∙ v.empty k room (omega arith) in
    let here = c.index.ensures ∙ ap (λ (m : ℕ). get_or c.args.exchange.now.queues.items m queue) c.index-at.ensures.0 in
    subst (λ (z : Stub × Queue). IsTaker (view z.0.pass).made z.1 z.0) (λ i. (sym mine i, sym here i)) (c.requires.ends.1 k queue old lt)

pub drain_at-requires-clause-room : goal.drain_at-requires-clause-room
drain_at-requires-clause-room g c =
    let v = c.loop-lane.invariant in let k : ℕ = c.loop-lane.lane in let old : Stub = c.index_mut.result.now in let room : PostedVec = c.index_mut-in-loop-lane.result.now in let queue : Queue = c.index.result.now in
    let lt : k < c.args.exchange.now.lanes = c.loop-lane-test.true in let mine = c.index_mut.ensures.value ∙ v.yet k old (omega arith) in let free = c.index_mut-in-loop-lane.ensures.value ∙ v.empty k room (omega arith) in
    let many = c.requires.rooms.0 in let r = subst (IsRoom c.args.exchange.now.capacity) (sym free) (c.requires.rooms.1 k room (omega arith)) in
    let cap = ap ruled_capacity c.index.ensures ∙ c.args.exchange.now.room c.index-at.result queue c.index-at.ensures.1 in (r.0, (let s = r.1 in omega arith))

pub loop-lane-preserved : goal.loop-lane-preserved
loop-lane-preserved g c = let v = c.loop-lane.invariant in let k : ℕ = c.loop-lane.lane in let old : Stub = c.index_mut.result.now in let room : PostedVec = c.index_mut-in-loop-lane.result.now in let queue : Queue = c.index.result.now in
    let lt : k < c.args.exchange.now.lanes = c.loop-lane-test.true in let mine = c.index_mut.ensures.value ∙ v.yet k old (omega arith) in let free = c.index_mut-in-loop-lane.ensures.value ∙ v.empty k room (omega arith) in
    let ends : List Stub = c.loop-lane.ends.items in let rest : List PostedVec = c.loop-lane.rest.items in let new : Stub = c.drain_at.new.end in let full : PostedVec = c.drain_at.new.room in
    let e = v.ends in let f = v.rooms in let were = c.requires.ends.0 in record {
      ends = length-set ends k new ∙ v.ends;
      rooms = length-set rest k full ∙ v.rooms;
      done = λ j s w below. dite (ℕ_discrete j k)
          (λ is.
          let a = mine ∙ any_default c.args.ends.now.items k old s (omega arith) ∙ ap (λ (m : ℕ). get_or c.args.ends.now.items m s) (sym is) in
          let b = sym (ap (λ (m : ℕ). get_or (set rest k full) m w) is ∙ get_or-set_same rest k full w (omega arith)) in
          subst (λ (z : Stub × PostedVec). Interleaves (view z.0.pass).known (taken_of z.0 ++ z.1.items)) (λ i. (a i, b i)) c.drain_at.ensures.all)
          (λ ne. subst (λ (z : PostedVec). Interleaves (view (get_or c.args.ends.now.items j s).pass).known (taken_of (get_or c.args.ends.now.items j s) ++ z.items)) (sym (get_or-set_other rest k j full w ne)) (v.done j s w (omega arith)));
      placed = λ j s w below. dite (ℕ_discrete j k)
          (λ is.
          let a = mine ∙ any_default c.args.ends.now.items k old s (omega arith) ∙ ap (λ (m : ℕ). get_or c.args.ends.now.items m s) (sym is) in
          let b = sym (ap (λ (m : ℕ). get_or (set rest k full) m w) is ∙ get_or-set_same rest k full w (omega arith)) in
          subst (λ (z : Stub × PostedVec). All (Belongs (view z.0.pass).place) z.1.items) (λ i. (a i, b i)) c.drain_at.ensures.placed)
          (λ ne. subst (λ (z : PostedVec). All (Belongs (view (get_or c.args.ends.now.items j s).pass).place) z.items) (sym (get_or-set_other rest k j full w ne)) (v.placed j s w (omega arith)));
      yet = λ j s le. get_or-set_other ends k j new s (λ is. omega arith) ∙ v.yet j s (omega arith);
      empty = λ j w le. get_or-set_other rest k j full w (λ is. omega arith) ∙ v.empty j w (omega arith);
    }

pub returns-clause-placed : goal.returns-clause-placed
returns-clause-placed g c = λ k s v lt. c.loop-lane.invariant.placed k s v (let a = c.loop-lane-test.false in omega arith)
