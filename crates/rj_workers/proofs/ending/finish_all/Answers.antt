use Rattle.std.proofs.Common.{◌≡◌, ◌<◌, ◌≤◌, ◌+◌, ◌*◌, ◌++◌, ◌∷◌, [], ℕ, List, Option, Some, Global, length, map, get_or, drop, sym, ap, ◌∙◌, subst, refl, rules, arith, length-append}
use Rattle.std.proofs.lemmas.List.{length-map, get_or_at}
use Rattle.std.specs.Vec.Iter.{into_iter_items}
use Rattle.std.specs.declared.vec.IntoIter.{IntoIter}
use Rattle.rj_exchange.specs.Ledgers.{opened, after_all}
use Rattle.rj_exchange.specs.declared.boxes.Stub.{Stub}
use Rattle.rj_exchange.specs.declared.boxes.Outbox.{Outbox}
use Rattle.rj_exchange.specs.declared.boxes.Exchange.{Exchange}
use Rattle.rj_exchange.specs.Boxes.{AreStubsOf}
use Rattle.rj_workers.specs.declared.take.OwnedPartition.{OwnedPartition}
use Rattle.rj_workers.specs.declared.ending.EndedPartition.{EndedPartition}
use Rattle.rj_workers.specs.Arrivals.{AreFirstOf, IsFilled, stub_lists}
use Rattle.rj_workers.specs.Internal.Takes.{Builds, IsBuilding, IsOwnedOf, IsSlot}
use Rattle.rj_workers.specs.Internal.Ends.{IsEnded}
use Rattle.rj_workers.proofs.Posts.{next_is, next_len, nothing_left}
use Rattle.rj_workers.proofs.Parts.{are_stubs, partition_of, left_room, left_more, more_each}
use Rattle.rj_workers.proofs.ending.finish_all.Goals as goal

-- the slot that comes next
slot_at : {T : Type 0} (builds : Builds T) (e : Exchange) (count block : ℕ) (xs ys zs all : List (Option (OwnedPartition T))) (x : Option (OwnedPartition T)) (h : OwnedPartition T) → ys ≡ x ∷ zs → xs ++ ys ≡ all → x ≡ Some h → length all ≡ e.partitions
    → ((p : ℕ) (d : Option (OwnedPartition T)) → p < e.partitions → IsSlot builds e count block p (get_or all p d))
    → (length xs < e.partitions) × (h.inbox.partition ≡ length xs) × IsOwnedOf builds e count block h
slot_at builds e count block xs ys zs all x h is parts one len each =
    let whole : xs ++ (x ∷ zs) ≡ all = ap (λ (l : List (Option (OwnedPartition _))). xs ++ l) (sym is) ∙ parts in
    let there : get_or all (length xs) x ≡ Some h = ap (λ (l : List (Option (OwnedPartition _))). get_or l (length xs) x) (sym whole) ∙ get_or_at xs x zs x (length xs) refl ∙ one in
    let n = ap length whole in let m = length-append xs (x ∷ zs) in let lt : length xs < e.partitions = omega arith in
    let here = subst (λ (o : Option (OwnedPartition _)). IsSlot builds e count block (length xs) o) there (each (length xs) x lt) in (lt, here.0, here.1)

pub next_stubs-requires : goal.next_stubs-requires
next_stubs-requires g c =
    let v = c.loop-slot.invariant in let e : Exchange = c.args.shared.now.exchange.now in
    let s = slot_at (g.J.Job.builds c.args.shared.now.job.now) c.args.shared.now.exchange.now c.args.shared.now.settings.workers c.args.shared.now.settings.block c.loop-slot.yielded
    (into_iter_items c.loop-slot.slot-iterator)
    (into_iter_items c.next.new.self) c.args.slots.items c.in-Some.slot c.in-Some-slot.held c.in-Some.ensures.steps.0 c.loop-slot.invariant.rest c.in-Some-slot.is c.requires.slots.0 c.requires.slots.1 in
    let old : List (IntoIter Stub Global) = c.loop-slot.lists.items in
    λ o d lt. subst (λ (n : ℕ). n ≤ length (into_iter_items (get_or old o d))) (sym c.lanes.ensures) (left_room into_iter_items e c.args.outboxes.items (length c.loop-slot.yielded) old old c.requires.outboxes v.many v.left s.0 o d lt)

pub finish_one-requires-clause-held : goal.finish_one-requires-clause-held
finish_one-requires-clause-held g c =
    (slot_at (g.J.Job.builds c.args.shared.now.job.now) c.args.shared.now.exchange.now c.args.shared.now.settings.workers c.args.shared.now.settings.block c.loop-slot.yielded
    (into_iter_items c.loop-slot.slot-iterator)
    (into_iter_items c.next.new.self) c.args.slots.items c.in-Some.slot c.in-Some-slot.held c.in-Some.ensures.steps.0 c.loop-slot.invariant.rest c.in-Some-slot.is c.requires.slots.0 c.requires.slots.1).2

pub finish_one-requires-clause-stubs : goal.finish_one-requires-clause-stubs
finish_one-requires-clause-stubs g c =
    let v = c.loop-slot.invariant in let e : Exchange = c.args.shared.now.exchange.now in
    let s = slot_at (g.J.Job.builds c.args.shared.now.job.now) c.args.shared.now.exchange.now c.args.shared.now.settings.workers c.args.shared.now.settings.block c.loop-slot.yielded
    (into_iter_items c.loop-slot.slot-iterator)
    (into_iter_items c.next.new.self) c.args.slots.items c.in-Some.slot c.in-Some-slot.held c.in-Some.ensures.steps.0 c.loop-slot.invariant.rest c.in-Some-slot.is c.requires.slots.0 c.requires.slots.1 in
    let old : List (IntoIter Stub Global) = c.loop-slot.lists.items in let ss : List Stub = c.in_ok-stubs.stubs.items in let L : List (List Stub) = map into_iter_items old in
    let len : length L ≡ e.outboxes = length-map old into_iter_items ∙ v.many in
    let first = subst (λ (n : ℕ). AreFirstOf n L ss) c.lanes.ensures c.in_ok-stubs.ensures.stubs in
    subst (λ (p : ℕ). AreStubsOf e p ss) (sym s.1) (are_stubs e c.args.outboxes.items (length c.loop-slot.yielded) L ss c.requires.outboxes len first v.left s.0)

pub loop-slot-preserved : goal.loop-slot-preserved
loop-slot-preserved g c =
    let v = c.loop-slot.invariant in let e : Exchange = c.args.shared.now.exchange.now in let ys : List (Option (OwnedPartition _)) = into_iter_items c.loop-slot.slot-iterator in let zs : List (Option (OwnedPartition _)) = into_iter_items c.next.new.self in
    let all : List (Option (OwnedPartition _)) = c.args.slots.items in let x : Option (OwnedPartition _) = c.in-Some.slot in let h : OwnedPartition _ = c.in-Some-slot.held in
    let xs : List (Option (OwnedPartition _)) = c.loop-slot.yielded in let os : List Outbox = c.args.outboxes.items in
    let steps = c.in-Some.ensures.steps in
    let s = slot_at (g.J.Job.builds c.args.shared.now.job.now) c.args.shared.now.exchange.now c.args.shared.now.settings.workers c.args.shared.now.settings.block c.loop-slot.yielded
    (into_iter_items c.loop-slot.slot-iterator)
    (into_iter_items c.next.new.self) c.args.slots.items c.in-Some.slot c.in-Some-slot.held c.in-Some.ensures.steps.0 c.loop-slot.invariant.rest c.in-Some-slot.is c.requires.slots.0 c.requires.slots.1 in
    let builds : Builds _ = g.J.Job.builds c.args.shared.now.job.now in let senders : ℕ = c.args.shared.now.settings.workers + c.args.shared.now.settings.workers in let block : ℕ = c.args.shared.now.settings.block in
    let old : List (IntoIter Stub Global) = c.loop-slot.lists.items in let new : List (IntoIter Stub Global) = c.next_stubs.new.lists.items in let ss : List Stub = c.in_ok-stubs.stubs.items in
    let L : List (List Stub) = map into_iter_items old in
    let len : length L ≡ e.outboxes = length-map old into_iter_items ∙ v.many in
    let first = subst (λ (n : ℕ). AreFirstOf n L ss) c.lanes.ensures c.in_ok-stubs.ensures.stubs in
    let long : length (xs ++ x ∷ []) ≡ length xs + 1 = length-append xs (x ∷ []) in
    let f = c.in_ok-ended.ensures in let one : EndedPartition _ = c.in_ok-ended.ended in let a = f.arrived in
    let filled : IsFilled senders block e.outboxes e.lanes (stub_lists os) (length xs) one.ledger =
    (a.0, partition_of e os (length xs) L ss c.requires.outboxes len first v.left s.0 a.0 a.1, a.2 ∙ ap (λ (p : ℕ). after_all (opened p senders block) a.0) s.1) in
    let now : IsEnded builds senders block e (stub_lists os) (length xs) one = record { filled = filled; number = f.number ∙ s.1; built = subst (λ (p : ℕ). IsBuilding builds p one.ledger one.building) s.1 f.built } in
    let step = subst (λ (n : ℕ). (o : ℕ) (d : IntoIter Stub Global) → o < length old → into_iter_items (get_or new o d) ≡ drop n (into_iter_items (get_or old o d))) c.lanes.ensures c.in_ok-stubs.ensures.lists in
    let pushed = c.in_ok-push.ensures.items in
    let P : ℕ → EndedPartition _ → Type 0 = λ p w. IsEnded builds senders block e (stub_lists os) p w in
    let done : List (EndedPartition _) = c.loop-slot.all.items in record {
      rest = next_is xs ys zs all x steps.0 v.rest;
      rest_len = next_len ys zs x _ _ steps.0 v.rest_len steps.1;
      many = c.in_ok-stubs.ensures.len ∙ v.many;
      left = left_more into_iter_items e os (length xs) old new c.requires.outboxes v.many v.left c.in_ok-stubs.ensures.len step (length (xs ++ x ∷ [])) long;
      len = ap length pushed ∙ length-append done (one ∷ []) ∙ (let l = v.len in let q : length done + 1 ≡ length xs + 1 = omega arith in q) ∙ sym long;
      each = subst (λ (l : List (EndedPartition _)). (p : ℕ) (d : EndedPartition _) → p < length (xs ++ x ∷ []) → P p (get_or l p d)) (sym pushed)
          (subst (λ (n : ℕ). (p : ℕ) (d : EndedPartition _) → p < n → P p (get_or (done ++ one ∷ []) p d)) (sym long) (more_each P done one (length xs) v.len v.each now));
    }

pub returns-clause-each : goal.returns-clause-each
returns-clause-each g c =
    let v = c.loop-slot.invariant in
    let end = ap length (nothing_left c.loop-slot.yielded (into_iter_items c.loop-slot.slot-iterator) c.args.slots.items _ c.in-None.ensures.steps.0 v.rest_len v.rest) ∙ c.requires.slots.0 in
    λ p d lt. v.each p d (omega arith)

pub loop-slot-init : goal.loop-slot-init
loop-slot-init g c =
    let e : Exchange = c.args.shared.now.exchange.now in let lists : List (IntoIter Stub Global) = c.in_ok-lists.lists.items in let os : List Outbox = c.args.outboxes.items in
    let none : 0 * e.lanes ≡ 0 = grind arith in record {
      rest = search rules;
      rest_len = search rules;
      many = sym (length-map lists into_iter_items) ∙ ap length c.in_ok-lists.ensures ∙ length-map os (λ (o : Outbox). o.stubs.items) ∙ c.requires.outboxes.0;
      left = λ o lt. ap (λ (l : List (List Stub)). get_or l o []) c.in_ok-lists.ensures ∙ ap (λ (n : ℕ). drop n (get_or (stub_lists os) o [])) (sym none);
      len = ap length c.new-all.ensures.items;
      each = λ p d lt. absurd (omega arith);
    }
