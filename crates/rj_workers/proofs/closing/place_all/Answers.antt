use Rattle.std.proofs.Common.{◌∙◌, List, Vec, Global, arith}
use Rattle.std.specs.Vec.Iter.{into_iter_items}
use Rattle.rj_exchange.specs.declared.boxes.Exchange.{Exchange}
use Rattle.rj_workers.specs.declared.take.OwnedPartition.{OwnedPartition}
use Rattle.rj_workers.specs.Internal.Takes.{Builds}
use Rattle.rj_workers.proofs.Placed.{group_of, slot_stays}
use Rattle.rj_workers.proofs.Posts.{next_is, next_len}
use Rattle.rj_workers.proofs.closing.place_all.Goals as goal

pub place_group-requires : goal.place_group-requires
place_group-requires g c =
    let shared = c.args.shared.now in let v = c.loop-group.invariant in let len = v.len in
    let zs : List (Vec (OwnedPartition _) Global) = into_iter_items c.next.new.self in
    let owned = group_of (g.J.Job.builds shared.job.now) shared.exchange.now shared.settings.workers shared.settings.block c.loop-group.yielded (into_iter_items c.loop-group.group-iterator)
    zs c.args.groups.items c.in-Some.group c.in-Some.ensures.steps.0 v.rest c.requires in
    λ i d lt. let below = (owned i d lt).taking.0.takes.below in omega arith

pub loop-group-preserved : goal.loop-group-preserved
loop-group-preserved g c =
    let shared = c.args.shared.now in let v = c.loop-group.invariant in let len = v.len in let placed = c.place_group.ensures in
    let builds : Builds _ = g.J.Job.builds shared.job.now in let e : Exchange = shared.exchange.now in
    let xs : List (Vec (OwnedPartition _) Global) = c.loop-group.yielded in let ys : List (Vec (OwnedPartition _) Global) = into_iter_items c.loop-group.group-iterator in
    let zs : List (Vec (OwnedPartition _) Global) = into_iter_items c.next.new.self in let x : Vec (OwnedPartition _) Global = c.in-Some.group in let steps = c.in-Some.ensures.steps in
    let owned = group_of builds e shared.settings.workers shared.settings.block xs ys zs c.args.groups.items x steps.0 v.rest c.requires in record {
      rest = next_is xs ys zs c.args.groups.items x steps.0 v.rest;
      rest_len = next_len ys zs x _ _ steps.0 v.rest_len steps.1;
      len = placed.0 ∙ len;
      each = λ p d lt. slot_stays builds e shared.settings.workers shared.settings.block x.items c.loop-group.slots.items c.place_group.new.slots.items p d (omega arith) owned placed (v.each p d lt);
    }
