use Rattle.std.proofs.Common.{List, Option, length, subst}
use Rattle.std.specs.Vec.Iter.{into_iter_items}
use Rattle.rj_workers.specs.declared.take.OwnedPartition.{OwnedPartition}
use Rattle.rj_workers.specs.Internal.Ends.{ArePlaced}
use Rattle.rj_workers.proofs.Placed.{place_fits, placed_more}
use Rattle.rj_workers.proofs.Posts.{next_is, next_len, nothing_left}
use Rattle.rj_workers.proofs.closing.place_group.Goals as goal

pub loop-held-preserved : goal.loop-held-preserved
loop-held-preserved g c =
    let v = c.loop-held.invariant in let xs : List (OwnedPartition _) = c.loop-held.yielded in let ys : List (OwnedPartition _) = into_iter_items c.loop-held.held-iterator in
    let zs : List (OwnedPartition _) = into_iter_items c.next.new.self in let all : List (OwnedPartition _) = c.args.group.items in
    let x : OwnedPartition _ = c.in-Some.held in let steps = c.in-Some.ensures.steps in let slots : List (Option (OwnedPartition _)) = c.loop-held.slots.items in
    let below = place_fits xs ys zs all x (length c.args.slots.now.items) steps.0 v.rest c.requires in record {
      rest = next_is xs ys zs all x steps.0 v.rest;
      rest_len = next_len ys zs x _ _ steps.0 v.rest_len steps.1;
      placed = placed_more xs x c.args.slots.now.items slots c.place.new.slot c.partition-at.result below c.partition-at.ensures c.place.ensures v.placed;
    }

pub returns : goal.returns
returns g c =
    let v = c.loop-held.invariant in
    let whole = nothing_left c.loop-held.yielded (into_iter_items c.loop-held.held-iterator) c.args.group.items _ c.in-None.ensures.steps.0 v.rest_len v.rest in
    subst (λ l. ArePlaced l c.args.slots.now.items c.loop-held.slots.items) whole v.placed
