use Rattle.std.proofs.Common.{List}
use Rattle.std.specs.Vec.Iter.{into_iter_items}
use Rattle.rj_exchange.specs.declared.tickets.Seat.{Seat}
use Rattle.rj_workers.specs.declared.take.Taker.{Taker}
use Rattle.rj_workers.specs.Internal.Takes.{OwnsNothing}
use Rattle.rj_workers.proofs.Dealt.{dealt_all, dealt_more}
use Rattle.rj_workers.proofs.Parts.{all_kept}
use Rattle.rj_workers.proofs.Posts.{next_is, next_len}
use Rattle.rj_workers.proofs.workers.make_takers.Goals as goal

pub loop-draws-preserved : goal.loop-draws-preserved
loop-draws-preserved g c =
    let v = c.loop-draws.invariant in let xs : List Seat = c.loop-draws.yielded in
    let ys : List Seat = into_iter_items c.loop-draws.draws-iterator in let zs : List Seat = into_iter_items c.next.new.self in
    let x : Seat = c.in-Some.draws in let steps = c.in-Some.ensures.steps in
    let old : List (Taker _) = c.loop-draws.takers.items in let now : List (Taker _) = c.push.new.self.items in let pushed = c.in_ok-push.ensures.items in
    let new : Taker _ = record { all = c.new.result; seat = c.in-Some-next.seat; done_seat = c.in-Some-next-2.done_seat; draws = x } in record {
      rest = next_is xs ys zs _ x steps.0 v.rest;
      rest_len = next_len ys zs x _ _ steps.0 v.rest_len steps.1;
      draws = dealt_all (λ (t : Taker _). t.draws) old now new xs pushed v.draws;
      seats = dealt_more (λ (t : Taker _). t.seat) old now new _ _ _ pushed c.in-Some-next.ensures.items v.seats;
      done_seats = dealt_more (λ (t : Taker _). t.done_seat) old now new _ _ _ pushed c.in-Some-next-2.ensures.items v.done_seats;
      empty = all_kept old now new pushed OwnsNothing v.empty c.new.ensures.items;
    }
