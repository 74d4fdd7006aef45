use Rattle.std.proofs.Common.{List}
use Rattle.std.specs.Vec.Iter.{into_iter_items}
use Rattle.rj_exchange.specs.declared.boxes.Outbox.{Outbox}
use Rattle.rj_workers.specs.declared.scan.Scanner.{Scanner}
use Rattle.rj_workers.proofs.Dealt.{dealt_all, dealt_more}
use Rattle.rj_workers.proofs.Posts.{next_is, next_len}
use Rattle.rj_workers.proofs.workers.make_scanners.Goals as goal

pub loop-outbox-preserved : goal.loop-outbox-preserved
loop-outbox-preserved c =
    let v = c.loop-outbox.invariant in let xs : List Outbox = c.loop-outbox.yielded in
    let ys : List Outbox = into_iter_items c.loop-outbox.outbox-iterator in let zs : List Outbox = into_iter_items c.next.new.self in
    let x : Outbox = c.in-Some.outbox in let steps = c.in-Some.ensures.steps in
    let old : List Scanner = c.loop-outbox.scanners.items in let now : List Scanner = c.push.new.self.items in let pushed = c.in_ok-push.ensures.items in
    let new : Scanner = record { outbox = x; seat = c.in-Some-next.seat; draws = c.in-Some-next-2.draws } in record {
      rest = next_is xs ys zs _ x steps.0 v.rest;
      rest_len = next_len ys zs x _ _ steps.0 v.rest_len steps.1;
      outboxes = dealt_all (λ (s : Scanner). s.outbox) old now new xs pushed v.outboxes;
      seats = dealt_more (λ (s : Scanner). s.seat) old now new _ _ _ pushed c.in-Some-next.ensures.items v.seats;
      draws = dealt_more (λ (s : Scanner). s.draws) old now new _ _ _ pushed c.in-Some-next-2.ensures.items v.draws;
    }
