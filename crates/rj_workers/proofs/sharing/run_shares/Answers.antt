use Rattle.std.proofs.Common.{arith, subst, sym, ◌∙◌}
use Rattle.std.specs.List.{flat_map}
use Rattle.rj_exchange.specs.Tickets.{drawn_by}
use Rattle.rj_workers.specs.Sharing.{IsNewDrawer}
use Rattle.rj_workers.proofs.Numbers.{drawn_shuffled}
use Rattle.rj_workers.proofs.MadeShares.{each_is_made, gathered_seats, new_drawers}
use Rattle.rj_workers.proofs.sharing.run_shares.Goals as goal

pub map_vec-requires-after_bounds : goal.map_vec-requires-after_bounds
map_vec-requires-after_bounds g c κs within =
    let t = c.in_ok-tickets.tickets in let h = c.in_ok-halt.halt in let all = c.in_ok-drawers.drawers.items in
    let drawers = new_drawers t h all c.in_ok-tickets.draws.items c.in_ok-halt.seats.items (sym c.in_ok-drawers.ensures.draws) (sym c.in_ok-drawers.ensures.seats)
    c.in_ok-tickets.ensures.seats.0.1 c.in_ok-tickets.ensures.seats.1 c.in_ok-halt.ensures.seats.0.1 in
    λ i x lt is. ((let few = c.min.ensures in let n = c.in_ok-tickets.ensures.counts.0 in let of = c.count.ensures in omega arith), subst (IsNewDrawer t h) (sym is) (drawers i x lt))

pub finish-requires : goal.finish-requires
finish-requires g c =
    (gathered_seats (g.S.Shares.makes c.args.shares.now) {results = c.in_ok-results.results.items} c.in_ok-tickets.tickets c.in_ok-halt.halt c.in_ok-drawers.drawers.items c.in_ok-tickets.draws.items
    c.in_ok-drawers.ensures.draws c.in_ok-tickets.ensures.seats.0 (c.in_ok-halt.ensures.counts ∙ sym c.in_ok-tickets.ensures.counts.1) (let long = c.in_ok-results.ensures.len in omega arith)
    (λ k d lt. (c.in_ok-results.ensures.each k d lt).1.call.met) c.in_ok-draws.ensures).seats_are

pub finish-drawn-requires : goal.finish-drawn-requires
finish-drawn-requires g c =
    (gathered_seats (g.S.Shares.makes c.args.shares.now) {results = c.in_ok-results.results.items} c.in_ok-tickets.tickets c.in_ok-halt.halt c.in_ok-drawers.drawers.items c.in_ok-tickets.draws.items
    c.in_ok-drawers.ensures.draws c.in_ok-tickets.ensures.seats.0 (c.in_ok-halt.ensures.counts ∙ sym c.in_ok-tickets.ensures.counts.1) (let long = c.in_ok-results.ensures.len in omega arith)
    (λ k d lt. (c.in_ok-results.ensures.each k d lt).1.call.met) c.in_ok-draws.ensures).draws_are

pub make_rest-requires-clause-made : goal.make_rest-requires-clause-made
make_rest-requires-clause-made g c = record {
  numbers = flat_map drawn_by c.in_ok-draws.field-0.draws.items;
  each = drawn_shuffled drawn_by c.finish-drawn.result c.in_ok-draws.field-0.draws.items c.finish-drawn.ensures.numbers;
  made =
      let gathered =
      gathered_seats (g.S.Shares.makes c.args.shares.now) {results = c.in_ok-results.results.items} c.in_ok-tickets.tickets c.in_ok-halt.halt c.in_ok-drawers.drawers.items c.in_ok-tickets.draws.items
      c.in_ok-drawers.ensures.draws c.in_ok-tickets.ensures.seats.0 (c.in_ok-halt.ensures.counts ∙ sym c.in_ok-tickets.ensures.counts.1) (let long = c.in_ok-results.ensures.len in omega arith)
      (λ k d lt. (c.in_ok-results.ensures.each k d lt).1.call.met) c.in_ok-draws.ensures in
      gathered.made_are c.if-finish.ensures.calm;
}

pub returns-clause-made : goal.returns-clause-made
returns-clause-made g c = each_is_made (g.S.Shares.makes c.args.shares.now) (g.S.Shares.shares c.args.shares.now) c.make_rest.new.made.items c.in_ok-make_rest.ensures
