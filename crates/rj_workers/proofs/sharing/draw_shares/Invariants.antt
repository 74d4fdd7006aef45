use Rattle.rj_exchange.specs.Tickets.{drawn_by}
use Rattle.rj_workers.specs.Sharing.{AreMadeBy, IsDrawer}
use Rattle.rj_workers.proofs.sharing.draw_shares.Given as goal

abbrev pub invariant-loop : goal.invariant-loop
invariant-loop g l = record {
  drawer : IsDrawer l.tickets l.halt l.drawer;
  made : AreMadeBy (g.S.Shares.makes l.shares) (drawn_by l.drawer.draws) l.made.items;
}
