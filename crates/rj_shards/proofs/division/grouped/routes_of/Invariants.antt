use Rattle.std.proofs.Common.{◌≡◌, ◌<◌, Some, All, IfSome, map, take, length}
use Rattle.rj_shards.proofs.division.grouped.routes_of.Given as goal

abbrev pub invariant-loop-row : goal.invariant-loop-row
invariant-loop-row g l = record {
  routes : l.routes.items ≡ map (λ r. Some (g.R.Route.part l.route r)) (take l.row l.table.rows);
  below : All (λ r. IfSome r (λ p. p < g.R.Route.count l.route)) l.routes.items;
  end : l.row-end ≡ length l.table.rows;
}
