use Rattle.std.proofs.Common.{◌≡◌, ◌<◌, All, IfSome, length}
use Rattle.rj_tests_tables.proofs.workers.dealt.rows_from.Given as goal

abbrev pub invariant-loop-row : goal.invariant-loop-row
invariant-loop-row l = record {
  len : length l.routes.items ≡ length l.rows.items;
  below : All (λ r. IfSome r (λ p. p < 3)) l.routes.items;
}
