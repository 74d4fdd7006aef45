use Rattle.std.specs.Prelude.{Contains}
use Rattle.rj_exchange.specs.Boxes.{sent_by_queue}
use Rattle.rj_workers.specs.Posts.{PostsOrKeeps, to_post}
use Rattle.rj_workers.specs.Internal.Scans.{IsScanner, SameScanner}
use Rattle.rj_workers.proofs.post.post_some.Given as goal

abbrev pub invariant-loop : goal.invariant-loop
invariant-loop g l = record {
  me : IsScanner l.shared l.me;
  same : SameScanner l.fn.me l.me;
  sent : PostsOrKeeps l.shared.exchange.now (Contains (to_post l.fn.list)) (Contains (to_post l.list)) (sent_by_queue l.fn.me.outbox) (sent_by_queue l.me.outbox);
}
