use Rattle.std.proofs.Common.{◌≡◌}
use Rattle.rj_exchange.specs.Boxes.{sent_by_queue}
use Rattle.rj_workers.specs.Posts.{OnlyPlanned}
use Rattle.rj_workers.specs.Internal.Scans.{IsScanner, HasPostedHeld}
use Rattle.rj_workers.proofs.scan.scan.Given as goal

abbrev pub invariant-loop : goal.invariant-loop
invariant-loop g l = let due = g.J.Job.due l.shared.job.now in record {
  me : IsScanner l.shared l.me;
  number : l.me.outbox.number ≡ l.fn.me.outbox.number;
  planned : OnlyPlanned due l.shared.settings.block (sent_by_queue l.me.outbox);
  posted : HasPostedHeld due l.shared.settings.block l.shared.settings.workers l.shared.exchange.now l.me;
}
