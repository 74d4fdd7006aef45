use Rattle.std.proofs.Common.{◌+◌}
use Rattle.rj_exchange.specs.declared.ledger.parcel.Parcel.{Parcel}
use Rattle.rj_exchange.specs.Lawful.{IsPlanned}
use Rattle.rj_workers.specs.Posts.{AreInRange, HasCut, IsLeft}
use Rattle.rj_workers.proofs.scan.cut_stripe.Given as goal

abbrev pub invariant-loop-partition : goal.invariant-loop-partition
invariant-loop-partition g l = let due = g.J.Job.due l.shared.job.now in record {
  planned : (x : Parcel) → IsLeft l.lists.items x → IsPlanned due l.shared.settings.block x;
  range : AreInRange l.shared.exchange.now (IsLeft l.lists.items);
  left : HasCut due l.shared.settings.block l.stripe l.partition l.lists.items;
  right : HasCut due l.shared.settings.block (l.shared.settings.workers + l.stripe) l.partition l.lists.items;
}
