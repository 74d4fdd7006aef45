use Rattle.std.proofs.Common.{refl}
use Rattle.rj_workers.proofs.Openings.{new_outboxes, fresh_inboxes}
use Rattle.rj_workers.proofs.run.run_workers.Goals as goal

pub run_opened-requires-clause-outboxes : goal.run_opened-requires-clause-outboxes
run_opened-requires-clause-outboxes g c κs within = new_outboxes c.in_ok-opened.opened.0 c.in_ok-opened.opened.1.items c.in_ok-opened.opened.2.items c.args.settings.workers c.args.settings.partitions c.in_ok-opened.ensures.opened

pub run_opened-requires-clause-inboxes : goal.run_opened-requires-clause-inboxes
run_opened-requires-clause-inboxes g c κs within = (c.in_ok-opened.ensures.opened.3, refl)

pub run_opened-requires-clause-fresh : goal.run_opened-requires-clause-fresh
run_opened-requires-clause-fresh g c κs within = fresh_inboxes c.in_ok-opened.opened.0 c.in_ok-opened.opened.1.items c.in_ok-opened.opened.2.items c.args.settings.workers c.args.settings.partitions c.in_ok-opened.ensures.opened

pub run_opened-requires-clause-opened : goal.run_opened-requires-clause-opened
run_opened-requires-clause-opened g c κs within = record {
  fresh = fresh_inboxes c.in_ok-opened.opened.0 c.in_ok-opened.opened.1.items c.in_ok-opened.opened.2.items c.args.settings.workers c.args.settings.partitions c.in_ok-opened.ensures.opened;
  both = refl;
  rows = refl;
}
