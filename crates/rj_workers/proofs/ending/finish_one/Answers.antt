use Rattle.std.proofs.Common.{◌+◌, ◌++◌, List, sym, ap, ◌∙◌}
use Rattle.std.proofs.lemmas.List.{length-map}
use Rattle.rj_exchange.specs.declared.ledger.parcel.Parcel.{Parcel}
use Rattle.rj_exchange.specs.Ledgers.{LedgerValue, opened, after_all}
use Rattle.rj_exchange.proofs.CloseFacts.{complete_stays}
use Rattle.rj_exchange.proofs.EngineFacts.{after_all-append}
use Rattle.rj_exchange.specs.declared.boxes.Exchange.{Exchange}
use Rattle.rj_exchange.specs.declared.boxes.Inbox.{Inbox}
use Rattle.rj_exchange.specs.Boxes.{PostedVec, taken_by_lane, taken_of}
use Rattle.rj_workers.specs.Arrivals.{parcels_of}
use Rattle.rj_workers.proofs.Ends.{all_arrived}
use Rattle.rj_workers.proofs.Ledgers.{building_kept}
use Rattle.rj_workers.proofs.ending.finish_one.Goals as goal

pub returns-clause-arrived : goal.returns-clause-arrived
returns-clause-arrived g c =
    let e : Exchange = c.args.shared.now.exchange.now in let inbox : Inbox = c.args.held.inbox in let t = c.requires.held.taking in let a = t.1 in let xs : List Parcel = a.0 in let f = c.in-Ok.ensures.all in
    let rests : List PostedVec = c.in-Ok.finished.rest.items in let opening : LedgerValue = opened inbox.partition (c.args.shared.now.settings.workers + c.args.shared.now.settings.workers) c.args.shared.now.settings.block in (
      xs ++ parcels_of rests,
      all_arrived e.outboxes e.lanes c.args.stubs.items (taken_by_lane inbox) rests xs c.requires.stubs.many (length-map inbox.ends.items taken_of ∙ t.0.takes.many) f.0 a.1 f.1,
      c.in_ok-offer_rests.ensures ∙ ap (λ (u : LedgerValue). after_all u (parcels_of rests)) a.2 ∙ sym (after_all-append opening xs (parcels_of rests)),
    )

pub returns-clause-built : goal.returns-clause-built
returns-clause-built g c =
    let h = c.requires.held in let v : LedgerValue = c.args.held.ledger in
    building_kept (g.J.Job.builds c.args.shared.now.job.now) c.args.held.inbox.partition v c.offer_rests.new.ledger
    (λ whole. c.in_ok-offer_rests.ensures ∙ complete_stays v (parcels_of c.in-Ok.finished.rest.items) whole) c.args.held.building h.built
