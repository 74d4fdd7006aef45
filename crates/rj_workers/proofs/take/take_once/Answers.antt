use Rattle.std.proofs.Common.{◌≡◌, ◌+◌, ◌<◌, ◌++◌, ◌∷◌, [], ℕ, List, sym, subst, ap, ◌∙◌, length, arith}
use Rattle.std.proofs.lemmas.List.{length-map}
use Rattle.rj_exchange.specs.declared.ledger.parcel.Parcel.{Parcel}
use Rattle.rj_exchange.specs.Ledgers.{LedgerValue, opened, after_offer, after_all}
use Rattle.rj_exchange.proofs.CloseFacts.{complete_stays}
use Rattle.rj_exchange.proofs.EngineFacts.{after_all-append}
use Rattle.rj_exchange.specs.Boxes.{taken_by_lane, taken_of}
use Rattle.rj_exchange.specs.declared.boxes.Inbox.{Inbox}
use Rattle.rj_workers.specs.Arrivals.{Takes, IsArrived}
use Rattle.rj_workers.specs.Internal.Takes.{IsBuilding}
use Rattle.rj_workers.proofs.Takes.{arrived_more}
use Rattle.rj_workers.proofs.Ledgers.{building_kept}
use Rattle.rj_workers.proofs.take.take_once.Goals as goal

pub returns-in_default : goal.returns-in_default
returns-in_default g c =
    let h = c.requires.held in let t = h.taking in let a = t.1 in let senders : ℕ = c.args.shared.now.settings.workers + c.args.shared.now.settings.workers in let block : ℕ = c.args.shared.now.settings.block in record {
      taking = (
        c.take.ensures.inbox t.0,
        (a.0, subst (λ (w : Takes). IsArrived w a.0) (sym c.in_default.ensures.taken.0) a.1, a.2 ∙ ap (λ (p : ℕ). after_all (opened p senders block) a.0) (sym c.take.ensures.same.1)),
      );
      built = subst (λ (p : ℕ). IsBuilding (g.J.Job.builds c.args.shared.now.job.now) p c.args.held.now.ledger c.args.held.now.building) (sym c.take.ensures.same.1) h.built;
    }

pub returns : goal.returns
returns g c =
    let h = c.requires.held in let t = h.taking in let a = t.1 in let senders : ℕ = c.args.shared.now.settings.workers + c.args.shared.now.settings.workers in let block : ℕ = c.args.shared.now.settings.block in
    let x : Parcel = c.in-Some.parcel in let took = c.in-Some.ensures.taken in let inbox : Inbox = c.args.held.now.inbox in
    let many = t.0.takes.many in let len = length-map inbox.ends.items taken_of in let lane = c.requires.lane in
    let lt : c.args.lane < length (taken_by_lane inbox) = omega arith in
    let v : LedgerValue = c.args.held.now.ledger in let w : LedgerValue = c.offer.new.ledger in let xs : List Parcel = a.0 in
    let is : w ≡ after_offer v x = c.in_ok-offer.ensures in
    let opening : LedgerValue = opened inbox.partition senders block in
    let now : w ≡ after_all opening (xs ++ x ∷ []) = is ∙ ap (λ (u : LedgerValue). after_offer u x) a.2 ∙ sym (after_all-append opening xs (x ∷ [])) in record {
      taking = (
        c.take.ensures.inbox t.0,
        (
          xs ++ x ∷ [],
          arrived_more (taken_by_lane inbox) (taken_by_lane c.take.new.self) c.args.lane took.0 x xs lt took.1 a.1,
          now ∙ ap (λ (p : ℕ). after_all (opened p senders block) (xs ++ x ∷ [])) (sym c.take.ensures.same.1),
        ),
      );
      built = subst (λ (p : ℕ). IsBuilding (g.J.Job.builds c.args.shared.now.job.now) p w c.args.held.now.building) (sym c.take.ensures.same.1)
          (building_kept (g.J.Job.builds c.args.shared.now.job.now) inbox.partition v w (λ whole. is ∙ complete_stays v (x ∷ []) whole) c.args.held.now.building h.built);
    }
