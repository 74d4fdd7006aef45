use Rattle.std.proofs.Common.{ℕ, inl, inr, ◌∙◌, sym, ap, subst}
use Rattle.rj_exchange.specs.declared.boxes.Exchange.{Exchange}
use Rattle.rj_exchange.specs.declared.boxes.Outbox.{Outbox}
use Rattle.rj_exchange.specs.declared.stripes.StripeSeat.{StripeSeat}
use Rattle.rj_exchange.specs.Boxes.{sent_by_queue}
use Rattle.rj_exchange.specs.Stripes.{held_by, Holds}
use Rattle.rj_workers.specs.Posts.{Due, Posts, OnlyPlanned}
use Rattle.rj_workers.specs.Internal.Scans.{StopsAt, HasPostedStripe}
use Rattle.rj_workers.proofs.HeldStripes.{held_before, kept_stripe}
use Rattle.rj_workers.proofs.scan.scan.Goals as goal

pub loop-preserved-in-Ok : goal.loop-preserved-in-Ok
loop-preserved-in-Ok g c =
    let v = c.loop.invariant in let s = c.in-Ok.ensures in let d = c.in-Some-draw.ensures in
    let due : Due = g.J.Job.due c.args.shared.now.job.now in let e : Exchange = c.args.shared.now.exchange.now in
    let block : ℕ = c.args.shared.now.settings.block in let count : ℕ = c.args.shared.now.settings.workers in
    let a : Posts = sent_by_queue c.loop.me.outbox in let b : Posts = sent_by_queue c.scan_stripe.new.me.outbox in record {
      me = s.me.0;
      number = s.me.1.0 ∙ v.number;
      planned = s.added v.planned;
      posted = λ x h. elim ((d.gains x).0 (subst (λ (t : StripeSeat). Holds t x) s.me.1.1 h)) [
        | inl o ↦ kept_stripe due block count e x a b s.kept (v.posted x o)
        | inr is ↦ subst (λ (n : ℕ). HasPostedStripe due block count e n b) (sym is) s.all
      ];
    }

pub returns-in-Err-Halted : goal.returns-in-Err-Halted
returns-in-Err-Halted g c =
    let v = c.loop.invariant in let s = c.in-Err-Halted.ensures in record {
      scanner = s.me.0;
      number = s.me.1.0 ∙ v.number;
      planned = s.added v.planned;
      posted = inl (subst (StopsAt c.scan_stripe.new.me.seat) c.in-Err-Halted.field-0-is s.all);
    }

pub loop-preserved : goal.loop-preserved
loop-preserved g c =
    let v = c.loop.invariant in let s = c.in-Err-Refused.ensures in let d = c.in-Some-draw.ensures in let r = c.in-Some-give_up.ensures in
    let due : Due = g.J.Job.due c.args.shared.now.job.now in let e : Exchange = c.args.shared.now.exchange.now in
    let block : ℕ = c.args.shared.now.settings.block in let count : ℕ = c.args.shared.now.settings.workers in
    let a : Posts = sent_by_queue c.loop.me.outbox in let b : Posts = sent_by_queue c.scan_stripe.new.me.outbox in let same = r.me.1 in
    let drew = ap held_by s.me.1.1 ∙ d.held.0 in record {
      me = r.me.0;
      number = ap (λ (o : Outbox). o.number) same ∙ s.me.1.0 ∙ v.number;
      planned = subst (λ (o : Outbox). OnlyPlanned due block (sent_by_queue o)) (sym same) (s.added v.planned);
      posted = λ x h. subst (λ (o : Outbox). HasPostedStripe due block count e x (sent_by_queue o)) (sym same)
          (kept_stripe due block count e x a b s.kept (v.posted x (held_before (held_by c.loop.me.draws) (held_by c.scan_stripe.new.me.draws) (held_by c.give_up.new.me.draws) c.in-Some-draw.stripe x drew r.back h)));
    }

pub returns-in_default-give_up : goal.returns-in_default-give_up
returns-in_default-give_up g c =
    let v = c.loop.invariant in let s = c.in-Err-Refused.ensures in let r = c.in_default-give_up.ensures in let same = r.me.1 in
    let due : Due = g.J.Job.due c.args.shared.now.job.now in record {
      scanner = r.me.0;
      number = ap (λ (o : Outbox). o.number) same ∙ s.me.1.0 ∙ v.number;
      planned = subst (λ (o : Outbox). OnlyPlanned due c.args.shared.now.settings.block (sent_by_queue o)) (sym same) (s.added v.planned);
      posted = inl r.back;
    }
