use Rattle.std.proofs.Common.{List, [], ◌∷◌, sym, ap, ◌∙◌, map}
use Rattle.std.specs.Vec.Iter.{into_iter_items}
use Rattle.rj_exchange.specs.Ledgers.{LedgerValue, after_offer, after_all}
use Rattle.rj_exchange.proofs.EngineFacts.{after_all-append}
use Rattle.rj_exchange.specs.declared.posted.Posted.{Posted}
use Rattle.rj_workers.specs.Arrivals.{parcel_of}
use Rattle.rj_workers.proofs.Posts.{next_is, next_len}
use Rattle.rj_workers.proofs.Ledgers.{parcels_snoc}
use Rattle.rj_workers.proofs.ending.offer_rest.Goals as goal

pub loop-posted-preserved : goal.loop-posted-preserved
loop-posted-preserved c =
    let v = c.loop-posted.invariant in let x : Posted = c.in-Some.posted in let xs : List Posted = c.loop-posted.yielded in let ys : List Posted = into_iter_items c.loop-posted.posted-iterator in
    let zs : List Posted = into_iter_items c.next.new.self in
    let steps = c.in-Some.ensures.steps in let first : LedgerValue = c.args.ledger.now in record {
      ledger = c.in_ok-offer.ensures ∙ ap (λ (u : LedgerValue). after_offer u x.parcel) v.ledger ∙ sym (after_all-append first (map parcel_of xs) (x.parcel ∷ [])) ∙ ap (after_all first) (sym (parcels_snoc xs x));
      rest = next_is xs ys zs c.args.rest.items x steps.0 v.rest;
      len = next_len ys zs x _ _ steps.0 v.len steps.1;
    }
