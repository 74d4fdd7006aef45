-- Outboxes and inboxes as they are opened.
use Rattle.std.proofs.Common.{◌≡◌, ℕ, zero, suc, ◌<◌, ◌+◌, ◌*◌, ◌-◌, List, [], ◌∷◌, length, get_or, ap, ◌∙◌, subst, arith, lt_of_not-le, Some, slice_get}
use Rattle.std.specs.Prelude.{Contains}
use Rattle.std.proofs.lemmas.List.{length-map}
use mathlib.Core.Logic.{dite}
use native.Mathlib.Decide.{dec_le}
use Rattle.rj_exchange.specs.declared.posted.Posted.{Posted}
use Rattle.rj_exchange.specs.declared.boxes.Stub.{Stub}
use Rattle.rj_exchange.specs.declared.boxes.Inbox.{Inbox}
use Rattle.rj_exchange.specs.declared.boxes.Outbox.{Outbox}
use Rattle.rj_exchange.specs.declared.boxes.Exchange.{Exchange}
use Rattle.rj_exchange.specs.Passing.{posted_by}
use Rattle.rj_exchange.specs.Boxes.{sent_of, sent_by_queue, taken_of, taken_by_lane, IsOutboxOf, IsInboxOf, IsOpened}
use Rattle.rj_workers.proofs.Lists.{pick, get_or-map}
use Rattle.rj_workers.proofs.Lists.{past_end}
use Rattle.rj_workers.specs.Posts.{NothingPosted}
use Rattle.rj_workers.specs.Arrivals.{IsArrived}
use Rattle.rj_workers.specs.Internal.Scans.{AreNewOutboxes}
use Rattle.rj_workers.specs.Internal.Takes.{AreFreshInboxes}
use Rattle.rj_workers.proofs.Ends.{none_in, place_within}

pub nothing_arrived : (i : Inbox) (lanes : ℕ) → length i.ends.items ≡ lanes → ((k : ℕ) (s : Stub) → k < lanes → taken_of (get_or i.ends.items k s) ≡ []) → IsArrived (taken_by_lane i) []
nothing_arrived i lanes len none = (
  λ x h. absurd (none_in x h),
  λ k o x h.
      let lt = place_within (taken_by_lane i) k (posted_by o x) h in let m = length-map i.ends.items taken_of in let there : k < length i.ends.items = omega arith in let s : Stub = pick i.ends.items k there in
      absurd (none_in (posted_by o x) (subst (λ (l : List Posted). Contains l (posted_by o x)) (get_or-map taken_of i.ends.items k s [] there ∙ none k s (omega arith)) h)),
)

-- a place in rows of a length has a row and a place in it
row_of : (n lanes q : ℕ) → q < n * lanes → (p : ℕ) × (k : ℕ) × (p < n) × (k < lanes) × (q ≡ p * lanes + k)
row_of zero lanes q lt = absurd (let z : zero * lanes ≡ 0 = grind arith in omega arith)
row_of (suc n) lanes q lt =
    let s : (suc n) * lanes ≡ n * lanes + lanes = grind arith in dite (dec_le (n * lanes) q)
    (λ le. (n, q - n * lanes, omega arith, omega arith, omega arith))
    (λ ne. let below : q < n * lanes = lt_of_not-le ne in let r = row_of n lanes q below in (r.0, r.1, (let l = r.2 in omega arith), r.3, r.4))

pub nothing_posted : (e : Exchange) (o : Outbox) → IsOutboxOf e o → ((p k : ℕ) (s : Stub) → p < e.partitions → k < e.lanes → sent_of (get_or o.stubs.items (p * e.lanes + k) s) ≡ []) → NothingPosted (sent_by_queue o)
nothing_posted e o is none q = dite (dec_le (length (sent_by_queue o)) q)
    (λ le. past_end (sent_by_queue o) q [] le)
    (λ ne.
    let m = length-map o.stubs.items sent_of in let n = is.many in let lt : q < length (sent_by_queue o) = lt_of_not-le ne in let there : q < length o.stubs.items = omega arith in
    let r = row_of e.partitions e.lanes q (omega arith) in let s : Stub = pick o.stubs.items q there in
    get_or-map sent_of o.stubs.items q s [] there ∙ ap (λ (i : ℕ). sent_of (get_or o.stubs.items i s)) r.4 ∙ none r.0 r.1 s r.2 r.3)

pub found_there : {A : Type 0} (xs : List A) (p : ℕ) (x : A) → slice_get xs p ≡ Some x → (p < length xs) × (get_or xs p x ≡ x)
found_there [] p x h = cc
found_there (y ∷ ys) zero x h = (omega arith, (let e : y ≡ x = cc in e))
found_there (y ∷ ys) (suc p) x h = let r = found_there ys p x h in ((let l = r.0 in omega arith), r.1)

pub new_outboxes : (e : Exchange) (os : List Outbox) (is : List Inbox) (n m : ℕ) → IsOpened e os is n m → AreNewOutboxes e n os
new_outboxes e os is n m o = (
  o.2,
  λ s d lt. let f = o.4 s d lt in (f.0, f.1, nothing_posted e (get_or os s d) f.0 (λ p k t pl kl. f.2 p k t (let q = o.1 in omega arith) kl)),
)

pub fresh_inboxes : (e : Exchange) (os : List Outbox) (is : List Inbox) (n m : ℕ) → IsOpened e os is n m → AreFreshInboxes e is
fresh_inboxes e os is n m o p i found =
    let r = found_there is p i found in let len = o.3 in let f = o.5 p i (let l = r.0 in omega arith) in
    subst (λ (z : Inbox). IsInboxOf e z × (z.partition ≡ p) × IsArrived (taken_by_lane z) []) r.1 (f.0, f.1, nothing_arrived (get_or is p i) e.lanes f.0.takes.many f.2)
