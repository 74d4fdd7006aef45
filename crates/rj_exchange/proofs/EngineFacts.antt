-- What those above need to use `Delivers`: that parcels of `cut` are planned, and when arrivals have all of them.
use Rattle.std.proofs.Common.{◌≡◌, ℕ, zero, suc, ◌+◌, ◌<◌, ◌==◌, Bool, true, false, cond, ◌&&◌, List, [], ◌∷◌, ◌++◌, length, refl, ap, sym, ◌∙◌, arith, subst, is_some, Some, None, Option, eq-eqb, slice_get}
use Rattle.rj_exchange.specs.declared.ledger.parcel.Body.{Body}
use Rattle.rj_exchange.specs.declared.ledger.parcel.Parcel.{Parcel}
use Rattle.rj_exchange.specs.Standing.{Standing, following, delivered_from, nothing_yet}
use Rattle.rj_exchange.specs.declared.ledger.parcel.Answer.TheVariants.{Accepted, Held, Refused}
use Rattle.std.proofs.Common.{get_or, get_or-set_same}
use Rattle.std.specs.Prelude.{All, Contains}
use Rattle.rj_exchange.specs.Cutting.{bodies, numbered, plan, IsFor}
use Rattle.rj_exchange.specs.Ledgers.{LedgerValue, standing, answer_to, after_offer, answers, after_all, IsSameShape}
use Rattle.rj_exchange.specs.Kept.{keep, kept_onto, body_in, held_at, Keeps, AreKeptOnce}
use Rattle.rj_exchange.specs.Lawful.{IsPlanned, AreLawful, arrived, HasAll}
use Rattle.rj_exchange.proofs.Soundness.{unrefused}
use Rattle.rj_exchange.proofs.LedgerFacts.{keeps_offer}
use Rattle.rj_exchange.specs.Ledgers.{after_answer}
use Rattle.rj_exchange.specs.declared.ledger.parcel.Answer.{Answer}
use Rattle.std.proofs.Common.{length-set}
use Rattle.rj_exchange.proofs.PlanFacts.{holds_is}
use Rattle.rj_exchange.proofs.LawfulFacts.{wrong, unknown, refused, next, later, outcome}

-- a numbered parcel
pub record IsNumbered (s p first i : ℕ) (bs : List Body) (x : Parcel) : Type 0 where
  pub sender : x.sender ≡ s
  pub partition : x.partition ≡ p
  pub number : x.number ≡ first + i
  pub body : slice_get bs i ≡ Some x.body

pub numbered_at : (s p first i : ℕ) (bs : List Body) (x : Parcel) → slice_get (numbered s p first bs) i ≡ Some x → IsNumbered s p first i bs x
numbered_at s p first i [] x h = cc
numbered_at s p first zero (b ∷ bs) x h =
    let e : record { sender = s; partition = p; number = first; body = b } ≡ x = cc in
    record {
      sender = ap (λ (y : Parcel). y.sender) (sym e);
      partition = ap (λ (y : Parcel). y.partition) (sym e);
      number =
          (let w : x.number ≡ first = ap (λ (y : Parcel). y.number) (sym e) in omega arith);
      body = ap (λ (y : Parcel). Some y.body) e;
    }
numbered_at s p first (suc i) (b ∷ bs) x h =
    let r = numbered_at s p (first + 1) i bs x h in
    record { sender = r.sender; partition = r.partition; number = (let w : x.number ≡ first + 1 + i = r.number in omega arith); body = r.body }

-- each parcel of a plan is of its sender, for its partition
pub all_for : (s p first : ℕ) (bs : List Body) → All (IsFor s p) (numbered s p first bs)
all_for s p first [] i d lt = absurd (omega arith)
all_for s p first (b ∷ bs) zero d lt = (refl, refl)
all_for s p first (b ∷ bs) (suc i) d lt = all_for s p (first + 1) bs i d (omega arith)

-- a parcel of a plan is planned
pub planned_by_cut : (due : ℕ → ℕ → List ℕ) (block s p i : ℕ) (x : Parcel) → slice_get (plan block (due s p) s p) i ≡ Some x → IsPlanned due block x
planned_by_cut due block s p i x h =
    let r = numbered_at s p 0 i (bodies block (due s p)) x h in
    let number : x.number ≡ i = (let w : x.number ≡ 0 + i = r.number in omega arith) in
    subst (λ (k : ℕ). slice_get (bodies block (due k x.partition)) x.number ≡ Some x.body) (sym r.sender)
    (subst (λ (k : ℕ). slice_get (bodies block (due s k)) x.number ≡ Some x.body) (sym r.partition)
    (subst (λ (k : ℕ). slice_get (bodies block (due s p)) k ≡ Some x.body) (sym number) r.body))

-- a plan has a parcel of each of its numbers
pub plan_has : (s p first i : ℕ) (bs : List Body) → i < length bs → (x : Parcel) × (slice_get (numbered s p first bs) i ≡ Some x)
plan_has s p first i [] h = absurd (omega arith)
plan_has s p first zero (b ∷ bs) h = (record { sender = s; partition = p; number = first; body = b }, refl)
plan_has s p first (suc i) (b ∷ bs) h = plan_has s p (first + 1) i bs (omega arith)

-- a parcel among the arrivals has arrived
pub arrived_if_among : (xs : List Parcel) (j q s m : ℕ) (x : Parcel) → slice_get xs j ≡ Some x → x.partition ≡ q → x.sender ≡ s → x.number ≡ m → is_some (arrived q xs s m) ≡ true
arrived_if_among [] j q s m x h a b c = cc
arrived_if_among (y ∷ xs) zero q s m x h a b c =
    let e : y ≡ x = cc in
    all_match (y.partition == q) (y.sender == s) (y.number == m) y.body (arrived q xs s m) (eq-eqb y.partition q (ap (λ (z : Parcel). z.partition) e ∙ a))
    (eq-eqb y.sender s (ap (λ (z : Parcel). z.sender) e ∙ b)) (eq-eqb y.number m (ap (λ (z : Parcel). z.number) e ∙ c))
  where
    all_match : (d f g : Bool) (b : Body) (o : Option Body) → d ≡ true → f ≡ true → g ≡ true → is_some (cond (d && (f && g)) (Some b) o) ≡ true
    all_match true true true b o d f g = refl
    all_match false f g b o d h i = cc
    all_match true false g b o d h i = cc
    all_match true true false b o d h i = cc
arrived_if_among (y ∷ xs) (suc j) q s m x h a b c = still ((y.partition == q) && ((y.sender == s) && (y.number == m))) y.body (arrived q xs s m) (arrived_if_among xs j q s m x h a b c)
  where
    still : (t : Bool) (b : Body) (o : Option Body) → is_some o ≡ true → is_some (cond t (Some b) o) ≡ true
    still true b o h = refl
    still false b o h = h

-- each of the first parcels is among the second
abbrev pub AreAmong : List Parcel → List Parcel → Type 0
AreAmong ps xs = (i : ℕ) (x : Parcel) → slice_get ps i ≡ Some x → (j : ℕ) × (slice_get xs j ≡ Some x)

-- arrivals among which the plans of all senders for q stand
pub has_all_if_among : (due : ℕ → ℕ → List ℕ) (block q n : ℕ) (xs : List Parcel) → ((s : ℕ) → s < n → AreAmong (plan block (due s q) s q) xs) → HasAll due block q n xs
has_all_if_among due block q n xs h s m k l =
    let o = plan_has s q 0 m (bodies block (due s q)) l in
    let r = numbered_at s q 0 m (bodies block (due s q)) o.0 o.1 in
    let j = h s k m o.0 o.1 in
    arrived_if_among xs j.0 q s m o.0 j.1 r.partition r.sender (let w : (o.0).number ≡ 0 + m = r.number in omega arith)

-- arrivals that contain each parcel of the plans
found_at : (xs : List Parcel) (k : ℕ) (x : Parcel) → k < length xs → get_or xs k x ≡ x → slice_get xs k ≡ Some x
found_at [] k x l e = absurd (omega arith)
found_at (y ∷ xs) zero x l e = ap (λ (z : Parcel). Some z) e
found_at (y ∷ xs) (suc k) x l e = found_at xs k x (omega arith) e

there : (ps : List Parcel) (i : ℕ) (x : Parcel) → slice_get ps i ≡ Some x → (i < length ps) × (get_or ps i x ≡ x)
there [] i x h = cc
there (y ∷ ps) zero x h = let e : y ≡ x = cc in (omega arith, e)
there (y ∷ ps) (suc i) x h = let r = there ps i x h in let l = r.0 in (omega arith, r.1)

pub among_if_contained : (ps xs : List Parcel) → All (Contains xs) ps → AreAmong ps xs
among_if_contained ps xs h i x e =
    let at = there ps i x e in
    let c : Contains xs x = subst (Contains xs) at.1 (h i x at.0) in
    (c.0, found_at xs c.0 x c.1 c.2)

-- lawful where each one is planned
pub lawful_if_all : (due : ℕ → ℕ → List ℕ) (block : ℕ) (xs : List Parcel) → All (IsPlanned due block) xs → AreLawful due block xs
lawful_if_all due block [] h = tt
lawful_if_all due block (x ∷ xs) h = (h 0 x (omega arith), lawful_if_all due block xs (λ i d l. h (suc i) d (omega arith)))

-- one list offered and then another is both offered as one
pub after_all-append : (v : LedgerValue) (xs ys : List Parcel) → after_all v (xs ++ ys) ≡ after_all (after_all v xs) ys
after_all-append v [] ys = refl
after_all-append v (x ∷ xs) ys = after_all-append (after_offer v x) xs ys

none_if : (o : Option Body) → false ≡ is_some o → o ≡ None
none_if None h = refl
none_if (Some b) h = cc

pub once_step : (ks : List Parcel) (v : LedgerValue) (x : Parcel) → Keeps ks v → AreKeptOnce v.partition (length v.senders) ks → AreKeptOnce v.partition (length v.senders) (keep (answer_to v x) x ks)
once_step ks v x k o =
    let P : Answer → Type 0 = λ (a : Answer). AreKeptOnce v.partition (length v.senders) (keep a x ks) in
    elim (outcome v x) [
      | wrong p a ↦ subst P (sym a) o
      | unknown p l a ↦ subst P (sym a) o
      | refused reason p l r a ↦ subst P (sym a) o
      | next p l r e a ↦ subst P (sym a) (p, l, ap (body_in ks x.sender) e ∙ (k x.sender l).1.next, o)
      | later p l r e a ↦
          let s : Standing = standing v x.sender in
          let facts = unrefused v.block s x.number x.body r in
          subst P (sym a) (p, l, (k x.sender l).1.held x.number facts.later ∙ none_if (held_at x.number s.held) (sym facts.new ∙ holds_is s.held x.number), o)
    ]

shape_by : (a : Answer) (v : LedgerValue) (x : Parcel) → IsSameShape v (after_answer a v x)
shape_by (Accepted n) v x = record { partition = refl; block = refl; senders = length-set v.senders x.sender _ }
shape_by Held v x = record { partition = refl; block = refl; senders = length-set v.senders x.sender _ }
shape_by (Refused r) v x = record { partition = refl; block = refl; senders = refl }

pub same_shape : (v : LedgerValue) (x : Parcel) → IsSameShape v (after_offer v x)
same_shape v x = shape_by (answer_to v x) v x

-- whatever is offered, a ledger's partition, block size and number of senders stay the same
pub shape_stays : (v : LedgerValue) (xs : List Parcel) → IsSameShape v (after_all v xs)
shape_stays v [] = record { partition = refl; block = refl; senders = refl }
shape_stays v (x ∷ xs) =
    let one = same_shape v x in
    let more = shape_stays (after_offer v x) xs in
    record { partition = more.partition ∙ one.partition; block = more.block ∙ one.block; senders = more.senders ∙ one.senders }

-- the kept ones of any list
pub kept_once : (xs ks : List Parcel) (v : LedgerValue) → Keeps ks v → AreKeptOnce v.partition (length v.senders) ks → AreKeptOnce v.partition (length v.senders) (kept_onto ks xs (answers v xs))
kept_once [] ks v k o = o
kept_once (x ∷ xs) ks v k o =
    let shape = same_shape v x in
    let now = once_step ks v x k o in
    let K : List Parcel = kept_onto (keep (answer_to v x) x ks) xs (answers (after_offer v x) xs) in
    subst (λ (q : ℕ). AreKeptOnce q (length v.senders) K) shape.partition
    (subst (λ (n : ℕ). AreKeptOnce (after_offer v x).partition n K) shape.senders
    (kept_once xs (keep (answer_to v x) x ks) (after_offer v x) (keeps_offer ks v x k)
    (subst (λ (n : ℕ). AreKeptOnce (after_offer v x).partition n (keep (answer_to v x) x ks)) (sym shape.senders)
    (subst (λ (q : ℕ). AreKeptOnce q (length v.senders) (keep (answer_to v x) x ks)) (sym shape.partition) now))))

-- what the rule `accept` counts
pub accepted_counts : (v : LedgerValue) (x : Parcel) (n : ℕ) → answer_to v x ≡ Accepted n → (standing (after_offer v x) x.sender).next ≡ (standing v x.sender).next + n
accepted_counts v x n h = elim (outcome v x) [
  | wrong p a ↦ cc
  | unknown p l a ↦ cc
  | refused reason p l r a ↦ cc
  | next p l r e a ↦
      let s : Standing = standing v x.sender in
      let count : length (following (x.number + 1) s.held) + 1 ≡ n = cc in
      let now : standing (after_offer v x) x.sender ≡ delivered_from s x.number x.body =
      ap (λ (b : Answer). standing (after_answer b v x) x.sender) a ∙ get_or-set_same v.senders x.sender (delivered_from s x.number x.body) nothing_yet l in
      ap (λ (t : Standing). t.next) now ∙ by_count x.number s.next (length (following (x.number + 1) s.held)) n e count
  | later p l r e a ↦ cc
]
  where
    by_count : (number nxt run n : ℕ) → number ≡ nxt → run + 1 ≡ n → number + 1 + run ≡ nxt + n
    by_count number nxt run n p q = omega arith
