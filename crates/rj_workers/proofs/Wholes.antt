-- What the ledgers have delivered once all workers have handed back theirs.
use Rattle.std.proofs.Common.{◌≡◌, ℕ, zero, suc, ◌<◌, ◌+◌, ◌*◌, ◌-◌, inl, inr, List, [], ◌∷◌, ◌++◌, length, map, get_or, sym, refl, ap, ◌∙◌, subst, arith, lt_of_not-le, length-append}
use Rattle.std.specs.Prelude.{Contains, All}
use Rattle.std.proofs.lemmas.List.{length-map, get_or_append_left, get_or-append-add}
use Rattle.std.proofs.lemmas.List.Elements.{All-append, All-push, All-map}
use mathlib.Core.Logic.{dite}
use mathlib.Core.Option.{some}
use lib.ListN.{get_elem?}
use native.Mathlib.Decide.{dec_le}
use Rattle.rj_exchange.specs.declared.ledger.parcel.Parcel.{Parcel}
use Rattle.rj_exchange.specs.Cutting.{plan}
use Rattle.rj_exchange.specs.Standing.{Standing, nothing_yet}
use Rattle.std.specs.List.{range_with_len}
use Rattle.rj_exchange.specs.Ledgers.{LedgerValue, opened, after_all}
use Rattle.rj_exchange.specs.Lawful.{IsPlanned}
use Rattle.rj_exchange.proofs.DeliveryFacts.{contained_suffice}
use Rattle.rj_exchange.proofs.EngineFacts.{shape_stays}
use Rattle.rj_exchange.specs.declared.boxes.Outbox.{Outbox}
use Rattle.rj_exchange.specs.declared.boxes.Exchange.{Exchange}
use Rattle.rj_exchange.specs.declared.halt.Halt.{Halt}
use Rattle.rj_exchange.specs.declared.halt.HaltSeat.{HaltSeat}
use Rattle.rj_exchange.specs.declared.stripes.Stripes.{Stripes}
use Rattle.rj_exchange.specs.Boxes.{sent_of, sent_by_queue, IsOutboxOf}
use Rattle.rj_exchange.specs.Halt.{IsHaltSeatOf, AnyRaised, AnySeen}
use Rattle.rj_exchange.specs.Stripes.{held_by, Holds}
use Rattle.rj_exchange.specs.Tickets.{times, EachOnce}
use Rattle.rj_exchange.specs.Totals.{total}
use Rattle.rj_workers.proofs.Lists.{pick, any_default, get_or-map, along}
use Rattle.rj_workers.specs.declared.scan.Scanner.{Scanner}
use Rattle.rj_workers.specs.declared.take.Taker.{Taker}
use Rattle.rj_workers.specs.declared.ending.EndedPartition.{EndedPartition}
use Rattle.rj_workers.specs.Posts.{Due, Posts, posts_at, AreAllAt}
use Rattle.rj_workers.specs.Arrivals.{IsPartition, IsDelivered, AreOutboxes, stub_lists, rows_by_sender, due_lists}
use Rattle.rj_workers.specs.Internal.Scans.{KnowsHalt, AreScans, HasPostedStripe}
use Rattle.rj_workers.specs.Internal.Takes.{Builds, IsOwnedOf, AreTakes}
use Rattle.rj_workers.specs.Internal.Ends.{IsEnded, IsSettled}
use Rattle.rj_workers.proofs.Parts.{lists_at}

-- seats that have neither raised nor seen the word
abbrev pub KnowsNoHalt : HaltSeat → Type 0
KnowsNoHalt s = KnowsHalt s → ⊥

module _ {A : Type 0} where
  pub at_place : (xs : List A) (i : ℕ) (d : A) → i < length xs → get_elem? xs i ≡ some (get_or xs i d)
  at_place [] i d lt = absurd (omega arith)
  at_place (x ∷ xs) zero d lt = refl
  at_place (x ∷ xs) (suc i) d lt = at_place xs i d (omega arith)

  All_left : (P : A → Type 0) (xs ys : List A) → All P (xs ++ ys) → All P xs
  All_left P xs ys h i d lt = let n = length-append xs ys in subst P (get_or_append_left xs ys d i lt) (h i d (omega arith))

  All_right : (P : A → Type 0) (xs ys : List A) → All P (xs ++ ys) → All P ys
  All_right P xs ys h i d lt = let n = length-append xs ys in subst P (get_or-append-add xs ys i d) (h (length xs + i) d (omega arith))

  All_of_map : {B : Type 0} (xs : List A) (f : A → B) (P : B → Type 0) → All P (map f xs) → (i : ℕ) (d : A) → i < length xs → P (f (get_or xs i d))
  All_of_map xs f P h i d lt = let n = length-map xs f in subst P (get_or-map f xs i d (f d) lt) (h i (f d) (omega arith))

-- where the word was not raised, all seats are calm
pub all_know_no_halt : (ss : List HaltSeat) → (AnyRaised ss → ⊥) → (AnySeen ss → ⊥) → All KnowsNoHalt ss
all_know_no_halt ss raised seen = λ i d lt stopped. elim stopped [
  | inl r ↦ raised (i, get_or ss i d, at_place ss i d lt, r)
  | inr s ↦ seen (i, get_or ss i d, at_place ss i d lt, s)
]

-- the halt seats of all: of scanners, of takers, and the starting thread's
abbrev pub seats_of_all : {T : Type 0} → List Scanner → List (Taker T) → HaltSeat → List HaltSeat
seats_of_all rs ts own = ([] ++ map (λ (r : Scanner). r.seat) rs ++ map (λ (t : Taker _). t.seat) ts) ++ own ∷ []

module _ {T : Type 0} (due : Due) (builds : Builds T) (stripes block : ℕ) (e : Exchange) (h : Halt) (st : Stripes) (rs : List Scanner) (ts : List (Taker T)) (own : HaltSeat)
    (scans : AreScans due block stripes e h st rs) (takes : AreTakes builds e h stripes block e.outboxes ts) (mine : IsHaltSeatOf h own) where
  pub seats_are : (ss : List HaltSeat) → ss ≡ seats_of_all rs ts own → All (IsHaltSeatOf h) ss
  seats_are ss is = subst (All (IsHaltSeatOf h)) (sym is)
      (All-push (IsHaltSeatOf h) (map (λ (r : Scanner). r.seat) rs ++ map (λ (t : Taker T). t.seat) ts) own
      (All-append (IsHaltSeatOf h) (map (λ (r : Scanner). r.seat) rs) (map (λ (t : Taker T). t.seat) ts)
      (All-map (IsHaltSeatOf h) (λ (r : Scanner). r.seat) rs (λ i d lt. (scans.1 i d (let n = scans.0 in omega arith)).scanner.seat))
      (All-map (IsHaltSeatOf h) (λ (t : Taker T). t.seat) ts (λ i d lt. (takes.1 i d lt).seat)))
      mine)

  pub seats_many : (ss : List HaltSeat) → ss ≡ seats_of_all rs ts own → length ss ≡ e.outboxes + e.outboxes + 1
  seats_many ss is =
      let a = ap length is in let b = length-append (map (λ (r : Scanner). r.seat) rs ++ map (λ (t : Taker T). t.seat) ts) (own ∷ []) in let c = length-append (map (λ (r : Scanner). r.seat) rs) (map (λ (t : Taker T). t.seat) ts) in
      let m = length-map rs (λ (r : Scanner). r.seat) in let n = length-map ts (λ (t : Taker T). t.seat) in let p = scans.0 in let q = takes.0 in omega arith

  pub scans_know_no_halt : (ss : List HaltSeat) → ss ≡ seats_of_all rs ts own → All KnowsNoHalt ss → (o : ℕ) (d : Scanner) → o < e.outboxes → KnowsNoHalt (get_or rs o d).seat
  scans_know_no_halt ss is calm o d lt = All_of_map rs (λ (r : Scanner). r.seat) KnowsNoHalt
      (All_left KnowsNoHalt (map (λ (r : Scanner). r.seat) rs) (map (λ (t : Taker T). t.seat) ts)
      (All_left KnowsNoHalt (map (λ (r : Scanner). r.seat) rs ++ map (λ (t : Taker T). t.seat) ts) (own ∷ []) (subst (All KnowsNoHalt) is calm))) o d (let n = scans.0 in omega arith)

  pub takes_held : (ss : List HaltSeat) → ss ≡ seats_of_all rs ts own → All KnowsNoHalt ss → All (λ (t : Taker T). All (IsOwnedOf builds e stripes block) t.all.items) ts
  takes_held ss is calm i d lt =
      let quiet = All_of_map ts (λ (t : Taker T). t.seat) KnowsNoHalt
      (All_right KnowsNoHalt (map (λ (r : Scanner). r.seat) rs) (map (λ (t : Taker T). t.seat) ts) (All_left KnowsNoHalt (map (λ (r : Scanner). r.seat) rs ++ map (λ (t : Taker T). t.seat) ts) (own ∷ []) (subst (All KnowsNoHalt) is calm))) i d lt in
      elim (takes.1 i d lt).held [ inl s ↦ absurd (quiet s) | inr a ↦ a ]

-- a stripe that is held is some scanner's
holder_of : (rs : List Scanner) (x : ℕ) → 0 < total (times x) (map held_by (map (λ (r : Scanner). r.draws) rs)) → (o : ℕ) × (o < length rs) × ((d : Scanner) → Holds (get_or rs o d).draws x)
holder_of [] x lt = absurd (omega arith)
holder_of (r ∷ rs) x lt = dite (dec_le 1 (times x (held_by r.draws)))
    (λ le. (0, omega arith, λ d. (let l : 0 < times x (held_by r.draws) = omega arith in l)))
    (λ ne. let z : times x (held_by r.draws) < 1 = lt_of_not-le ne in let more : 0 < total (times x) (map held_by (map (λ (q : Scanner). q.draws) rs)) = omega arith in let s = holder_of rs x more in (suc s.0, (let l = s.1 in omega arith), s.2))

-- the outboxes of all scanners
module _ (due : Due) (stripes block : ℕ) (e : Exchange) (h : Halt) (st : Stripes) (rs : List Scanner) (scans : AreScans due block stripes e h st rs) where
  outbox_at : (o : ℕ) (r : Scanner) (d : Outbox) → o < e.outboxes → get_or (map (λ (z : Scanner). z.outbox) rs) o d ≡ (get_or rs o r).outbox
  outbox_at o r d lt = get_or-map (λ (z : Scanner). z.outbox) rs o r d (let n = scans.0 in omega arith)

  pub scans_outboxes : AreOutboxes e (map (λ (z : Scanner). z.outbox) rs)
  scans_outboxes = (
    length-map rs (λ (z : Scanner). z.outbox) ∙ scans.0,
    λ o d lt.
        let n = scans.0 in let within : o < length rs = omega arith in let r : Scanner = pick rs o within in let s = scans.1 o r lt in
        subst (λ (z : Outbox). IsOutboxOf e z × (z.number ≡ o)) (sym (outbox_at o r d lt)) (s.scanner.outbox, s.number),
  )

  list_at : (o : ℕ) (r : Scanner) → o < e.outboxes → map sent_of (get_or (stub_lists (map (λ (z : Scanner). z.outbox) rs)) o []) ≡ sent_by_queue (get_or rs o r).outbox
  list_at o r lt = ap (map sent_of) (lists_at e (map (λ (z : Scanner). z.outbox) rs) scans_outboxes o r.outbox lt ∙ ap (λ (z : Outbox). z.stubs.items) (outbox_at o r r.outbox lt))

-- what scanners that are calm have posted is planned, and is all of the stripes, which they hold each once
module _ (due : Due) (stripes block : ℕ) (e : Exchange) (h : Halt) (st : Stripes) (rs : List Scanner) (scans : AreScans due block stripes e h st rs)
    (calm : (o : ℕ) (d : Scanner) → o < e.outboxes → KnowsNoHalt (get_or rs o d).seat) (once : EachOnce stripes (map held_by (map (λ (r : Scanner). r.draws) rs)))
    (sized : 0 < block) where
  -- each stripe was posted by the scanner that holds it
  posted_by_some : (x : ℕ) → x < stripes → (o : ℕ) × (o < e.outboxes) × ((d : Scanner) → HasPostedStripe due block stripes e x (sent_by_queue (get_or rs o d).outbox))
  posted_by_some x lt =
      let one = (once x).0 lt in let s = holder_of rs x (omega arith) in let ol : s.0 < e.outboxes = (let a = s.1 in let n = scans.0 in omega arith) in
      (s.0, ol, λ d. elim (scans.1 s.0 d ol).posted [ inl stopped ↦ absurd (calm s.0 d ol stopped) | inr done ↦ done x (s.2 d) ])

  module _ (p : ℕ) (xs : List Parcel) (pl : p < e.partitions) (part : IsPartition e.outboxes e.lanes (stub_lists (map (λ (z : Scanner). z.outbox) rs)) p xs) where
    planned : (x : Parcel) → Contains xs x → IsPlanned due block x
    planned x c =
        let a = part.0 x c in let ol : a.0 < e.outboxes = a.2 in let n = scans.0 in let within : a.0 < length rs = omega arith in let r : Scanner = pick rs a.0 within in
        (scans.1 a.0 r ol).planned (p * e.lanes + a.1) x (along _ _ x (ap (λ (z : Posts). posts_at z (p * e.lanes + a.1)) (list_at due stripes block e h st rs scans a.0 r ol)) a.4)

    all_planned : All (IsPlanned due block) xs
    all_planned i d lt = planned (get_or xs i d) (i, lt, any_default xs i (get_or xs i d) d lt)

    arrived_of : (o s : ℕ) (r : Scanner) → o < e.outboxes → AreAllAt e (sent_by_queue (get_or rs o r).outbox) p (plan block (due s p) s p) → All (Contains xs) (plan block (due s p) s p)
    arrived_of o s r ol all i d lt =
        let x : Parcel = get_or (plan block (due s p) s p) i d in let a = all i d lt in
        part.1 o a.0 x ol a.1 (along _ _ x (ap (λ (z : Posts). posts_at z (p * e.lanes + a.0)) (sym (list_at due stripes block e h st rs scans o r ol))) a.2)

    among : (s : ℕ) → s < stripes + stripes → All (Contains xs) (plan block (due s p) s p)
    among s sl = dite (dec_le stripes s)
        (λ le.
        let x : ℕ = s - stripes in let xl : x < stripes = omega arith in let is : stripes + x ≡ s = omega arith in
        let a = posted_by_some x xl in let n = scans.0 in let ol = a.1 in let within : a.0 < length rs = omega arith in let r : Scanner = pick rs a.0 within in
        subst (λ (q : ℕ). All (Contains xs) (plan block (due q p) q p)) is (arrived_of a.0 (stripes + x) r a.1 ((a.2 r).1 p pl)))
        (λ ne.
        let xl : s < stripes = lt_of_not-le ne in
        let a = posted_by_some s xl in let n = scans.0 in let ol = a.1 in let within : a.0 < length rs = omega arith in let r : Scanner = pick rs a.0 within in
        arrived_of a.0 s r a.1 ((a.2 r).0 p pl))

    pub delivered_of : (v : LedgerValue) → v ≡ after_all (opened p (stripes + stripes) block) xs → IsDelivered due (stripes + stripes) p v
    delivered_of v is =
        let d = contained_suffice due block p (stripes + stripes) sized xs all_planned among in
        subst (IsDelivered due (stripes + stripes) p) (sym is) (record {
          partition = (shape_stays (opened p (stripes + stripes) block) xs).partition;
          senders = d.senders;
          complete = d.complete;
          rows = d.rows;
        })

  pub settled_of : {T : Type 0} (builds : Builds T) (p : ℕ) (d : EndedPartition T) → p < e.partitions → IsEnded builds (stripes + stripes) block e (stub_lists (map (λ (z : Scanner). z.outbox) rs)) p d → IsSettled builds due (stripes + stripes) p d
  settled_of builds p d pl is = let f = is.filled in record { delivered = delivered_of p f.0 pl f.1 d.ledger f.2; number = is.number; built = is.built }

-- the delivered rows of all senders
rows_from : (ss : List Standing) (f : ℕ → List ℕ) (n from : ℕ) → length ss ≡ n → ((s : ℕ) → s < n → (get_or ss s nothing_yet).rows ≡ f (from + s)) → map (λ (t : Standing). t.rows) ss ≡ map f (range_with_len from n)
rows_from [] f zero from len each = refl
rows_from [] f (suc n) from len each = absurd (omega arith)
rows_from (t ∷ ts) f zero from len each = absurd (omega arith)
rows_from (t ∷ ts) f (suc n) from len each =
    let first : t.rows ≡ f from = each 0 (omega arith) ∙ ap f (let z : from + 0 ≡ from = omega arith in z) in
    let rest = rows_from ts f n (from + 1) (omega arith) (λ s lt. each (suc s) (omega arith) ∙ ap f (let z : from + suc s ≡ from + 1 + s = omega arith in z)) in
    ap (λ (x : List ℕ). x ∷ map (λ (u : Standing). u.rows) ts) first ∙ ap (λ (l : List (List ℕ)). f from ∷ l) rest

pub delivered_rows : (due : Due) (n p : ℕ) (v : LedgerValue) → IsDelivered due n p v → rows_by_sender v ≡ due_lists due n p
delivered_rows due n p v is = rows_from v.senders (λ s. due s p) n 0 is.senders (λ s lt. is.rows s lt ∙ ap (λ (q : ℕ). due q p) (let z : s ≡ 0 + s = omega arith in z))
