-- Workers that were dealt their outboxes and seats in order.
use Rattle.std.proofs.Common.{◌≡◌, ℕ, ◌<◌, List, [], ◌∷◌, ◌++◌, length, map, get_or, sym, ap, ◌∙◌, subst, arith, append_assoc}
use Rattle.std.specs.Prelude.{All}
use Rattle.std.proofs.lemmas.List.{map-append, length-map}
use Rattle.std.proofs.lemmas.List.Elements.{All-nil, All-cons, All-head, All-tail}
use Rattle.rj_exchange.specs.declared.boxes.Exchange.{Exchange}
use Rattle.rj_exchange.specs.declared.boxes.Outbox.{Outbox}
use Rattle.rj_exchange.specs.declared.halt.Halt.{Halt}
use Rattle.rj_exchange.specs.declared.halt.HaltSeat.{HaltSeat}
use Rattle.rj_exchange.specs.declared.stripes.StripeSeat.{StripeSeat}
use Rattle.rj_exchange.specs.declared.stripes.Stripes.{Stripes}
use Rattle.rj_exchange.specs.declared.tickets.Tickets.{Tickets}
use Rattle.rj_exchange.specs.Boxes.{sent_by_queue, IsOutboxOf}
use Rattle.rj_exchange.specs.Halt.{IsHaltSeatOf}
use Rattle.rj_exchange.specs.Tickets.{IsSeatOf}
use Rattle.rj_workers.specs.declared.scan.Scanner.{Scanner}
use Rattle.rj_workers.specs.declared.take.Taker.{Taker}
use Rattle.rj_workers.specs.declared.coordination.Coordination.{Coordination}
use Rattle.rj_workers.specs.declared.coordination.Seats.{Seats}
use Rattle.rj_workers.specs.declared.workers.NewWorkers.{NewWorkers}
use Rattle.rj_workers.specs.Posts.{NothingPosted}
use Rattle.rj_workers.specs.Internal.Scans.{AreNewOutboxes, IsFreshStripeSeat, scanner_seats}
use Rattle.rj_workers.specs.Internal.Takes.{taker_seats, taker_done_seats}
use Rattle.rj_workers.specs.Internal.Workers.{AreNewWorkersOf, AreSeats, AreWorkersWith}
use Rattle.rj_workers.proofs.Lists.{get_or-map}
use Rattle.rj_workers.proofs.Posts.{next_is}

module _ {A B : Type 0} (f : B → A) where
  -- one more has its own
  pub dealt_more : (old new : List B) (b : B) (left more all : List A) → new ≡ old ++ b ∷ [] → left ≡ f b ∷ more → map f old ++ left ≡ all → map f new ++ more ≡ all
  dealt_more old new b left more all is step whole = ap (λ l. map f l ++ more) is ∙ ap (λ l. l ++ more) (map-append f old (b ∷ [])) ∙ next_is (map f old) left more all (f b) step whole

  pub dealt_all : (old new : List B) (b : B) (xs : List A) → new ≡ old ++ b ∷ [] → map f old ≡ xs → map f new ≡ xs ++ f b ∷ []
  dealt_all old new b xs is same = ap (map f) is ∙ map-append f old (b ∷ []) ∙ ap (λ l. l ++ f b ∷ []) same

  -- what holds of all holds of each one's own, and of what is left
  pub each_dealt : (P : A → Type 0) (bs : List B) (left : List A) → All P (map f bs ++ left) → All (λ b. P (f b)) bs × All P left
  each_dealt P [] left h = (All-nil (λ b. P (f b)), h)
  each_dealt P (b ∷ bs) left h =
      let r = each_dealt P bs left (All-tail P (f b) (map f bs ++ left) h) in
      (All-cons (λ z. P (f z)) b bs (All-head P (f b) (map f bs ++ left) h) r.0, r.1)

  pub own_dealt : (P : A → Type 0) (bs : List B) (all : List A) → map f bs ≡ all → All P all → All (λ b. P (f b)) bs
  own_dealt P bs all is h k d lt =
      let n = length-map bs f in let there : k < length (map f bs) = omega arith in
      subst P (get_or-map f bs k d (f d) lt) (subst (All P) (sym is) h k (f d) there)

module _ {T : Type 0} (e : Exchange) (w : Coordination) (n : ℕ) (os : List Outbox) (s : Seats) (x : NewWorkers T) (own : HaltSeat)
    (many : e.outboxes ≡ n) (opened : AreNewOutboxes e n os) (seats : AreSeats w n s) (has : AreWorkersWith os s x own) where
  abbrev rs : List Scanner
  rs = x.scanners.items

  abbrev ts : List (Taker T)
  ts = x.takers.items

  abbrev halt : HaltSeat → Type 0
  halt = IsHaltSeatOf w.halt

  abbrev done : HaltSeat → Type 0
  done = IsHaltSeatOf w.done

  at_halt : All halt (own ∷ (scanner_seats rs ++ (taker_seats ts ++ has.at_halt.0)))
  at_halt = subst (All halt) (sym has.at_halt.1 ∙ append_assoc (own ∷ scanner_seats rs) (taker_seats ts) has.at_halt.0) seats.at_halt

  at_done : All done (x.over ∷ (taker_done_seats ts ++ has.at_done.0))
  at_done = subst (All done) (sym has.at_done.1) seats.at_done

  dealt : All (λ (r : Scanner). halt r.seat) rs × All halt (taker_seats ts ++ has.at_halt.0)
  dealt = each_dealt (λ (r : Scanner). r.seat) halt rs (taker_seats ts ++ has.at_halt.0) (All-tail halt own _ at_halt)

  pub new_own : IsHaltSeatOf w.halt own
  new_own = All-head halt own _ at_halt

  many_scanners : length rs ≡ e.outboxes
  many_scanners = sym (length-map rs (λ (r : Scanner). r.outbox)) ∙ ap length has.outboxes ∙ opened.0 ∙ sym many

  many_takers : length ts ≡ e.outboxes
  many_takers = sym (length-map ts (λ (t : Taker T). t.draws)) ∙ ap length has.at_tickets ∙ seats.takers ∙ sym many

  pub new_workers : AreNewWorkersOf e w.halt w.done w.stripes w.tickets x
  new_workers =
      let fresh : StripeSeat → Type 0 = IsFreshStripeSeat w.stripes in
      let drawn = (each_dealt (λ (r : Scanner). r.draws) fresh rs has.at_stripes.0 (subst (All fresh) (sym has.at_stripes.1) seats.at_stripes)).0 in
      let halts = (each_dealt (λ (t : Taker T). t.seat) halt ts has.at_halt.0 dealt.1).0 in
      let dones = (each_dealt (λ (t : Taker T). t.done_seat) done ts has.at_done.0 (All-tail done x.over _ at_done)).0 in
      let tickets = own_dealt (λ (t : Taker T). t.draws) (IsSeatOf w.tickets) ts s.tickets.items has.at_tickets seats.at_tickets in record {
        scanning = (
          many_scanners,
          λ k d lt.
              let within : k < length rs = (let m = many_scanners in omega arith) in let below : k < n = (let m = many in omega arith) in
              let same : get_or os k d.outbox ≡ (get_or rs k d).outbox = ap (λ l. get_or l k d.outbox) (sym has.outboxes) ∙ get_or-map (λ (r : Scanner). r.outbox) rs k d d.outbox within in
              let box = subst (λ (o : Outbox). IsOutboxOf e o × (o.number ≡ k) × NothingPosted (sent_by_queue o)) same (opened.1 k d.outbox below) in
              let draws = drawn k d within in
              record { scanner = record { outbox = box.0; seat = dealt.0 k d within; draws = draws.0 }; number = box.1; posted = box.2; held = draws.1 },
        );
        taking = λ k d lt. (record { seat = halts k d lt; done_seat = dones k d lt; draws = tickets k d lt }, has.empty k d lt);
        many = many_takers;
        looking = All-head done x.over _ at_done;
      }

  -- of what is shared, which is these
  pub shared_workers : (f : Exchange) (h o : Halt) (st : Stripes) (t : Tickets) → f ≡ e → (h ≡ w.halt) × (o ≡ w.done) × (st ≡ w.stripes) × (t ≡ w.tickets) → AreNewWorkersOf f h o st t x
  shared_workers f h o st t is words =
      subst (λ (z : Exchange × Halt × Halt × Stripes × Tickets). AreNewWorkersOf z.0 z.1 z.2 z.3 z.4 x) (λ i. (sym is i, sym words.0 i, sym words.1 i, sym words.2 i, sym words.3 i)) new_workers

  pub shared_own : (h : Halt) → h ≡ w.halt → IsHaltSeatOf h own
  shared_own h is = subst (λ (z : Halt). IsHaltSeatOf z own) (sym is) new_own
