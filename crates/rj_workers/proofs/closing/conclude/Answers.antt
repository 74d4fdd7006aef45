use Rattle.std.proofs.Common.{◌≡◌, ◌<◌, ◌+◌, ◌++◌, ◌∷◌, [], ℕ, List, Vec, Global, map, get_or, sym, ap, ◌∙◌, subst, refl}
use Rattle.std.specs.Prelude.{All}
use Rattle.std.proofs.lemmas.List.{length-map}
use Rattle.std.proofs.lemmas.List.Elements.{All-map}
use Rattle.rj_exchange.specs.declared.boxes.Exchange.{Exchange}
use Rattle.rj_exchange.specs.declared.boxes.Outbox.{Outbox}
use Rattle.rj_exchange.specs.declared.halt.HaltSeat.{HaltSeat}
use Rattle.rj_exchange.specs.declared.stripes.StripeSeat.{StripeSeat}
use Rattle.rj_exchange.specs.Stripes.{IsStripeSeatOf, held_by, AreAllStripeSeats}
use Rattle.rj_exchange.specs.Tickets.{EachOnce}
use Rattle.rj_workers.specs.declared.scan.Scanner.{Scanner}
use Rattle.rj_workers.specs.declared.take.Taker.{Taker}
use Rattle.rj_workers.specs.declared.take.OwnedPartition.{OwnedPartition}
use Rattle.rj_workers.specs.Posts.{Due}
use Rattle.rj_workers.specs.Arrivals.{AreOutboxes, stub_lists}
use Rattle.rj_workers.specs.Internal.Takes.{Builds, IsOwnedOf}
use Rattle.rj_workers.specs.Internal.Ends.{IsEnded}
use Rattle.rj_workers.proofs.Wholes.{seats_of_all, seats_are, seats_many, all_know_no_halt, scans_know_no_halt, takes_held, scans_outboxes, settled_of}
use Rattle.rj_workers.proofs.closing.conclude.Goals as goal

-- the seats of all, from how they were put behind one another
all_seats : {T : Type 0} (old a b c : List HaltSeat) (rs : List Scanner) (ts : List (Taker T)) (own : HaltSeat) → old ≡ [] → a ≡ old ++ map (λ (r : Scanner). r.seat) rs
    → b ≡ a ++ map (λ (t : Taker T). t.seat) ts → c ≡ b ++ own ∷ [] → c ≡ seats_of_all rs ts own
all_seats old a b c rs ts own e f g h = h ∙ ap (λ (l : List HaltSeat). l ++ own ∷ []) (g ∙ ap (λ (l : List HaltSeat). l ++ map (λ (t : Taker _). t.seat) ts) (f ∙ ap (λ (l : List HaltSeat). l ++ map (λ (r : Scanner). r.seat) rs) e))

all_draws : (old a : List StripeSeat) (rs : List Scanner) → old ≡ [] → a ≡ old ++ map (λ (r : Scanner). r.draws) rs → a ≡ map (λ (r : Scanner). r.draws) rs
all_draws old a rs e f = f ∙ ap (λ (l : List StripeSeat). l ++ map (λ (r : Scanner). r.draws) rs) e

pub is_unraised-requires : goal.is_unraised-requires
is_unraised-requires g c =
    let is = all_seats c.new-seats.result.items c.hand_scanned.new.seats.items c.hand_taken.new.seats.items c.add.new.list.items c.args.back.scanners.items c.args.back.takers.items c.args.own
    c.new-seats.ensures.items c.in_ok-outboxes.ensures.seats c.in_ok-groups.ensures.seats c.in_ok-add.ensures in
    let due : Due = g.J.Job.due c.args.shared.now.job.now in let builds : Builds _ = g.J.Job.builds c.args.shared.now.job.now in let e : Exchange = c.args.shared.now.exchange.now in let r = c.requires in (
      seats_many due builds c.args.shared.now.settings.workers c.args.shared.now.settings.block e c.args.words.halt c.args.words.stripes c.args.back.scanners.items c.args.back.takers.items
          c.args.own r.back.scanned r.back.taken r.own c.add.new.list.items is ∙ ap (λ (n : ℕ). n + n + 1) r.words.1 ∙ sym r.words.0.halt_seats,
      seats_are due builds c.args.shared.now.settings.workers c.args.shared.now.settings.block e c.args.words.halt c.args.words.stripes c.args.back.scanners.items c.args.back.takers.items
          c.args.own r.back.scanned r.back.taken r.own c.add.new.list.items is,
    )

pub are_scanned-requires : goal.are_scanned-requires
are_scanned-requires g c =
    let rs : List Scanner = c.args.back.scanners.items in let scans = c.requires.back.scanned in let e : Exchange = c.args.shared.now.exchange.now in
    let is = all_draws c.new-draws.result.items c.hand_scanned.new.draws.items rs c.new-draws.ensures.items c.in_ok-outboxes.ensures.draws in
    subst (AreAllStripeSeats c.args.words.stripes) (sym is) (
      length-map rs (λ (r : Scanner). r.draws) ∙ scans.0 ∙ sym (c.requires.words.0.stripe_seats ∙ sym c.requires.words.1),
      All-map (IsStripeSeatOf c.args.words.stripes) (λ (r : Scanner). r.draws) rs (λ i d lt. (scans.1 i d (subst (λ (n : ℕ). i < n) scans.0 lt)).scanner.draws),
    )

pub place_all-requires : goal.place_all-requires
place_all-requires g c =
    let is = all_seats c.new-seats.result.items c.hand_scanned.new.seats.items c.hand_taken.new.seats.items c.add.new.list.items c.args.back.scanners.items c.args.back.takers.items c.args.own
    c.new-seats.ensures.items c.in_ok-outboxes.ensures.seats c.in_ok-groups.ensures.seats c.in_ok-add.ensures in
    let due : Due = g.J.Job.due c.args.shared.now.job.now in let builds : Builds _ = g.J.Job.builds c.args.shared.now.job.now in let e : Exchange = c.args.shared.now.exchange.now in let r = c.requires in
    let count : ℕ = c.args.shared.now.settings.workers in let block : ℕ = c.args.shared.now.settings.block in
    let calm = all_know_no_halt c.add.new.list.items (c.if-not-is_unraised.ensures.raised refl) (c.if-not-is_unraised.ensures.seen refl) in
    let owned = takes_held due builds count block e c.args.words.halt c.args.words.stripes c.args.back.scanners.items c.args.back.takers.items c.args.own r.back.scanned r.back.taken r.own c.add.new.list.items is calm in
    subst (All (λ (v : Vec (OwnedPartition _) Global). All (IsOwnedOf builds e count block) v.items)) (sym c.in_ok-groups.ensures.groups)
    (All-map (λ (v : Vec (OwnedPartition _) Global). All (IsOwnedOf builds e count block) v.items) (λ (t : Taker _). t.all) c.args.back.takers.items owned)

pub finish_all-requires-clause-outboxes : goal.finish_all-requires-clause-outboxes
finish_all-requires-clause-outboxes g c =
    let is = all_seats c.new-seats.result.items c.hand_scanned.new.seats.items c.hand_taken.new.seats.items c.add.new.list.items c.args.back.scanners.items c.args.back.takers.items c.args.own
    c.new-seats.ensures.items c.in_ok-outboxes.ensures.seats c.in_ok-groups.ensures.seats c.in_ok-add.ensures in
    let due : Due = g.J.Job.due c.args.shared.now.job.now in let builds : Builds _ = g.J.Job.builds c.args.shared.now.job.now in let e : Exchange = c.args.shared.now.exchange.now in let r = c.requires in
    let count : ℕ = c.args.shared.now.settings.workers in let block : ℕ = c.args.shared.now.settings.block in
    subst (AreOutboxes e) (sym c.in_ok-outboxes.ensures.outboxes) (scans_outboxes due count block e c.args.words.halt c.args.words.stripes c.args.back.scanners.items r.back.scanned)

pub returns-clause-each : goal.returns-clause-each
returns-clause-each g c =
    let is = all_seats c.new-seats.result.items c.hand_scanned.new.seats.items c.hand_taken.new.seats.items c.add.new.list.items c.args.back.scanners.items c.args.back.takers.items c.args.own
    c.new-seats.ensures.items c.in_ok-outboxes.ensures.seats c.in_ok-groups.ensures.seats c.in_ok-add.ensures in
    let due : Due = g.J.Job.due c.args.shared.now.job.now in let builds : Builds _ = g.J.Job.builds c.args.shared.now.job.now in let e : Exchange = c.args.shared.now.exchange.now in let r = c.requires in
    let count : ℕ = c.args.shared.now.settings.workers in let block : ℕ = c.args.shared.now.settings.block in let rs : List Scanner = c.args.back.scanners.items in
    let calm = all_know_no_halt c.add.new.list.items (c.if-not-is_unraised.ensures.raised refl) (c.if-not-is_unraised.ensures.seen refl) in
    let quiet = scans_know_no_halt due builds count block e c.args.words.halt c.args.words.stripes rs c.args.back.takers.items c.args.own r.back.scanned r.back.taken r.own c.add.new.list.items is calm in
    let drew = all_draws c.new-draws.result.items c.hand_scanned.new.draws.items rs c.new-draws.ensures.items c.in_ok-outboxes.ensures.draws in
    let each : EachOnce c.args.words.stripes.limit (map held_by c.hand_scanned.new.draws.items) = c.if-not-are_scanned.ensures refl in
    let once : EachOnce count (map held_by (map (λ (z : Scanner). z.draws) rs)) = subst (λ (n : ℕ). EachOnce n (map held_by (map (λ (z : Scanner). z.draws) rs))) r.words.0.drawn
    (subst (λ (l : List StripeSeat). EachOnce c.args.words.stripes.limit (map held_by l)) drew each) in
    λ p d pl. settled_of due count block e c.args.words.halt c.args.words.stripes rs r.back.scanned quiet once r.block builds p (get_or c.in_ok-all.all.items p d) pl
    (subst (λ (l : List Outbox). IsEnded builds (count + count) block e (stub_lists l) p (get_or c.in_ok-all.all.items p d)) c.in_ok-outboxes.ensures.outboxes (c.in_ok-all.ensures.each p d pl))
