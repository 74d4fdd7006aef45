-- What shares made, as it is put together.
use Rattle.std.proofs.Common.{◌≡◌, ℕ, zero, suc, ◌+◌, ◌-◌, ◌<◌, ◌≤◌, List, [], ◌∷◌, ◌++◌, length, map, get_or, sym, refl, ap, ◌∙◌, subst, arith, length-append, append-nil}
use mathlib.Core.Logic.{dite}
use native.Mathlib.Decide.{dec_lt}
use Rattle.std.specs.declared.alloc.AllocError.{AllocError}
use Rattle.std.specs.Prelude.{All, IfOk, Result, Ok}
use Rattle.std.specs.List.{flat_map, range_with_len}
use Rattle.std.specs.List.Sorted.{IsPermutation}
use Rattle.std.proofs.lemmas.List.{get_or_append_left, get_or-append-add, length-map, map-append}
use Rattle.std.proofs.lemmas.List.Concat.{flat_map-append}
use Rattle.std.proofs.lemmas.List.Elements.{All-head, All-tail, All-map}
use Rattle.std.proofs.lemmas.List.FromFn.{length-range_with_len, get_or-range_with_len}
use Rattle.std.proofs.lemmas.List.Sorted.{All-permutation, IsPermutation-append_left}
use Rattle.rj_exchange.specs.declared.halt.Halt.{Halt}
use Rattle.rj_exchange.specs.declared.halt.HaltSeat.{HaltSeat}
use Rattle.rj_exchange.specs.declared.tickets.Seat.{Seat}
use Rattle.rj_exchange.specs.declared.tickets.Tickets.{Tickets}
use Rattle.rj_exchange.specs.Halt.{AreAllHaltSeats, IsHaltSeatOf, IsUnraised, halt_seats_of}
use Rattle.rj_exchange.specs.Tickets.{AreAllSeats, IsNew, IsSeatOf, drawn_by, seats_of}
use Rattle.rj_workers.proofs.Lists.{get_or-map}
use Rattle.rj_workers.specs.declared.sharing.Drawer.{Drawer}
use Rattle.rj_workers.specs.declared.sharing.DrawerOutput.{DrawerOutput}
use Rattle.rj_workers.specs.Sharing.{AreGathered, AreMade, AreMadeBy, IsDrawerOutput, IsMadeBehind, IsMadeOfEach, IsNewDrawer}

range_more : (a n k : ℕ) → a + n ≡ k → range_with_len a (suc n) ≡ range_with_len a n ++ k ∷ []
range_more a zero k e = let z : a ≡ k = omega arith in ap (λ m. m ∷ []) z
range_more a (suc n) k e = ap (λ l. a ∷ l) (range_more (a + 1) n k (omega arith))

-- what holds of all that a list is mapped to
all_under : {A B : Type 0} (P : B → Type 0) (f : A → B) (xs : List A) (ys : List B) → ys ≡ map f xs → All P ys → All (λ x. P (f x)) xs
all_under P f xs ys e all i d lt =
    let long = ap length e in let same = length-map xs f in
    subst P (get_or-map f xs i d (f d) lt) (subst (λ l. P (get_or l i (f d))) e (all i (f d) (omega arith)))

-- a worker with each of the seats
pub new_drawers : (t : Tickets) (h : Halt) (ds : List Drawer) (draws : List Seat) (seats : List HaltSeat) → draws ≡ map (λ d. d.draws) ds → seats ≡ map (λ d. d.seat) ds
    → All (IsSeatOf t) draws → All IsNew draws → All (IsHaltSeatOf h) seats → All (IsNewDrawer t h) ds
new_drawers t h ds draws seats a b own new at i d lt = (
  record { draws = all_under (IsSeatOf t) (λ (z : Drawer). z.draws) ds draws a own i d lt; seat = all_under (IsHaltSeatOf h) (λ (z : Drawer). z.seat) ds seats b at i d lt },
  (all_under IsNew (λ (z : Drawer). z.draws) ds draws a new i d lt).0,
)

module _ {T : Type 0} where
  -- what one worker more hands back
  pub gathered_more : (results more : List (Result (DrawerOutput T) AllocError)) (draws draws2 : List Seat) (seats seats2 : List HaltSeat) (made made2 : List T) (r : _) (o : DrawerOutput T)
      → more ≡ results ++ r ∷ [] → r ≡ Ok o → draws2 ≡ draws ++ o.drawer.draws ∷ [] → seats2 ≡ seats ++ o.drawer.seat ∷ [] → made2 ≡ made ++ o.made.items
      → AreGathered results draws seats made → AreGathered more draws2 seats2 made2
  gathered_more results more draws draws2 seats seats2 made made2 r o next ok a b c g = let of : DrawerOutput T → Result (DrawerOutput T) AllocError = Ok in record {
    outputs = g.outputs ++ o ∷ [];
    all_are = next ∙ rw (ok, g.all_are) (sym (map-append of g.outputs (o ∷ [])));
    draws_are = rw (a, g.draws_are, map-append (λ (z : DrawerOutput T). z.drawer.draws) g.outputs (o ∷ [])) refl;
    seats_are = rw (b, g.seats_are, map-append (λ (z : DrawerOutput T). z.drawer.seat) g.outputs (o ∷ [])) refl;
    made_are = rw (c, g.made_are, flat_map-append (λ (z : DrawerOutput T). z.made.items) g.outputs (o ∷ []), append-nil o.made.items) refl;
  }

module _ {T : Type 0} (makes : ℕ → T → Type 0) where
  by_one : (n : ℕ) (x : T) → makes n x → AreMadeBy makes (n ∷ []) (x ∷ [])
  by_one n x made = (refl, at) where
    at : (i k : ℕ) (d : T) → i < 1 → makes (get_or (n ∷ []) i k) (get_or (x ∷ []) i d)
    at zero k d lt = made
    at (suc i) k d lt = absurd (omega arith)

  pub by_both : (ms ns : List ℕ) (xs ys : List T) → AreMadeBy makes ms xs → AreMadeBy makes ns ys → AreMadeBy makes (ms ++ ns) (xs ++ ys)
  by_both ms ns xs ys a b = (
    (let l = length-append ms ns in let m = length-append xs ys in let n = a.0 in let o = b.0 in omega arith),
    λ i k d lt. let len = a.0 in let whole = length-append xs ys in dite (dec_lt i (length xs))
        (λ l.
        let n = get_or_append_left ms ns k i (omega arith) in let x = get_or_append_left xs ys d i l in
        subst (λ m. makes m (get_or (xs ++ ys) i d)) (sym n) (subst (makes (get_or ms i k)) (sym x) (a.1 i k d l)))
        (λ nl. later i k d (omega arith) (omega arith)),
  ) where
    later : (i k : ℕ) (d : T) → length xs ≤ i → i < length xs + length ys → makes (get_or (ms ++ ns) i k) (get_or (xs ++ ys) i d)
    later i k d le lt =
        let j : ℕ = i - length xs in let len = a.0 in
        let at_x : get_or (xs ++ ys) i d ≡ get_or ys j d = ap (λ z. get_or (xs ++ ys) z d) (let e : i ≡ length xs + j = omega arith in e) ∙ get_or-append-add xs ys j d in
        let at_m : get_or (ms ++ ns) i k ≡ get_or ns j k = ap (λ z. get_or (ms ++ ns) z k) (let e : i ≡ length ms + j = omega arith in e) ∙ get_or-append-add ms ns j k in
        subst (λ m. makes m (get_or (xs ++ ys) i d)) (sym at_m) (subst (makes (get_or ns j k)) (sym at_x) (b.1 j k d (omega arith)))

  -- one share more
  pub by_more : (ms ns : List ℕ) (n : ℕ) (old new : List T) → ns ≡ ms ++ n ∷ [] → AreMadeBy makes ms old → IsMadeBehind makes n old new → AreMadeBy makes ns new
  by_more ms ns n old new is made behind =
      let both = by_both ms (n ∷ []) old (behind.0 ∷ []) made (by_one n behind.0 behind.1) in
      subst (λ l. AreMadeBy makes l new) (sym is) (subst (AreMadeBy makes (ms ++ n ∷ [])) (sym behind.2) both)

  -- what workers that have neither raised nor seen the word hand back
  pub by_workers : (t : Tickets) (h : Halt) (os : List (DrawerOutput T)) → All (IsDrawerOutput makes t h) os → All IsUnraised (map (λ o. o.drawer.seat) os)
      → AreMadeBy makes (flat_map drawn_by (map (λ o. o.drawer.draws) os)) (flat_map (λ o. o.made.items) os)
  by_workers t h [] outputs calm = (refl, λ i k d lt. absurd (omega arith))
  by_workers t h (o ∷ os) outputs calm =
      by_both (drawn_by o.drawer.draws) (flat_map drawn_by (map (λ z. z.drawer.draws) os)) o.made.items (flat_map (λ z. z.made.items) os)
      ((All-head (IsDrawerOutput makes t h) o os outputs).made (All-head IsUnraised o.drawer.seat (map (λ z. z.drawer.seat) os) calm))
      (by_workers t h os (All-tail (IsDrawerOutput makes t h) o os outputs) (All-tail IsUnraised o.drawer.seat (map (λ z. z.drawer.seat) os) calm))

  -- the seats are all that were opened, and where none has raised or seen the word, the shares that they drew made the list
  pub record GatheredSeats (t : Tickets) (h : Halt) (draws : List Seat) (seats : List HaltSeat) (made : List T) : Type 0 where
    pub draws_are : AreAllSeats t draws
    pub seats_are : AreAllHaltSeats h seats
    pub made_are : All IsUnraised seats → AreMadeBy makes (flat_map drawn_by draws) made

  pub gathered_seats : {results : List (Result (DrawerOutput T) AllocError)} {draws : List Seat} {seats : List HaltSeat} {made : List T} (t : Tickets) (h : Halt)
      (drawers : List Drawer) (opened : List Seat) → map (λ d. d.draws) drawers ≡ opened → AreAllSeats t opened → halt_seats_of h ≡ seats_of t → length results ≡ length drawers
      → ((k : ℕ) (d : Result (DrawerOutput T) AllocError) → k < length drawers → IfOk (get_or results k d) (IsDrawerOutput makes t h))
      → AreGathered results draws seats made → GatheredSeats t h draws seats made
  gathered_seats {results = results} t h drawers opened is all same long each g =
      let of : DrawerOutput T → Result (DrawerOutput T) AllocError = Ok in
      let each2 : All (λ r. IfOk r (IsDrawerOutput makes t h)) results = λ k d lt. each k d (omega arith) in
      let outputs : All (IsDrawerOutput makes t h) g.outputs = all_under (λ r. IfOk r (IsDrawerOutput makes t h)) of g.outputs results g.all_are each2 in
      let given = ap length is in let held = length-map drawers (λ (d : Drawer). d.draws) in let many = all.0 in
      let back = ap length g.all_are ∙ length-map g.outputs of in
      let n = length-map g.outputs (λ (o : DrawerOutput T). o.drawer.draws) in let m = length-map g.outputs (λ (o : DrawerOutput T). o.drawer.seat) in
      rw (g.draws_are, g.seats_are, g.made_are) (record {
        draws_are = ((omega arith), All-map (IsSeatOf t) (λ (o : DrawerOutput T). o.drawer.draws) g.outputs (λ i d lt. (outputs i d lt).drawer.draws));
        seats_are = ((omega arith), All-map (IsHaltSeatOf h) (λ (o : DrawerOutput T). o.drawer.seat) g.outputs (λ i d lt. (outputs i d lt).drawer.seat));
        made_are = by_workers t h g.outputs outputs;
      })

  pub each_more : (n : ℕ) (old new : List T) → IsMadeOfEach makes n old → IsMadeBehind makes n old new → IsMadeOfEach makes (n + 1) new
  each_more n old new made behind = record {
    numbers = made.numbers ++ n ∷ [];
    each =
        let on : n + 1 ≡ suc n = omega arith in
        let more : range_with_len 0 (n + 1) ≡ range_with_len 0 n ++ n ∷ [] = ap (range_with_len 0) on ∙ range_more 0 n n (omega arith) in
        subst (λ l. IsPermutation l (made.numbers ++ n ∷ [])) (sym more) (IsPermutation-append_left (n ∷ []) (range_with_len 0 n) made.numbers made.each);
    made = by_more made.numbers (made.numbers ++ n ∷ []) n old new refl made.made behind;
  }

  pub each_is_made : (n : ℕ) (all : List T) → IsMadeOfEach makes n all → AreMade makes n all
  each_is_made n all made =
      let below : All (λ k. k < n) (range_with_len 0 n) = λ i d lt. (let l = length-range_with_len 0 n in let g = get_or-range_with_len 0 n i d (omega arith) in omega arith) in
      let under = All-permutation (λ k. k < n) (range_with_len 0 n) made.numbers made.each below in
      λ i d lt. (get_or made.numbers i 0, under i 0 (let l = made.made.0 in omega arith), made.made.1 i 0 d lt)
