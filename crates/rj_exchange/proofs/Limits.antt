-- What Full and None say, and what they can't: where another outbox may post, Full can come whatever this one has sent, and to an inbox that has heard of no end None can come whatever was sent.
use Rattle.std.proofs.Common.{◌≡◌, ◌≢◌, ℕ, zero, suc, ◌<◌, ◌≤◌, true, true≢false, cond, eqb, List, [], ◌∷◌, ◌++◌, map, length, sym, refl, ap, ◌∙◌, subst, arith, length-append, All}
use Rattle.std.proofs.Math.Nat.{mod-eq_of_lt}
use Rattle.std.proofs.lemmas.List.Elements.{All-nil, All-cons, All-head, All-tail}
use mathlib.Core.Option.{some, some-injective, some-ne-none}
use lib.ListN.{get_elem?}
use Rattle.crossbeam_queue.specs.Fifo.{Held}
use Rattle.rj_exchange.specs.declared.ledger.parcel.Parcel.{Parcel}
use Rattle.rj_exchange.specs.declared.ledger.parcel.Body.TheVariants.{Close}
use Rattle.rj_exchange.specs.declared.posted.Posted.{Posted}
use Rattle.rj_exchange.specs.declared.queue.Where.{Where}
use Rattle.rj_exchange.specs.declared.queue.Trace.{Trace}
use Rattle.rj_exchange.specs.Passing.{of, Belongs, taker, sender, FitsSender, FitsTaker, Passing, HeldAt, Left, posted_by}
use Rattle.rj_exchange.proofs.Of.{chosen, passed, of-append, append_none}

-- n parcels of outbox j
fill : Where → ℕ → ℕ → List Posted
fill p j zero = []
fill p j (suc n) = posted_by j (record { sender = 0; partition = p.partition; number = p.lane; body = Close }) ∷ fill p j n

length-fill : (p : Where) (j n : ℕ) → length (fill p j n) ≡ n
unfolding fill
length-fill p j zero = refl
length-fill p j (suc n) = ap suc (length-fill p j n)

fill_belongs : (p : Where) (j n : ℕ) → p.lane < p.lanes → j < p.outboxes → All (Belongs p) (fill p j n)
unfolding fill
fill_belongs p j zero lane below = All-nil (Belongs p)
fill_belongs p j (suc n) lane below = All-cons (Belongs p) _ (fill p j n) (refl, mod-eq_of_lt lane, below) (fill_belongs p j n lane below)

of-fill : (p : Where) (k j n : ℕ) → j ≢ k → of k (fill p j n) ≡ []
unfolding fill
of-fill p k j zero ne = refl
of-fill p k j (suc n) ne = passed j k _ _ ne ∙ of-fill p k j n ne

-- beside another outbox, Full is allowed whatever this one has sent
pub others_fill : (p : Where) (k j n : ℕ) (sent : List Parcel) → p.lane < p.lanes → j < p.outboxes → j ≢ k → Held n (HeldAt p k sent)
others_fill p k j n sent lane below ne = (fill p j n, length-fill p j n, (fill_belongs p j n lane below, (sent, sym (append_none sent) ∙ ap (λ l. sent ++ l) (sym (of-fill p k j n ne)))))

-- an inbox that has heard of no end is allowed None whatever it has taken
pub none_untold : (p : Where) (made : ℕ) (taken : List Posted) → 0 < made → Left (taker p made taken []) []
none_untold p made taken some_made = (All-nil (Belongs p), (λ k lt. absurd (omega arith), λ all. absurd (omega arith)))

-- what one outbox sent has all its parcels, and none of another
of_own : (k : ℕ) (xs : List Parcel) → of k (map (posted_by k) xs) ≡ xs
of_own k [] = refl
of_own k (x ∷ xs) = chosen k k _ _ refl ∙ ap (λ l. x ∷ l) (of_own k xs)

of_other : (k j : ℕ) (xs : List Parcel) → k ≢ j → of j (map (posted_by k) xs) ≡ []
of_other k j [] ne = refl
of_other k j (x ∷ xs) ne = passed k j _ _ ne ∙ of_other k j xs ne

of_past : (p : Where) (j : ℕ) (xs : List Posted) → p.outboxes ≤ j → All (Belongs p) xs → of j xs ≡ []
of_past p j [] le all = refl
of_past p j (x ∷ xs) le all = let head = All-head (Belongs p) x xs all in passed x.outbox j _ _ (λ e. let lt = head.2 in omega arith) ∙ of_past p j xs le (All-tail (Belongs p) x xs all)

-- an inbox that took what outbox k sent before, and this outbox
abbrev two_views : Where → ℕ → List Parcel → List Parcel → List Trace
two_views p k before sent = taker p p.outboxes (map (posted_by k) before) [] ∷ sender p k sent ∷ []

abbrev owned : ℕ → ℕ → ℕ
owned k j = cond (eqb j k) 1 0

module _ (p : Where) (k : ℕ) (sent before : List Parcel) (items : List Posted) (below : k < p.outboxes) (belong : All (Belongs p) items) (last : sent ≡ before ++ of k items) where
  fits_sender : FitsSender 0 (owned k) p (map (posted_by k) before ++ items) 1 (sender p k sent)
  fits_sender = record { mine = chosen k k 1 0 refl; other = λ e. omega arith; sent = last ∙ ap (λ l. l ++ of k items) (sym (of_own k before)) ∙ sym (of-append k (map (posted_by k) before) items); there = refl }

  fits_taker : FitsTaker 0 (owned k) p (map (posted_by k) before) items 0 (taker p p.outboxes (map (posted_by k) before) [])
  fits_taker = record {
    only = refl;
    taken = refl;
    later = λ j le. let ne : j ≢ k = λ e. omega arith in (
      passed j k 1 0 ne,
      of-append j (map (posted_by k) before) items ∙ ap (λ l. l ++ of j items) (of_other k j before (λ e. ne (sym e))) ∙ of_past p j items le belong,
    );
    ended = λ j lt. absurd (omega arith);
    known = omega arith;
    there = λ _. refl;
    unplaced = λ e. absurd (true≢false e);
  }

  send : (pass : ℕ) (v : Trace) → get_elem? (two_views p k before sent) pass ≡ some v → v.sends ≡ true → FitsSender 0 (owned k) p (map (posted_by k) before ++ items) pass v
  send zero v e is = absurd (true≢false (sym is ∙ ap (λ (z : Trace). z.sends) (sym (some-injective _ v e))))
  send (suc zero) v e is = subst (FitsSender 0 (owned k) p (map (posted_by k) before ++ items) 1) (some-injective _ v e) fits_sender
  send (suc (suc pass)) v e is = absurd (some-ne-none v (sym e))

  take : (pass : ℕ) (v : Trace) → get_elem? (two_views p k before sent) pass ≡ some v → v.takes ≡ true → FitsTaker 0 (owned k) p (map (posted_by k) before) items pass v
  take zero v e is = subst (FitsTaker 0 (owned k) p (map (posted_by k) before) items 0) (some-injective _ v e) fits_taker
  take (suc zero) v e is = absurd (true≢false (sym is ∙ ap (λ (z : Trace). z.takes) (sym (some-injective _ v e))))
  take (suc (suc pass)) v e is = absurd (some-ne-none v (sym e))

-- each queue of which Full may tell an outbox is one that the rule admits: an inbox took what the outbox sent before
pub held_is_all : (p : Where) (k : ℕ) (sent : List Parcel) (items : List Posted) → k < p.outboxes → (h : HeldAt p k sent items) → Passing items (two_views p k h.1.0 sent)
held_is_all p k sent items below h = record {
  reader = 0;
  owner = owned k;
  place = p;
  got = map (posted_by k) h.1.0;
  belong = h.0;
  senders = send p k sent h.1.0 items below h.0 h.1.1;
  takers = take p k sent h.1.0 items below h.0 h.1.1;
}

-- where there is one outbox, what the queue holds is what this one sent last
of_all : (p : Where) (xs : List Posted) → p.outboxes ≡ 1 → All (Belongs p) xs → length (of 0 xs) ≡ length xs
of_all p [] one all = refl
of_all p (x ∷ xs) one all = let head = All-head (Belongs p) x xs all in
    ap length (chosen x.outbox 0 _ _ (let lt = head.2 in omega arith)) ∙ ap suc (of_all p xs one (All-tail (Belongs p) x xs all))

pub full_alone : (p : Where) (n : ℕ) (sent : List Parcel) → p.outboxes ≡ 1 → Held n (HeldAt p 0 sent) → n ≤ length sent
full_alone p n sent one h = let items : List Posted = h.0 in let own = of_all p items one h.2.0 in let many = h.1 in
    let parts = ap length h.2.1.1 ∙ length-append h.2.1.0 (of 0 items) in omega arith
