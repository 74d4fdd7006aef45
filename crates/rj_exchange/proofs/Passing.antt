-- Each move keeps the rule of a queue.
use Rattle.std.proofs.Common.{◌≡◌, ℕ, zero, suc, ◌+◌, ◌<◌, Bool, true, false, true≢false, cond, eqb, List, [], ◌∷◌, ◌++◌, length, set, sym, refl, ap, ◌∙◌, subst, ⊎_elim, arith, append_assoc, length-append, length-set, lt_of_not-le, All}
use mathlib.Core.Option.{some, some-injective, some-ne-none}
use mathlib.Core.Logic.{dite}
use native.Mathlib.Decide.{ℕ_discrete, dec_le}
use lib.ListN.{get_elem?}
use Rattle.std.proofs.lemmas.List.Elements.{All-push, All-head, All-tail, All-nil}
use Rattle.crossbeam_queue.specs.Fifo.{Pushes, Pops, Forks, Merges, Learns}
use Rattle.crossbeam_queue.proofs.Lists.{at_set}
use Rattle.rj_exchange.specs.declared.posted.Posted.{Posted}
use Rattle.rj_exchange.specs.declared.queue.Where.{Where}
use Rattle.rj_exchange.specs.declared.queue.Trace.{Trace}
use Rattle.rj_exchange.specs.Passing.{of, Interleaves, Belongs, no_place, no_trace, first_trace, taker, sender, FitsSender, FitsTaker, Passing, HeldAt, HasAllHeard, Left, Took}
use Rattle.rj_exchange.proofs.Of.{chosen, passed, snoc_cases, within, past_end, before_end, at_end, of-append, of_hit, of_miss}

-- where the taker knows of every outbox, it knows the whole
pub whole : (reader : ℕ) (owner : ℕ → ℕ) (place : Where) (got items : List Posted) (pass : ℕ) (v : Trace) → FitsTaker reader owner place got items pass v → length v.known ≡ v.made → Interleaves v.known (v.taken ++ items)
whole reader owner place got items pass v f all k =
    ap (λ l. of k (l ++ items)) f.taken ∙ dite (dec_le v.made k) (λ le. (f.later k le).1 ∙ sym (past_end v.known k [] (omega arith))) (λ n. (f.ended k (let lt = lt_of_not-le n in omega arith)).1)

-- what the taker has heard of is taken or left
has_all : (reader : ℕ) (owner : ℕ → ℕ) (place : Where) (got items : List Posted) (pass : ℕ) (v : Trace) → FitsTaker reader owner place got items pass v → HasAllHeard v (v.taken ++ items)
has_all reader owner place got items pass v f = (λ k lt. ap (λ l. of k (l ++ items)) f.taken ∙ (f.ended k lt).1, whole reader owner place got items pass v f)

-- a view of one kind is none of the other
not_both : (b : Bool) → b ≡ true → b ≡ false → ⊥
not_both b t f = true≢false (sym t ∙ f)

pub posts : (n pass : ℕ) (v : Trace) (x : Posted) → v.sends ≡ true → x.outbox ≡ v.outbox → Belongs v.place x → Pushes Passing n pass v x (λ w. w ≡ sender v.place v.outbox (v.sent ++ x.parcel ∷ []))
posts n pass v x may from belongs items views room h at = let w : Trace = sender v.place v.outbox (v.sent ++ x.parcel ∷ []) in let mine = h.senders pass v at may in
    let apart = λ (k : ℕ) (own : h.owner k ≡ h.reader) (e : x.outbox ≡ k). mine.other (sym mine.mine ∙ ap h.owner (sym from ∙ e) ∙ own) in
    let now : FitsSender h.reader h.owner h.place
    (h.got ++ (items ++ x ∷ [])) pass w = record { mine = mine.mine; other = mine.other; sent = ap (λ l. l ++ x.parcel ∷ []) mine.sent ∙ sym (of_hit v.outbox h.got items x from); there = mine.there } in (
      w,
      record {
        reader = h.reader;
        owner = h.owner;
        place = h.place;
        got = h.got;
        belong = All-push (Belongs h.place) items x h.belong (subst (λ p. Belongs p x) mine.there belongs);
        senders = λ j u e s. ⊎_elim (λ y. subst (λ (z : ℕ × Trace). FitsSender h.reader h.owner h.place (h.got ++ (items ++ x ∷ [])) z.0 z.1) (λ i. (sym y.0 i, y.1 i)) now)
            (λ y. let f = h.senders j u y.1 s in record {
              mine = f.mine;
              other = f.other;
              sent = f.sent ∙ sym (of_miss u.outbox h.got items x (λ is. y.0 (sym f.mine ∙ ap h.owner (sym is ∙ from) ∙ mine.mine)));
              there = f.there;
            })
            (at_set views pass j w u e);
        takers = λ j u e t. ⊎_elim (λ y. absurd (not_both u.takes t (ap (λ (z : Trace). z.takes) (sym y.1))))
            (λ y. let f = h.takers j u y.1 t in record {
              only = f.only;
              taken = f.taken;
              later = λ k le. let o = f.later k le in (o.0, of_miss k h.got items x (apart k o.0) ∙ o.1);
              ended = λ k lt. let o = f.ended k lt in (o.0, of_miss k h.got items x (apart k o.0) ∙ o.1);
              known = f.known;
              there = f.there;
              unplaced = λ p. absurd (let z = f.unplaced p in mine.other (sym mine.mine ∙ (f.later v.outbox (omega arith)).0));
            })
            (at_set views pass j w u e);
      },
      refl,
    )

pub takes : (pass : ℕ) (v : Trace) → v.takes ≡ true → v.placed ≡ true → Pops Passing pass v (Took v)
takes pass v may placed x items views h at = let w : Trace = taker v.place v.made (v.taken ++ x ∷ []) v.known in let mine = h.takers pass v at may in let got : List Posted = h.got ++ x ∷ [] in
    let same : got ++ items ≡ h.got ++ (x ∷ items) = append_assoc h.got (x ∷ []) items in
    let now : FitsTaker h.reader h.owner h.place got items pass w = record {
      only = mine.only;
      taken = ap (λ l. l ++ x ∷ []) mine.taken;
      later = λ k le. let o = mine.later k le in (o.0, ap (of k) same ∙ o.1);
      ended = λ k lt. let o = mine.ended k lt in (o.0, ap (of k) same ∙ o.1);
      known = mine.known;
      there = λ _. mine.there placed;
      unplaced = λ p. absurd (true≢false p);
    } in (
      w,
      record {
        reader = h.reader;
        owner = h.owner;
        place = h.place;
        got = got;
        belong = All-tail (Belongs h.place) x items h.belong;
        senders = λ j u e s. ⊎_elim (λ y. absurd (not_both u.sends s (ap (λ (z : Trace). z.sends) (sym y.1))))
            (λ y. let f = h.senders j u y.1 s in record { mine = f.mine; other = f.other; sent = f.sent ∙ ap (of u.outbox) (sym same); there = f.there })
            (at_set views pass j w u e);
        takers = λ j u e t. ⊎_elim (λ y. subst (λ (z : ℕ × Trace). FitsTaker h.reader h.owner h.place got items z.0 z.1) {x = (pass, w)} {y = (j, u)} (λ i. (sym y.0 i, y.1 i)) now)
            (λ y. absurd (y.0 ((h.takers j u y.1 t).only ∙ sym mine.only)))
            (at_set views pass j w u e);
      },
      (
        refl,
        subst (λ p. Belongs p x) (sym (mine.there placed)) (All-head (Belongs h.place) x items h.belong),
        (items, (subst (λ p. All (Belongs p) (x ∷ items)) (sym (mine.there placed)) h.belong, has_all h.reader h.owner h.place h.got (x ∷ items) pass v mine)),
      ),
    )

pub learns_left : (pass : ℕ) (v : Trace) → v.takes ≡ true → v.placed ≡ true → Learns Passing pass v (Left v)
learns_left pass v may placed items views h at = let f = h.takers pass v at may in (subst (λ p. All (Belongs p) items) (sym (f.there placed)) h.belong, has_all h.reader h.owner h.place h.got items pass v f)

pub learns_held : (pass : ℕ) (v : Trace) → v.sends ≡ true → Learns Passing pass v (HeldAt v.place v.outbox v.sent)
learns_held pass v may items views h at = let f = h.senders pass v at may in (subst (λ p. All (Belongs p) items) (sym f.there) h.belong, (of v.outbox h.got, f.sent ∙ of-append v.outbox h.got items))

pub opens : Passing [] (first_trace ∷ [])
opens = record {
  reader = 0;
  owner = λ _. 0;
  place = no_place;
  got = [];
  belong = All-nil (Belongs no_place);
  senders = λ j u e s. absurd (not_both u.sends s (ap (λ (z : Trace). z.sends) (sym (only j u e).1)));
  takers = λ j u e t. subst (λ (z : ℕ × Trace). FitsTaker 0 (λ _. 0) no_place [] [] z.0 z.1) {x = (0, first_trace)} {y = (j, u)} (λ i. (sym (only j u e).0 i, (only j u e).1 i)) first;
}
  where
    only : (j : ℕ) (u : Trace) → get_elem? (first_trace ∷ []) j ≡ some u → (j ≡ 0) × (first_trace ≡ u)
    only zero u e = (refl, some-injective first_trace u e)
    only (suc j) u e = absurd (some-ne-none u (sym e))

    first : FitsTaker 0 (λ _. 0) no_place [] [] 0 first_trace
    first = record { only = refl; taken = refl; later = λ k le. (refl, refl); ended = λ k lt. absurd (omega arith); known = omega arith; there = λ p. absurd (true≢false (sym p)); unplaced = λ _. (refl, refl) }

pub fixes : (pass : ℕ) (v : Trace) (p : Where) → v ≡ first_trace → Forks Passing pass v (taker p 0 [] []) no_trace
fixes pass v p is items views h at = let l : Trace = taker p 0 [] [] in let mine = h.takers pass v at (ap (λ u. u.takes) is) in let none = mine.unplaced (ap (λ u. u.placed) is) in let vs : List Trace = set views pass l in
    let made = ap (λ (u : Trace). u.made) is in
    let nosender = λ (j : ℕ) (u : Trace) (at_u : get_elem? views j ≡ some u) (s : u.sends ≡ true). (let f = h.senders j u at_u s in f.other (sym f.mine ∙ (mine.later u.outbox (omega arith)).0)) in
    let now : FitsTaker h.reader h.owner p h.got items pass l = record {
      only = mine.only;
      taken = ap (λ (u : Trace). u.taken) (sym is) ∙ mine.taken;
      later = λ k le. mine.later k (omega arith);
      ended = λ k lt. absurd (omega arith);
      known = omega arith;
      there = λ _. refl;
      unplaced = λ q. absurd (true≢false q);
    } in record {
      reader = h.reader;
      owner = h.owner;
      place = p;
      got = h.got;
      belong = subst (All (Belongs p)) (sym none.1) (All-nil (Belongs p));
      senders = λ j u e s. absurd (⊎_elim
          (λ old. ⊎_elim (λ y. not_both u.sends s (ap (λ (z : Trace). z.sends) (sym y.1))) (λ y. nosender j u y.1 s) (at_set views pass j l u old))
          (λ new. not_both u.sends s (ap (λ (z : Trace). z.sends) (sym new.1)))
          (snoc_cases vs no_trace u j e));
      takers = λ j u e t. ⊎_elim
          (λ old. ⊎_elim (λ y. subst (λ (z : ℕ × Trace). FitsTaker h.reader h.owner p h.got items z.0 z.1) {x = (pass, l)} {y = (j, u)} (λ i. (sym y.0 i, y.1 i)) now)
          (λ y. absurd (y.0 ((h.takers j u y.1 t).only ∙ sym mine.only))) (at_set views pass j l u old))
          (λ new. absurd (not_both u.takes t (ap (λ (z : Trace). z.takes) (sym new.1))))
          (snoc_cases vs no_trace u j e);
    }

pub deals : (pass : ℕ) (v : Trace) → v.takes ≡ true → v.placed ≡ true → Forks Passing pass v (taker v.place (v.made + 1) v.taken v.known) (sender v.place v.made [])
deals pass v may placed items views h at = let l : Trace = taker v.place (v.made + 1) v.taken v.known in let r : Trace = sender v.place v.made [] in let mine = h.takers pass v at may in let vs : List Trace = set views pass l in
    let n : ℕ = length vs in let posted : List Posted = h.got ++ items in let owner : ℕ → ℕ = λ k. cond (eqb k v.made) n (h.owner k) in
    let below : h.reader < n = (let a = within views pass v at in let b = length-set views pass l in let c = mine.only in omega arith) in let next = mine.later v.made (omega arith) in
    let now : FitsTaker h.reader owner h.place h.got items pass l = record {
      only = mine.only;
      taken = mine.taken;
      later = λ k le. let o = mine.later k (omega arith) in (passed k v.made n (h.owner k) (λ e. omega arith) ∙ o.0, o.1);
      ended = λ k lt. let o = mine.ended k lt in let b = mine.known in (passed k v.made n (h.owner k) (λ e. omega arith) ∙ o.0, o.1);
      known = (let b = mine.known in omega arith);
      there = λ _. mine.there placed;
      unplaced = λ q. absurd (true≢false q);
    } in let new_one : FitsSender h.reader owner h.place posted n r = record { mine = chosen v.made v.made n (h.owner v.made) refl; other = λ e. omega arith; sent = sym next.1; there = mine.there placed } in record {
      reader = h.reader;
      owner = owner;
      place = h.place;
      got = h.got;
      belong = h.belong;
      senders = λ j u e s. ⊎_elim
          (λ old. ⊎_elim (λ y. absurd (not_both u.sends s (ap (λ (z : Trace). z.sends) (sym y.1))))
          (λ y. let f = h.senders j u y.1 s in record { mine = passed u.outbox v.made n (h.owner u.outbox) (λ is. f.other (sym f.mine ∙ ap h.owner is ∙ next.0)) ∙ f.mine; other = f.other; sent = f.sent; there = f.there })
          (at_set views pass j l u old))
          (λ new. subst (λ (z : ℕ × Trace). FitsSender h.reader owner h.place posted z.0 z.1) {x = (n, r)} {y = (j, u)} (λ i. (sym new.0 i, new.1 i)) new_one)
          (snoc_cases vs r u j e);
      takers = λ j u e t. ⊎_elim
          (λ old. ⊎_elim (λ y. subst (λ (z : ℕ × Trace). FitsTaker h.reader owner h.place h.got items z.0 z.1) {x = (pass, l)} {y = (j, u)} (λ i. (sym y.0 i, y.1 i)) now)
          (λ y. absurd (y.0 ((h.takers j u y.1 t).only ∙ sym mine.only))) (at_set views pass j l u old))
          (λ new. absurd (not_both u.takes t (ap (λ (z : Trace). z.takes) (sym new.1))))
          (snoc_cases vs r u j e);
    }

pub returns : (pass : ℕ) (v : Trace) (other : ℕ) (w : Trace) → v.takes ≡ true → v.placed ≡ true → w.sends ≡ true → w.outbox ≡ length v.known
    → Merges Passing pass v other w (taker v.place v.made v.taken (v.known ++ w.sent ∷ [])) no_trace
returns pass v other w may placed theirs from items views h at apart at' = let b : Trace = taker v.place v.made v.taken (v.known ++ w.sent ∷ []) in let mine = h.takers pass v at may in let vs : List Trace = set views pass b in
    let was : get_elem? views other ≡ some w = ⊎_elim (λ x. absurd (apart x.0)) (λ x. x.1) (at_set views pass other b w at') in let its = h.senders other w was theirs in
    let posted : List Posted = h.got ++ items in let owner : ℕ → ℕ = λ k. cond (eqb k w.outbox) h.reader (h.owner k) in
    let owned = λ (k : ℕ) (o : h.owner k ≡ h.reader).
    (let Goal : Type 0 = owner k ≡ h.reader in let g : Goal = dite (ℕ_discrete k w.outbox) (λ e. chosen k w.outbox h.reader (h.owner k) e) (λ ne. passed k w.outbox h.reader (h.owner k) ne ∙ o) in g) in
    let made : length v.known < v.made = lt_of_not-le (λ le. its.other (sym its.mine ∙ (mine.later w.outbox (omega arith)).0)) in
    let now : FitsTaker h.reader owner h.place h.got items pass b = record {
      only = mine.only;
      taken = mine.taken;
      later = λ k le. let o = mine.later k le in (owned k o.0, o.1);
      ended = λ k lt. dite (dec_le (length v.known) k)
          (λ le. let is : k ≡ length v.known = (let l = length-append v.known (w.sent ∷ []) in omega arith) in
          (chosen k w.outbox h.reader (h.owner k) (is ∙ sym from), ap (λ m. of m posted) (is ∙ sym from) ∙ sym its.sent ∙ sym (at_end v.known w.sent [] k is)))
          (λ ne. let o = mine.ended k (lt_of_not-le ne) in (owned k o.0, o.1 ∙ sym (before_end v.known (w.sent ∷ []) k [] (lt_of_not-le ne))));
      known = (let l = length-append v.known (w.sent ∷ []) in omega arith);
      there = λ _. mine.there placed;
      unplaced = λ q. absurd (true≢false q);
    } in record {
      reader = h.reader;
      owner = owner;
      place = h.place;
      got = h.got;
      belong = h.belong;
      senders = λ j u e s. ⊎_elim (λ x. absurd (not_both u.sends s (ap (λ (z : Trace). z.sends) (sym x.1))))
          (λ x. ⊎_elim (λ y. absurd (not_both u.sends s (ap (λ (z : Trace). z.sends) (sym y.1))))
          (λ y. let f = h.senders j u y.1 s in record { mine = passed u.outbox w.outbox h.reader (h.owner u.outbox) (λ is. x.0 (sym f.mine ∙ ap h.owner is ∙ its.mine)) ∙ f.mine; other = f.other; sent = f.sent; there = f.there })
          (at_set views pass j b u x.1))
          (at_set vs other j no_trace u e);
      takers = λ j u e t. ⊎_elim (λ x. absurd (not_both u.takes t (ap (λ (z : Trace). z.takes) (sym x.1))))
          (λ x. ⊎_elim (λ y. subst (λ (z : ℕ × Trace). FitsTaker h.reader owner h.place h.got items z.0 z.1) {x = (pass, b)} {y = (j, u)} (λ i. (sym y.0 i, y.1 i)) now)
          (λ y. absurd (y.0 ((h.takers j u y.1 t).only ∙ sym mine.only))) (at_set views pass j b u x.1))
          (at_set vs other j no_trace u e);
    }
