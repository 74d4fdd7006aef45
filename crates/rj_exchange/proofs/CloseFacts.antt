-- A close is the last kept parcel of its sender, and a complete ledger stays as it is.
use Rattle.std.proofs.Common.{◌≡◌, ℕ, ◌<◌, ◌≤◌, ◌==◌, Bool, true, false, cond, ◌||◌, ◌&&◌, List, [], ◌∷◌, length, nat_lt, refl, ap, sym, ◌∙◌, arith, subst, inl, inr, ◌⊎◌, Some, None, eq-eqb}
use Rattle.std.proofs.lemmas.Bool.{lt-ltb}
use Rattle.std.proofs.lemmas.Bool.Decides.{nat_tests}
use Rattle.rj_exchange.specs.declared.ledger.parcel.Body.{Body}
use Rattle.rj_exchange.specs.declared.ledger.parcel.Body.TheVariants.{Close}
use Rattle.rj_exchange.specs.declared.ledger.parcel.Parcel.{Parcel}
use Rattle.rj_exchange.specs.declared.ledger.parcel.Answer.{Answer}
use Rattle.rj_exchange.specs.declared.ledger.parcel.Answer.TheVariants.{Accepted, Held, Refused}
use Rattle.rj_exchange.specs.Standing.{Standing, is_close}
use Rattle.rj_exchange.specs.Rules.{holds_above, holds_close_below, refusal}
use Rattle.rj_exchange.specs.Reading.{IsRefused}
use Rattle.rj_exchange.specs.Ledgers.{LedgerValue, standing, answer_to, after_answer, after_offer, after_all, answers, IsComplete}
use Rattle.rj_exchange.specs.Kept.{keep, kept_onto, body_in, held_at, Agrees, Keeps, AreClosedLast}
use Rattle.rj_exchange.proofs.Soundness.{unrefused, close_last}
use Rattle.rj_exchange.proofs.KeptFacts.{number_apart_above}
use Rattle.rj_exchange.proofs.LedgerFacts.{keeps_offer, same_or_apart}
use Rattle.rj_exchange.proofs.LawfulFacts.{wrong, unknown, refused, next, later, outcome}
use Rattle.rj_exchange.proofs.DeliveryFacts.{list_all_at}
use Rattle.rj_exchange.proofs.KeptRuleFacts.{close_is_any, any_if, close_if}

below_or_from : (m k : ℕ) → (m < k) ⊎ (k ≤ m)
below_or_from m k = grind arith

first_apart : (a n k : ℕ) (rest : Bool) → (nat_lt n a || rest) ≡ false → n < k → ((a == k) ≡ false) × (rest ≡ false)
first_apart a n k true h l = absurd (no n a h)
  where
    no : (n a : ℕ) → (nat_lt n a || true) ≡ false → ⊥
    no n a h = grind (arith, nat_tests)
first_apart a n k false h l = (apart a n k h l, refl)
  where
    apart : (a n k : ℕ) → (nat_lt n a || false) ≡ false → n < k → (a == k) ≡ false
    apart a n k h l = grind (arith, nat_tests)

-- where none is held above n, no larger number is held
none_held_above : (es : List (ℕ × Body)) (n k : ℕ) → holds_above n es ≡ false → n < k → held_at k es ≡ None
none_held_above [] n k h l = refl
none_held_above (e ∷ es) n k h l =
    let parts = first_apart e.0 n k (holds_above n es) h l in
    ap (λ (t : Bool). cond t (Some e.1) (held_at k es)) parts.0 ∙ none_held_above es n k parts.1 l

-- a held close with a smaller number is held
close_held : (es : List (ℕ × Body)) (m n : ℕ) → held_at m es ≡ Some Close → m < n → holds_close_below n es ≡ true
close_held es m n h l = close_is_any n es ∙ any_if (λ k b. is_close b && nat_lt k n) es m Close h (lt-ltb m n l)

-- what an unrefused parcel's sender has kept
module _ (ks : List Parcel) (x : Parcel) (t : Standing) (block : ℕ) (a : Agrees (body_in ks x.sender) t) (unfit : refusal block t x.number x.body ≡ None) (last : AreClosedLast ks) where
  hit : (k : ℕ) → body_in (x ∷ ks) x.sender k ≡ cond (x.number == k) (Some x.body) (body_in ks x.sender k)
  hit k = ap (λ (b : Bool). cond (b && (x.number == k)) (Some x.body) (body_in ks x.sender k)) (eq-eqb x.sender x.sender refl)

  here : (k : ℕ) → x.number ≡ k → body_in (x ∷ ks) x.sender k ≡ Some x.body
  here k e = hit k ∙ ap (λ (b : Bool). cond b (Some x.body) (body_in ks x.sender k)) (eq-eqb x.number k e)

  old : (k : ℕ) → (x.number == k) ≡ false → body_in (x ∷ ks) x.sender k ≡ body_in ks x.sender k
  old k e = hit k ∙ ap (λ (b : Bool). cond b (Some x.body) (body_in ks x.sender k)) e

  -- no close with a smaller number was kept
  no_close_before : (m : ℕ) → body_in ks x.sender m ≡ Some Close → m < x.number → ⊥
  no_close_before m h l =
      let facts = unrefused block t x.number x.body unfit in
      elim (below_or_from m t.next) [
        | inl w ↦ differ (sym (a.closed ∙ close_if (body_in ks x.sender) t.next m Close w h refl) ∙ facts.unclosed)
        | inr w ↦ differ (sym (close_held t.held m x.number (sym (a.held m w) ∙ h) l) ∙ facts.before_close)
      ]
    where
      differ : true ≡ false → ⊥
      differ e = cc

  -- after a kept close no number of its sender was kept
  none_after : (n : ℕ) → x.body ≡ Close → x.number < n → body_in ks x.sender n ≡ None
  none_after n e l =
      let facts = unrefused block t x.number x.body unfit in
      let from : t.next ≤ x.number = facts.later in
      a.held n (omega arith) ∙ none_held_above t.held x.number n (close_last x.body (holds_above x.number t.held) facts.last (ap is_close e)) l

  of_sender : (m n : ℕ) → body_in (x ∷ ks) x.sender m ≡ Some Close → m < n → body_in (x ∷ ks) x.sender n ≡ None
  of_sender m n h l = elim (same_or_apart x.number m) [
    | inl e ↦
        let body : x.body ≡ Close = (let w : Some x.body ≡ Some Close = sym (here m e) ∙ h in cc) in
        old n (number_apart_above x.number n (omega arith)) ∙ none_after n body (omega arith)
    | inr ne ↦
        let close : body_in ks x.sender m ≡ Some Close = sym (old m ne) ∙ h in
        elim (same_or_apart x.number n) [
          | inl e ↦ absurd (no_close_before m close (omega arith))
          | inr ne' ↦ old n ne' ∙ last x.sender m n close l
        ]
  ]

  pub kept_last : AreClosedLast (x ∷ ks)
  kept_last s m n h l = elim (same_or_apart x.sender s) [
    | inl e ↦ subst (λ (r : ℕ). body_in (x ∷ ks) r m ≡ Some Close → body_in (x ∷ ks) r n ≡ None) e (λ c. of_sender m n c l) h
    | inr ne ↦
        let miss : (k : ℕ) → body_in (x ∷ ks) s k ≡ body_in ks s k = λ k. ap (λ (b : Bool). cond (b && (x.number == k)) (Some x.body) (body_in ks s k)) ne in
        miss n ∙ last s m n (sym (miss m) ∙ h) l
  ]

pub close_last_step : (ks : List Parcel) (v : LedgerValue) (x : Parcel) → Keeps ks v → AreClosedLast ks → AreClosedLast (keep (answer_to v x) x ks)
close_last_step ks v x k last =
    let P : Answer → Type 0 = λ (a : Answer). AreClosedLast (keep a x ks) in
    elim (outcome v x) [
      | wrong p a ↦ subst P (sym a) last
      | unknown p l a ↦ subst P (sym a) last
      | refused reason p l r a ↦ subst P (sym a) last
      | next p l r e a ↦ subst P (sym a) (kept_last ks x (standing v x.sender) v.block (k x.sender l).1 r last)
      | later p l r e a ↦ subst P (sym a) (kept_last ks x (standing v x.sender) v.block (k x.sender l).1 r last)
    ]

pub close_last_all : (xs ks : List Parcel) (v : LedgerValue) → Keeps ks v → AreClosedLast ks → AreClosedLast (kept_onto ks xs (answers v xs))
close_last_all [] ks v k last = last
close_last_all (x ∷ xs) ks v k last = close_last_all xs (keep (answer_to v x) x ks) (after_offer v x) (keeps_offer ks v x k) (close_last_step ks v x k last)

pub none_closed : AreClosedLast []
none_closed s m n h l = refl

-- a complete ledger refuses each parcel
pub complete_refuses : (v : LedgerValue) (x : Parcel) → IsComplete v → IsRefused (answer_to v x)
complete_refuses v x whole =
    let closed : x.sender < length v.senders → (standing v x.sender).closed ≡ true = λ l. list_all_at v.senders x.sender whole l in
    let no : x.sender < length v.senders → refusal v.block (standing v x.sender) x.number x.body ≡ None → ⊥ = λ l r. differ (sym (closed l) ∙ (unrefused v.block (standing v x.sender) x.number x.body r).unclosed) in
    elim (outcome v x) [
      | wrong p a ↦ subst IsRefused (sym a) tt
      | unknown p l a ↦ subst IsRefused (sym a) tt
      | refused reason p l r a ↦ subst IsRefused (sym a) tt
      | next p l r e a ↦ absurd (no l r)
      | later p l r e a ↦ absurd (no l r)
    ]
  where
    differ : true ≡ false → ⊥
    differ e = cc

-- what is refused changes nothing
refused_stays : (a : Answer) (v : LedgerValue) (x : Parcel) → IsRefused a → after_answer a v x ≡ v
refused_stays (Accepted n) v x h = absurd h
refused_stays Held v x h = absurd h
refused_stays (Refused r) v x h = refl

-- a complete ledger stays as it is, whatever is offered
pub complete_stays : (v : LedgerValue) (xs : List Parcel) → IsComplete v → after_all v xs ≡ v
complete_stays v [] whole = refl
complete_stays v (x ∷ xs) whole =
    ap (λ (w : LedgerValue). after_all w xs) (refused_stays (answer_to v x) v x (complete_refuses v x whole)) ∙ complete_stays v xs whole
