-- Each offer keeps a ledger in agreement with the kept parcels, whatever is offered.
use Rattle.std.proofs.Common.{◌≡◌, ◌≢◌, ℕ, zero, suc, ◌+◌, ◌<◌, ◌≤◌, ◌==◌, Bool, true, false, cond, not, ◌&&◌, List, [], ◌∷◌, length, nat_lt, refl, ap, sym, ◌∙◌, arith, subst, inl, inr, ◌⊎◌, Some}
use Rattle.std.proofs.Common.{None, Option, eq-eqb, get_or, set, get_or-set_same, get_or-set_other, length-set, replicate, slice_set}
use Rattle.std.proofs.lemmas.Bool.{eqb-true}
use Rattle.std.proofs.lemmas.Bool.Decides.{nat_tests}
use Rattle.rj_exchange.specs.declared.ledger.parcel.Parcel.{Parcel}
use Rattle.rj_exchange.specs.declared.ledger.parcel.Reason.{Reason}
use Rattle.rj_exchange.specs.declared.ledger.parcel.Reason.TheVariants.{WrongPartition, UnknownSender}
use Rattle.rj_exchange.specs.declared.ledger.parcel.Answer.TheVariants.{Accepted, Held, Refused}
use Rattle.rj_exchange.specs.Standing.{Standing, IsSound, Orderly, following, delivered_from, with_held, nothing_yet}
use Rattle.rj_exchange.specs.Rules.{refusal, answer_unless, holds_above}
use Rattle.rj_exchange.specs.Ledgers.{LedgerValue, standing, answer_to, after_answer, after_offer, answers, after_all, opened}
use Rattle.rj_exchange.specs.Kept.{keep, kept_onto, kept, body_in, Agrees, Keeps}
use Rattle.rj_exchange.proofs.Soundness.{IsSound-delivered, IsSound-held, unrefused, holdable_if_lawful, alone_if_next, close_last}
use Rattle.rj_exchange.proofs.KeptFacts.{Agrees-same, with_number, held_agrees, delivered_agrees}

pub same_or_apart : (a b : ℕ) → (a ≡ b) ⊎ ((a == b) ≡ false)
same_or_apart a b = grind (arith, nat_tests)

apart_not : (a b : ℕ) → (a == b) ≡ false → b ≢ a
apart_not a b h e = grind (arith, nat_tests)

set_here : (ss : List Standing) (s : ℕ) (t : Standing) → s < length ss → get_or (set ss s t) s nothing_yet ≡ t
set_here ss s t h = rw get_or-set_same

set_there : (ss : List Standing) (s r : ℕ) (t : Standing) → r ≢ s → get_or (set ss s t) r nothing_yet ≡ get_or ss r nothing_yet
set_there ss s r t h = rw get_or-set_other

-- a parcel is kept, and its sender's part agrees with that
keeps_set : (ks : List Parcel) (v : LedgerValue) (x : Parcel) (t : Standing) → Keeps ks v → x.sender < length v.senders → IsSound t → Agrees (with_number (body_in ks x.sender) x.number x.body) t
    → Keeps (x ∷ ks) (record { partition = v.partition; block = v.block; senders = slice_set v.senders x.sender t })
keeps_set ks v x t k known sound agrees s h =
    elim (same_or_apart x.sender s) [
      | inl e ↦
          let here : t ≡ get_or (set v.senders x.sender t) s nothing_yet = sym (set_here v.senders x.sender t known) ∙ ap (λ (r : ℕ). get_or (set v.senders x.sender t) r nothing_yet) e in
          let f : (m : ℕ) → with_number (body_in ks x.sender) x.number x.body m ≡ body_in (x ∷ ks) s m = λ m.
          ap (λ (r : ℕ). cond (x.number == m) (Some x.body) (body_in ks r m)) e ∙ ap (λ (b : Bool). cond (b && (x.number == m)) (Some x.body) (body_in ks s m)) (sym (eq-eqb x.sender s e)) in
          (subst IsSound here sound, subst (Agrees (body_in (x ∷ ks) s)) here (Agrees-same _ _ t f agrees))
      | inr a ↦
          let there : get_or v.senders s nothing_yet ≡ get_or (set v.senders x.sender t) s nothing_yet = sym (set_there v.senders x.sender s t (apart_not x.sender s a)) in
          let old = k s (subst (λ (n : ℕ). s < n) (length-set v.senders x.sender t) h) in
          let f : (m : ℕ) → body_in ks s m ≡ body_in (x ∷ ks) s m = λ m. ap (λ (b : Bool). cond (b && (x.number == m)) (Some x.body) (body_in ks s m)) (sym a) in
          (subst IsSound there old.0, subst (Agrees (body_in (x ∷ ks) s)) there (Agrees-same _ _ (get_or v.senders s nothing_yet) f old.1))
    ]

later_than : (n k : ℕ) → k ≤ n → (n == k) ≡ false → k < n
later_than n k h q = grind (arith, nat_tests)

-- none of the first seven rules fits
keeps_unrefused : (t : Bool) (ks : List Parcel) (v : LedgerValue) (x : Parcel) → Keeps ks v → x.sender < length v.senders → refusal v.block (standing v x.sender) x.number x.body ≡ None
    → (x.number == (standing v x.sender).next) ≡ t
    → Keeps (keep (cond t (Accepted (length (following (x.number + 1) (standing v x.sender).held) + 1)) Held) x ks) (after_answer (cond t (Accepted (length (following (x.number + 1) (standing v x.sender).held) + 1)) Held) v x)
keeps_unrefused true ks v x k known none h =
    let s : Standing = standing v x.sender in
    let here = k x.sender known in
    let facts = unrefused v.block s x.number x.body none in
    let next : x.number ≡ s.next = eqb-true _ _ h in
    keeps_set ks v x (delivered_from s x.number x.body) k known
    (IsSound-delivered s x.number x.body here.0 next facts.unclosed (holdable_if_lawful v.block x.body facts.lawful) (alone_if_next v.block s x.number x.body none next here.0.orderly))
    (delivered_agrees (body_in ks x.sender) s x.number x.body here.1 next facts.unclosed (subst (λ (n : ℕ). Orderly (n + 1) s.held) (sym next) here.0.orderly))
keeps_unrefused false ks v x k known none h =
    let s : Standing = standing v x.sender in
    let here = k x.sender known in
    let facts = unrefused v.block s x.number x.body none in
    let later : s.next < x.number = later_than x.number s.next facts.later h in
    keeps_set ks v x (with_held s x.number x.body) k known
    (IsSound-held s x.number x.body here.0 later facts.unclosed facts.new facts.before_close (close_last x.body (holds_above x.number s.held) facts.last) (holdable_if_lawful v.block x.body facts.lawful))
    (held_agrees (body_in ks x.sender) s x.number x.body here.1 later)

is_known : (a b : ℕ) → not (nat_lt a b) ≡ false → a < b
is_known a b h = grind (arith, nat_tests)

keeps_cases : (p q : Bool) (r : Option Reason) (ks : List Parcel) (v : LedgerValue) (x : Parcel) → Keeps ks v → not (nat_lt x.sender (length v.senders)) ≡ q → refusal v.block (standing v x.sender) x.number x.body ≡ r
    → Keeps (keep (cond p (Refused WrongPartition) (cond q (Refused UnknownSender) (answer_unless r (standing v x.sender) x.number))) x ks)
    (after_answer (cond p (Refused WrongPartition) (cond q (Refused UnknownSender) (answer_unless r (standing v x.sender) x.number))) v x)
keeps_cases true q r ks v x k known e = k
keeps_cases false true r ks v x k known e = k
keeps_cases false false (Some reason) ks v x k known e = k
keeps_cases false false None ks v x k known e = keeps_unrefused (x.number == (standing v x.sender).next) ks v x k (is_known _ _ known) e refl

pub keeps_offer : (ks : List Parcel) (v : LedgerValue) (x : Parcel) → Keeps ks v → Keeps (keep (answer_to v x) x ks) (after_offer v x)
keeps_offer ks v x k = keeps_cases (not (x.partition == v.partition)) (not (nat_lt x.sender (length v.senders))) (refusal v.block (standing v x.sender) x.number x.body) ks v x k refl refl

pub keeps_all : (xs ks : List Parcel) (v : LedgerValue) → Keeps ks v → Keeps (kept_onto ks xs (answers v xs)) (after_all v xs)
keeps_all [] ks v k = k
keeps_all (x ∷ xs) ks v k = keeps_all xs (keep (answer_to v x) x ks) (after_offer v x) (keeps_offer ks v x k)

every_nothing : (n s : ℕ) → get_or (replicate n nothing_yet) s nothing_yet ≡ nothing_yet
every_nothing zero s = refl
every_nothing (suc n) zero = refl
every_nothing (suc n) (suc s) = every_nothing n s

sound_nothing : IsSound nothing_yet
sound_nothing = record { counted = omega arith; done = λ h. refl; orderly = tt }

agrees_nothing : Agrees (λ m. None) nothing_yet
agrees_nothing = record { below = λ m q. absurd (omega arith); next = refl; rows = refl; closed = refl; held = λ m q. refl }

pub keeps_opened : (partition senders block : ℕ) → Keeps [] (opened partition senders block)
keeps_opened partition senders block s h = (subst IsSound (sym (every_nothing senders s)) sound_nothing, subst (Agrees (λ m. None)) (sym (every_nothing senders s)) agrees_nothing)

pub keeps_replay : (partition senders block : ℕ) (xs : List Parcel) → Keeps (kept xs (answers (opened partition senders block) xs)) (after_all (opened partition senders block) xs)
keeps_replay partition senders block xs = keeps_all xs [] (opened partition senders block) (keeps_opened partition senders block)
