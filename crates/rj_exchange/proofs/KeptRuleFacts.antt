-- The rules over the kept parcels alone give the ledger's answers.
use Rattle.std.proofs.Common.{IsSome, ◌≡◌, ℕ, zero, suc, ◌+◌, ◌-◌, ◌<◌, ◌≤◌, ◌==◌, Bool, true, false, cond, not, ◌||◌, ◌&&◌, List, [], ◌∷◌, length, nat_lt, nat_le, refl, ap, sym, ◌∙◌, arith, subst}
use Rattle.std.proofs.Common.{inl, inr, ◌⊎◌, is_some, Some, None, Option, eq-eqb}
use Rattle.std.specs.Cmp.{both_ways}
use Rattle.std.proofs.lemmas.Bool.{and_from, and_parts, cases_Bool, eqb-true, le-leb, le-ltb, leb-true, lt-ltb, ltb-true, or_cases, or_left, or_right, ltb-false}
use Rattle.std.proofs.lemmas.List.{length-replicate}
use Rattle.std.proofs.lemmas.Bool.Decides.{nat_tests}
use Rattle.rj_exchange.specs.declared.ledger.parcel.Body.{Body}
use Rattle.rj_exchange.specs.declared.ledger.parcel.Parcel.{Parcel}
use Rattle.rj_exchange.specs.declared.ledger.parcel.Reason.{Reason}
use Rattle.rj_exchange.specs.declared.ledger.parcel.Reason.TheVariants.{BadLength, AfterClose, Repeat, BeyondClose, EarlyClose, WrongPartition, UnknownSender}
use Rattle.rj_exchange.specs.declared.ledger.parcel.Answer.{Answer}
use Rattle.rj_exchange.specs.declared.ledger.parcel.Answer.TheVariants.{Accepted, Held, Refused}
use Rattle.rj_exchange.specs.Standing.{Standing, is_close, Orderly, IsSound, nothing_yet}
use Rattle.rj_exchange.specs.Rules.{is_bad_length, holds, holds_close_below, holds_above, refusal}
use Rattle.rj_exchange.specs.Ledgers.{LedgerValue, standing, opened, answer_to, after_offer, answers}
use Rattle.rj_exchange.specs.Kept.{rows_below, keep, body_in, held_at, is_close_at, close_below, Agrees, Keeps, AreKeptOnce}
use Rattle.rj_exchange.specs.KeptRules.{IsGapIn, ShowsKept, next_in, some_of, is_closed_in, is_kept_in, holds_close_before, holds_after, kept_answer, kept_answers}
use Rattle.rj_exchange.specs.Reading.{gap_before}
use Rattle.rj_exchange.proofs.KeptFacts.{none_held_below, number_apart, number_apart_above, last_or_below, some_either}
use Rattle.rj_exchange.proofs.PlanFacts.{holds_is}
use Rattle.rj_exchange.proofs.LawfulFacts.{wrong, unknown, refused, next, later, outcome, passing_is}
use Rattle.rj_exchange.proofs.LedgerFacts.{keeps_offer, keeps_opened}
use Rattle.rj_exchange.proofs.EngineFacts.{accepted_counts, kept_once, same_shape}

-- how many numbers below n pass
abbrev count_below : (ℕ → Bool) → ℕ → ℕ
count_below f zero = 0
count_below f (suc n) = cond (f n) 1 0 + count_below f n

all_pass : (f : ℕ → Bool) (n : ℕ) → ((m : ℕ) → m < n → f m ≡ true) → count_below f n ≡ n
all_pass f zero h = refl
all_pass f (suc n) h = let w : count_below f n ≡ n = all_pass f n (λ m l. h m (omega arith)) in ap (λ (t : Bool). cond t 1 0 + count_below f n) (h n (omega arith)) ∙ omega arith

none_passes : (n : ℕ) → count_below (λ m. false) n ≡ 0
none_passes zero = refl
none_passes (suc n) = let w : count_below (λ m. false) n ≡ 0 = none_passes n in omega arith

same_count : (f g : ℕ → Bool) (n : ℕ) → ((m : ℕ) → f m ≡ g m) → count_below f n ≡ count_below g n
same_count f g zero h = refl
same_count f g (suc n) h = ap (λ (t : Bool). cond t 1 0 + count_below f n) (h n) ∙ ap (λ (k : ℕ). cond (g n) 1 0 + k) (same_count f g n h)

one_or_two : (a b : Bool) → cond (a || b) 1 0 ≤ cond a 1 0 + cond b 1 0
one_or_two true true = omega arith
one_or_two true false = omega arith
one_or_two false true = omega arith
one_or_two false false = omega arith

either_passes : (f g : ℕ → Bool) (n : ℕ) → count_below (λ m. f m || g m) n ≤ count_below f n + count_below g n
either_passes f g zero = omega arith
either_passes f g (suc n) = let h : count_below (λ m. f m || g m) n ≤ count_below f n + count_below g n = either_passes f g n in let w : cond (f n || g n) 1 0 ≤ cond (f n) 1 0 + cond (g n) 1 0 = one_or_two (f n) (g n) in omega arith

at_most_one : (t : Bool) → cond t 1 0 ≤ 1
at_most_one true = omega arith
at_most_one false = omega arith

none_at : (p : Bool) → ◌≡◌ {A = ℕ} (cond (p && false) 1 0) 0
none_at true = refl
none_at false = refl

none_yet : (p : Bool) (c n : ℕ) → n ≤ c → count_below (λ m. p && (c == m)) n ≡ 0
none_yet p c zero h = refl
none_yet p c (suc n) h =
    let w : count_below (λ m. p && (c == m)) n ≡ 0 = none_yet p c n (omega arith) in
    let v : ◌≡◌ {A = ℕ} (cond (p && (c == n)) 1 0) 0 = ap (λ (t : Bool). cond (p && t) 1 0) (number_apart c n (omega arith)) ∙ none_at p in
    omega arith

below_or_past : (n c : ℕ) → (n ≤ c) ⊎ (c < n)
below_or_past n c = grind arith

-- one parcel has one number
one_number : (p : Bool) (c n : ℕ) → count_below (λ m. p && (c == m)) n ≤ 1
one_number p c zero = omega arith
one_number p c (suc n) = elim (below_or_past n c) [
  | inl l ↦ let w : count_below (λ m. p && (c == m)) n ≡ 0 = none_yet p c n l in let v : cond {A = ℕ} (p && (c == n)) 1 0 ≤ 1 = at_most_one (p && (c == n)) in omega arith
  | inr l ↦ let w : count_below (λ m. p && (c == m)) n ≤ 1 = one_number p c n in let v : ◌≡◌ {A = ℕ} (cond (p && (c == n)) 1 0) 0 = ap (λ (t : Bool). cond (p && t) 1 0) (number_apart_above c n l) ∙ none_at p in omega arith
]

-- parcels have no more numbers than they are
few_numbers : (ks : List Parcel) (s n : ℕ) → count_below (λ m. is_some (body_in ks s m)) n ≤ length ks
few_numbers [] s n = let w : count_below (λ m. false) n ≡ 0 = none_passes n in omega arith
few_numbers (x ∷ ks) s n =
    let same : count_below (λ m. is_some (body_in (x ∷ ks) s m)) n ≡ count_below (λ m. ((x.sender == s) && (x.number == m)) || is_some (body_in ks s m)) n = same_count _ _ n
    (λ m. some_either ((x.sender == s) && (x.number == m)) x.body (body_in ks s m)) in
    let both : count_below (λ m. ((x.sender == s) && (x.number == m)) || is_some (body_in ks s m)) n ≤ count_below (λ m. (x.sender == s) && (x.number == m)) n + count_below
    (λ m. is_some (body_in ks s m)) n = either_passes (λ m. (x.sender == s) && (x.number == m)) (λ m. is_some (body_in ks s m)) n in
    let one : count_below (λ m. (x.sender == s) && (x.number == m)) n ≤ 1 = one_number (x.sender == s) x.number n in
    let more : count_below (λ m. is_some (body_in ks s m)) n ≤ length ks = few_numbers ks s n in
    omega arith

-- the ledger's next number is that of the kept parcels
pub next_is : (ks : List Parcel) (s : ℕ) (t : Standing) → Agrees (body_in ks s) t → next_in ks s ≡ t.next
next_is ks s t a =
    let f : ℕ → Bool = λ m. is_some (body_in ks s m) in
    let all : count_below f t.next ≡ t.next = all_pass f t.next (λ m l. a.below m l) in
    let few : count_below f t.next ≤ length ks = few_numbers ks s t.next in
    let from : 0 + t.next ≡ t.next = omega arith in
    passing_is f (length ks) 0 t.next (λ m p q. a.below m (omega arith)) (omega arith) (inr (ap f from ∙ ap is_some a.next))

-- a number whose body passes the test
pub record Passes (test : ℕ → Body → Bool) (f : ℕ → Option Body) : Type 0 where
  pub number : ℕ
  pub body : Body
  pub is : f number ≡ Some body
  pub pass : test number body ≡ true

not_none : (o : Option Body) (b : Body) → o ≡ Some b → o ≡ None → ⊥
not_none o b h k = cc

pass_later : (test : ℕ → Body → Bool) (x : Parcel) (ks : List Parcel) (s : ℕ) → body_in ks x.sender x.number ≡ None → Passes test (body_in ks s) → Passes test (body_in (x ∷ ks) s)
pass_later test x ks s none p = record {
  number = p.number;
  body = p.body;
  pass = p.pass;
  is = elim (cases_Bool ((x.sender == s) && (x.number == p.number))) [
    | inl h ↦ let parts = and_parts _ _ h in
        let here : body_in ks s p.number ≡ None = ap (λ (k : ℕ). body_in ks k p.number) (sym (eqb-true x.sender s parts.0)) ∙ ap (body_in ks x.sender) (sym (eqb-true x.number p.number parts.1)) ∙ none in
        absurd (not_none (body_in ks s p.number) p.body p.is here)
    | inr h ↦ ap (λ (t : Bool). cond t (Some x.body) (body_in ks s p.number)) h ∙ p.is
  ];
}

pass_first : (test : ℕ → Body → Bool) (x : Parcel) (ks : List Parcel) (s : ℕ) → ((x.sender == s) && test x.number x.body) ≡ true → Passes test (body_in (x ∷ ks) s)
pass_first test x ks s h =
    let parts = and_parts _ _ h in
    record { number = x.number; body = x.body; pass = parts.1; is = ap (λ (t : Bool). cond t (Some x.body) (body_in ks s x.number)) (and_from _ _ parts.0 (eq-eqb x.number x.number refl)) }

pub passes_if : (test : ℕ → Body → Bool) (q n : ℕ) (ks : List Parcel) (s : ℕ) → AreKeptOnce q n ks → some_of test ks s ≡ true → Passes test (body_in ks s)
passes_if test q n [] s once h = cc
passes_if test q n (x ∷ ks) s once h = elim (or_cases _ _ h) [
  | inl first ↦ pass_first test x ks s first
  | inr rest ↦ pass_later test x ks s once.2 (passes_if test q n ks s once.3 rest)
]

some_body_is : (b c : Body) → Some b ≡ Some c → b ≡ c
some_body_is b c h = cc

pub some_if : (test : ℕ → Body → Bool) (ks : List Parcel) (s m : ℕ) (b : Body) → body_in ks s m ≡ Some b → test m b ≡ true → some_of test ks s ≡ true
some_if test [] s m b h t = cc
some_if test (x ∷ ks) s m b h t = elim (cases_Bool ((x.sender == s) && (x.number == m))) [
  | inl hit ↦ let parts = and_parts _ _ hit in
      let body : x.body ≡ b = some_body_is x.body b (ap (λ (u : Bool). cond u (Some x.body) (body_in ks s m)) (sym hit) ∙ h) in
      let passes : test x.number x.body ≡ true = ap (λ (k : ℕ). test k x.body) (eqb-true x.number m parts.1) ∙ ap (test m) body ∙ t in
      or_left _ _ (and_from _ _ parts.0 passes)
  | inr miss ↦ or_right _ _ (some_if test ks s m b (ap (λ (u : Bool). cond u (Some x.body) (body_in ks s m)) (sym miss) ∙ h) t)
]

pub kept_is : (ks : List Parcel) (s n : ℕ) → is_kept_in ks s n ≡ is_some (body_in ks s n)
kept_is [] s n = refl
kept_is (x ∷ ks) s n = ap (λ (t : Bool). ((x.sender == s) && (x.number == n)) || t) (kept_is ks s n) ∙ sym (some_either ((x.sender == s) && (x.number == n)) x.body (body_in ks s n))

-- held parcels
abbrev held_any : (ℕ → Body → Bool) → List (ℕ × Body) → Bool
held_any test [] = false
held_any test (e ∷ es) = test e.0 e.1 || held_any test es

pub close_is_any : (n : ℕ) (es : List (ℕ × Body)) → holds_close_below n es ≡ held_any (λ m b. is_close b && nat_lt m n) es
close_is_any n [] = refl
close_is_any n (e ∷ es) = ap (λ (t : Bool). (is_close e.1 && nat_lt e.0 n) || t) (close_is_any n es)

above_is_any : (n : ℕ) (es : List (ℕ × Body)) → holds_above n es ≡ held_any (λ m b. nat_lt n m) es
above_is_any n [] = refl
above_is_any n (e ∷ es) = ap (λ (t : Bool). nat_lt n e.0 || t) (above_is_any n es)

record PassesFrom (least : ℕ) (test : ℕ → Body → Bool) (es : List (ℕ × Body)) : Type 0 where
  number : ℕ
  body : Body
  from : least ≤ number
  is : held_at number es ≡ Some body
  pass : test number body ≡ true

held_if : (test : ℕ → Body → Bool) (es : List (ℕ × Body)) (least : ℕ) → Orderly least es → held_any test es ≡ true → PassesFrom least test es
held_if test [] least o h = cc
held_if test (e ∷ es) least o h = elim (or_cases _ _ h) [
  | inl first ↦ record { number = e.0; body = e.1; from = o.0; is = ap (λ (t : Bool). cond t (Some e.1) (held_at e.0 es)) (eq-eqb e.0 e.0 refl); pass = first }
  | inr rest ↦ let p = held_if test es (e.0 + 1) o.2 rest in
      let past : e.0 + 1 ≤ p.number = p.from in
      let least_of : least ≤ e.0 = o.0 in
      record { number = p.number; body = p.body; from = omega arith; is = ap (λ (t : Bool). cond t (Some e.1) (held_at p.number es)) (number_apart_above e.0 p.number (omega arith)) ∙ p.is; pass = p.pass }
]

pub any_if : (test : ℕ → Body → Bool) (es : List (ℕ × Body)) (m : ℕ) (b : Body) → held_at m es ≡ Some b → test m b ≡ true → held_any test es ≡ true
any_if test [] m b h t = cc
any_if test (e ∷ es) m b h t = elim (cases_Bool (e.0 == m)) [
  | inl hit ↦ let body : e.1 ≡ b = some_body_is e.1 b (ap (λ (u : Bool). cond u (Some e.1) (held_at m es)) (sym hit) ∙ h) in
      or_left _ _ (ap (λ (k : ℕ). test k e.1) (eqb-true e.0 m hit) ∙ ap (test m) body ∙ t)
  | inr miss ↦ or_right _ _ (any_if test es m b (ap (λ (u : Bool). cond u (Some e.1) (held_at m es)) (sym miss) ∙ h) t)
]

-- delivered closes
record ClosesBelow (f : ℕ → Option Body) (n : ℕ) : Type 0 where
  number : ℕ
  body : Body
  below : number < n
  is : f number ≡ Some body
  close : is_close body ≡ true

close_here : (f : ℕ → Option Body) (n : ℕ) (o : Option Body) → f n ≡ o → is_close_at o ≡ true → ClosesBelow f (suc n)
close_here f n None e h = cc
close_here f n (Some b) e h = record { number = n; body = b; below = omega arith; is = e; close = h }

closes_if : (f : ℕ → Option Body) (n : ℕ) → close_below f n ≡ true → ClosesBelow f n
closes_if f zero h = cc
closes_if f (suc n) h = elim (or_cases _ _ h) [
  | inl here ↦ close_here f n (f n) refl here
  | inr rest ↦ let p = closes_if f n rest in let l : p.number < n = p.below in record { number = p.number; body = p.body; below = omega arith; is = p.is; close = p.close }
]

pub close_if : (f : ℕ → Option Body) (n m : ℕ) (b : Body) → m < n → f m ≡ Some b → is_close b ≡ true → close_below f n ≡ true
close_if f zero m b l h c = absurd (omega arith)
close_if f (suc n) m b l h c = elim (last_or_below m n l) [
  | inl q ↦ or_right _ _ (close_if f n m b q h c)
  | inr q ↦ or_left _ _ (ap (λ (k : ℕ). is_close_at (f k)) (sym q) ∙ ap is_close_at h ∙ c)
]

-- each test of the ledger is that of the kept parcels
closed_same : (q n : ℕ) (ks : List Parcel) (s : ℕ) (t : Standing) → AreKeptOnce q n ks → Agrees (body_in ks s) t → t.closed ≡ is_closed_in ks s
closed_same q n ks s t once a =
    let k : next_in ks s ≡ t.next = next_is ks s t a in
    let f : ℕ → Option Body = body_in ks s in
    let to : close_below f t.next ≡ true → some_of (λ m b. is_close b && nat_lt m t.next) ks s ≡ true = λ h.
    let p = closes_if f t.next h in some_if (λ m b. is_close b && nat_lt m t.next) ks s p.number p.body p.is (and_from _ _ p.close (lt-ltb p.number t.next p.below)) in
    let back : some_of (λ m b. is_close b && nat_lt m t.next) ks s ≡ true → close_below f t.next ≡ true = λ h.
    let p = passes_if (λ m b. is_close b && nat_lt m t.next) q n ks s once h in let parts = and_parts _ _ p.pass in close_if f t.next p.number p.body (ltb-true _ _ parts.1) p.is parts.0 in
    a.closed ∙ both_ways _ _ to back ∙ ap (λ (j : ℕ). some_of (λ m b. is_close b && nat_lt m j) ks s) (sym k)

kept_number : (ks : List Parcel) (s n : ℕ) (t : Standing) → Agrees (body_in ks s) t → (nat_lt n t.next || holds n t.held) ≡ is_some (body_in ks s n)
kept_number ks s n t a = elim (cases_Bool (nat_lt n t.next)) [
  | inl h ↦ or_left _ _ h ∙ sym (a.below n (ltb-true _ _ h))
  | inr h ↦ ap (λ (u : Bool). u || holds n t.held) h ∙ holds_is t.held n ∙ ap is_some (sym (a.held n (ltb-false n t.next h)))
]

beyond_same : (q c : ℕ) (ks : List Parcel) (s n : ℕ) (t : Standing) → AreKeptOnce q c ks → IsSound t → Agrees (body_in ks s) t → holds_close_below n t.held ≡ holds_close_before ks s n
beyond_same q c ks s n t once sound a =
    let k : next_in ks s ≡ t.next = next_is ks s t a in
    let to : held_any (λ m b. is_close b && nat_lt m n) t.held ≡ true → some_of (λ m b. is_close b && (nat_le t.next m && nat_lt m n)) ks s ≡ true = λ h.
    let p = held_if (λ m b. is_close b && nat_lt m n) t.held (t.next + 1) sound.orderly h in
    let from : t.next + 1 ≤ p.number = p.from in
    let parts = and_parts _ _ p.pass in
    some_if (λ m b. is_close b && (nat_le t.next m && nat_lt m n)) ks s p.number p.body (a.held p.number (omega arith) ∙ p.is) (and_from _ _ parts.0 (and_from _ _ (le-leb t.next p.number (omega arith)) parts.1)) in
    let back : some_of (λ m b. is_close b && (nat_le t.next m && nat_lt m n)) ks s ≡ true → held_any (λ m b. is_close b && nat_lt m n) t.held ≡ true = λ h.
    let p = passes_if (λ m b. is_close b && (nat_le t.next m && nat_lt m n)) q c ks s once h in
    let parts = and_parts _ _ p.pass in
    let more = and_parts _ _ parts.1 in
    any_if (λ m b. is_close b && nat_lt m n) t.held p.number p.body (sym (a.held p.number (leb-true _ _ more.0)) ∙ p.is) (and_from _ _ parts.0 more.1) in
    close_is_any n t.held ∙ both_ways _ _ to back ∙ ap (λ (j : ℕ). some_of (λ m b. is_close b && (nat_le j m && nat_lt m n)) ks s) (sym k)

above_same : (q c : ℕ) (ks : List Parcel) (s n : ℕ) (t : Standing) → AreKeptOnce q c ks → IsSound t → Agrees (body_in ks s) t → holds_above n t.held ≡ holds_after ks s n
above_same q c ks s n t once sound a =
    let k : next_in ks s ≡ t.next = next_is ks s t a in
    let to : held_any (λ m b. nat_lt n m) t.held ≡ true → some_of (λ m b. nat_le t.next m && nat_lt n m) ks s ≡ true = λ h.
    let p = held_if (λ m b. nat_lt n m) t.held (t.next + 1) sound.orderly h in
    let from : t.next + 1 ≤ p.number = p.from in
    some_if (λ m b. nat_le t.next m && nat_lt n m) ks s p.number p.body (a.held p.number (omega arith) ∙ p.is) (and_from _ _ (le-leb t.next p.number (omega arith)) p.pass) in
    let back : some_of (λ m b. nat_le t.next m && nat_lt n m) ks s ≡ true → held_any (λ m b. nat_lt n m) t.held ≡ true = λ h.
    let p = passes_if (λ m b. nat_le t.next m && nat_lt n m) q c ks s once h in
    let parts = and_parts _ _ p.pass in
    any_if (λ m b. nat_lt n m) t.held p.number p.body (sym (a.held p.number (leb-true _ _ parts.0)) ∙ p.is) parts.1 in
    above_is_any n t.held ∙ both_ways _ _ to back ∙ ap (λ (j : ℕ). some_of (λ m b. nat_le j m && nat_lt n m) ks s) (sym k)

-- the reason, or else an answer
abbrev or_refused : Option Reason → Answer → Answer
or_refused (Some reason) a = Refused reason
or_refused None a = a

in_order : (b c d e g : Bool) (a : Answer)
    → cond b (Refused BadLength) (cond c (Refused AfterClose) (cond d (Refused Repeat) (cond e (Refused BeyondClose) (cond g (Refused EarlyClose) a)))) ≡ or_refused
    (cond b (Some BadLength) (cond c (Some AfterClose) (cond d (Some Repeat) (cond e (Some BeyondClose) (cond g (Some EarlyClose) None))))) a
in_order true c d e g a = refl
in_order false true d e g a = refl
in_order false false true e g a = refl
in_order false false false true g a = refl
in_order false false false false true a = refl
in_order false false false false false a = refl

abbrev accepting : List Parcel → Parcel → Answer
accepting ks x = cond (x.number == next_in ks x.sender) (Accepted (next_in (x ∷ ks) x.sender - next_in ks x.sender)) Held

-- for a known sender at the right partition
known_answer : (q n block : ℕ) (ks : List Parcel) (x : Parcel) (t : Standing) → x.partition ≡ q → x.sender < n → AreKeptOnce q n ks → IsSound t → Agrees (body_in ks x.sender) t
    → kept_answer q n block ks x ≡ or_refused (refusal block t x.number x.body) (accepting ks x)
known_answer q n block ks x t right known once sound a =
    let b : Bool = is_bad_length block x.body in
    let five : Bool → Bool → Bool → Bool
    → Answer = λ c d e g. cond b (Refused BadLength) (cond c (Refused AfterClose) (cond d (Refused Repeat) (cond e (Refused BeyondClose) (cond (is_close x.body && g) (Refused EarlyClose) (accepting ks x))))) in
    let d : Bool = nat_lt x.number t.next || holds x.number t.held in
    let e : Bool = holds_close_below x.number t.held in
    let g : Bool = holds_above x.number t.held in
    ap (λ (u : Bool). cond (not u) (Refused WrongPartition)
    (cond (not (nat_lt x.sender n)) (Refused UnknownSender) (five (is_closed_in ks x.sender) (is_kept_in ks x.sender x.number) (holds_close_before ks x.sender x.number) (holds_after ks x.sender x.number)))) (eq-eqb x.partition q right)
    ∙ ap (λ (u : Bool). cond (not u) (Refused UnknownSender) (five (is_closed_in ks x.sender) (is_kept_in ks x.sender x.number) (holds_close_before ks x.sender x.number) (holds_after ks x.sender x.number))) (lt-ltb x.sender n known)
    ∙ ap (λ (u : Bool). five u (is_kept_in ks x.sender x.number) (holds_close_before ks x.sender x.number) (holds_after ks x.sender x.number)) (sym (closed_same q n ks x.sender t once a))
    ∙ ap (λ (u : Bool). five t.closed u (holds_close_before ks x.sender x.number) (holds_after ks x.sender x.number)) (kept_is ks x.sender x.number ∙ sym (kept_number ks x.sender x.number t a))
    ∙ ap (λ (u : Bool). five t.closed d u (holds_after ks x.sender x.number)) (sym (beyond_same q n ks x.sender x.number t once sound a))
    ∙ ap (λ (u : Bool). five t.closed d e u) (sym (above_same q n ks x.sender x.number t once sound a))
    ∙ in_order b t.closed d e (is_close x.body && g) (accepting ks x)

accept_counts : (ks : List Parcel) (v : LedgerValue) (x : Parcel) (c : ℕ) → Keeps ks v → x.sender < length v.senders → answer_to v x ≡ Accepted c → next_in (x ∷ ks) x.sender - next_in ks x.sender ≡ c
accept_counts ks v x c k known h =
    let before : next_in ks x.sender ≡ (standing v x.sender).next = next_is ks x.sender (standing v x.sender) (k x.sender known).1 in
    let kept : Keeps (x ∷ ks) (after_offer v x) = subst (λ (a : Answer). Keeps (keep a x ks) (after_offer v x)) h (keeps_offer ks v x k) in
    let there : x.sender < length (after_offer v x).senders = subst (λ (m : ℕ). x.sender < m) (sym ((same_shape v x).senders)) known in
    let after : next_in (x ∷ ks) x.sender ≡ (standing (after_offer v x) x.sender).next = next_is (x ∷ ks) x.sender (standing (after_offer v x) x.sender) (kept x.sender there).1 in
    let moved : (standing (after_offer v x) x.sender).next ≡ (standing v x.sender).next + c = accepted_counts v x c h in
    omega arith

refused_by : (u : Bool) (a b : Answer) → u ≡ false → cond (not u) a b ≡ a
refused_by true a b h = cc
refused_by false a b h = refl

passed_by : (u : Bool) (a b : Answer) → u ≡ true → cond (not u) a b ≡ b
passed_by true a b h = refl
passed_by false a b h = cc

taken : (u : Bool) (a b : Answer) → u ≡ true → cond u a b ≡ a
taken true a b h = refl
taken false a b h = cc

left : (u : Bool) (a b : Answer) → u ≡ false → cond u a b ≡ b
left true a b h = cc
left false a b h = refl

pub one_rule : (ks : List Parcel) (v : LedgerValue) (x : Parcel) → Keeps ks v → AreKeptOnce v.partition (length v.senders) ks → answer_to v x ≡ kept_answer v.partition (length v.senders) v.block ks x
one_rule ks v x k once =
    let known : (p : x.partition ≡ v.partition) (l : x.sender < length v.senders) → kept_answer v.partition (length v.senders) v.block ks x ≡ or_refused (refusal v.block (standing v x.sender) x.number x.body) (accepting ks x) = λ p l.
    known_answer v.partition (length v.senders) v.block ks x (standing v x.sender) p l once (k x.sender l).0 (k x.sender l).1 in
    let same_next : (l : x.sender < length v.senders) → next_in ks x.sender ≡ (standing v x.sender).next = λ l. next_is ks x.sender (standing v x.sender) (k x.sender l).1 in
    elim (outcome v x) [
      | wrong p a ↦ a ∙ sym (refused_by _ _ _ p)
      | unknown p l a ↦ a ∙ sym (passed_by _ _ _ (eq-eqb x.partition v.partition p) ∙ refused_by _ _ _ (le-ltb x.sender (length v.senders) l))
      | refused reason p l r a ↦ a ∙ sym (known p l ∙ ap (λ (o : Option Reason). or_refused o (accepting ks x)) r)
      | next p l r e a ↦ a ∙ sym (known p l ∙ ap (λ (o : Option Reason). or_refused o (accepting ks x)) r ∙ taken _ _ _ (eq-eqb x.number (next_in ks x.sender) (e ∙ sym (same_next l))) ∙ ap Accepted (accept_counts ks v x _ k l a))
      | later p l r e a ↦ a ∙ sym (known p l ∙ ap (λ (o : Option Reason). or_refused o (accepting ks x)) r ∙ left _ _ _ (ap (λ (j : ℕ). x.number == j) (same_next l) ∙ e))
    ]

all_rules : (q n block : ℕ) (xs ks : List Parcel) (v : LedgerValue) → v.partition ≡ q → length v.senders ≡ n → v.block ≡ block → Keeps ks v → AreKeptOnce q n ks → answers v xs ≡ kept_answers q n block ks xs
all_rules q n block [] ks v eq en eb k once = refl
all_rules q n block (x ∷ xs) ks v eq en eb k once =
    let once_here : AreKeptOnce v.partition (length v.senders) ks = subst (λ (p : ℕ). AreKeptOnce p (length v.senders) ks) (sym eq) (subst (λ (m : ℕ). AreKeptOnce q m ks) (sym en) once) in
    let one : answer_to v x ≡ kept_answer q n block ks x = one_rule ks v x k once_here ∙ ap (λ (p : ℕ). kept_answer p (length v.senders) v.block ks x) eq
    ∙ ap (λ (m : ℕ). kept_answer q m v.block ks x) en ∙ ap (λ (m : ℕ). kept_answer q n m ks x) eb in
    let once_after : AreKeptOnce q n (keep (answer_to v x) x ks) = subst (λ (p : ℕ). AreKeptOnce p n (keep (answer_to v x) x ks)) eq
    (subst (λ (m : ℕ). AreKeptOnce v.partition m (keep (answer_to v x) x ks)) en (kept_once (x ∷ []) ks v k once_here)) in
    let more : answers (after_offer v x) xs ≡ kept_answers q n block (keep (answer_to v x) x ks) xs = all_rules q n block xs (keep (answer_to v x) x ks) (after_offer v x)
    ((same_shape v x).partition ∙ eq) ((same_shape v x).senders ∙ en) ((same_shape v x).block ∙ eb) (keeps_offer ks v x k) once_after in
    ap (λ (as' : List Answer). answer_to v x ∷ as') more ∙ ap (λ (a : Answer). a ∷ kept_answers q n block (keep a x ks) xs) one

pub replay_rules : (q n block : ℕ) (xs : List Parcel) → answers (opened q n block) xs ≡ kept_answers q n block [] xs
replay_rules q n block xs = all_rules q n block xs [] (opened q n block) refl (length-replicate n nothing_yet) refl (keeps_opened q n block) tt

gap_in : (ks : List Parcel) (s k : ℕ) (es : List (ℕ × Body)) → next_in ks s ≡ k → Orderly (k + 1) es → ((m : ℕ) → k ≤ m → body_in ks s m ≡ held_at m es) → IsGapIn ks s (gap_before k es)
gap_in ks s k [] h o held = λ m l. held m (omega arith)
gap_in ks s k (e ∷ es) h o held =
    let from : k + 1 ≤ e.0 = o.0 in
    let first : body_in ks s e.0 ≡ Some e.1 = held e.0 (omega arith) ∙ ap (λ (t : Bool). cond t (Some e.1) (held_at e.0 es)) (eq-eqb e.0 e.0 refl) in
    let there : IsSome (body_in ks s e.0) = ap is_some first in
    let past : k < e.0 = omega arith in
    let itself : e.0 ≤ e.0 = omega arith in
    let others : (m : ℕ) → next_in ks s ≤ m → m < e.0 → body_in ks s m ≡ None = λ m l q. held m (omega arith) ∙ none_held_below (e ∷ es) e.0 m (itself, o.1, o.2) q in
    (sym h, past, there, others)

pub shows_kept : (ks : List Parcel) (v : LedgerValue) → Keeps ks v → AreKeptOnce v.partition (length v.senders) ks → (s : ℕ) → s < length v.senders → ShowsKept ks s (standing v s)
shows_kept ks v k once s l =
    let a : Agrees (body_in ks s) (standing v s) = (k s l).1 in
    let same : next_in ks s ≡ (standing v s).next = next_is ks s (standing v s) a in
    record {
      next = sym same;
      closed = closed_same v.partition (length v.senders) ks s (standing v s) once a;
      rows = a.rows ∙ ap (rows_below (body_in ks s)) (sym same);
      gap = gap_in ks s (standing v s).next (standing v s).held same (k s l).0.orderly a.held;
    }
