-- Lists of tokens, of which one changes.
use Rattle.std.proofs.Common.{◌≡◌, ℕ, zero, suc, ◌+◌, ◌*◌, ◌<◌, ◌≤◌, List, [], ◌∷◌, ◌++◌, map, length, get_or, set, sym, refl, ap, ◌∙◌, subst, arith, get_or-set_same, get_or-set_other, add-one, length-append, lt_of_not-le, mul-le-mul_right}
use Rattle.std.proofs.lemmas.List.{nil_from_length}
use mathlib.Core.Logic.{dite}
use native.Mathlib.Decide.{ℕ_discrete, dec_le}
use lib.Seq.{map-set}
use Rattle.crossbeam_queue.specs.Passes.{view}
use Rattle.rj_exchange.specs.declared.boxes.Stub.{Stub}
use Rattle.rj_exchange.specs.declared.queue.Trace.{Trace}
use Rattle.rj_exchange.specs.declared.queue.Where.{Where}
use Rattle.rj_exchange.specs.declared.ledger.parcel.Parcel.{Parcel}
use Rattle.rj_exchange.specs.declared.posted.Posted.{Posted}
use Rattle.rj_exchange.specs.Passing.{taker, sender, Interleaves}
use Rattle.rj_exchange.specs.Boxes.{Queue, sent_of, IsStubOf, IsAllSent}
use Rattle.rj_exchange.specs.Internal.Ends.{IsTaker, IsGrown, Knows, known_of}
use Rattle.rj_exchange.proofs.Of.{past_end, before_end, at_end}

module _ {A : Type 0} where
  pub any_default : (xs : List A) (i : ℕ) (d e : A) → i < length xs → get_or xs i d ≡ get_or xs i e
  any_default [] i d e lt = absurd (omega arith)
  any_default (x ∷ xs) zero d e lt = refl
  any_default (x ∷ xs) (suc i) d e lt = any_default xs i d e (omega arith)

  pub get_or-map : {B : Type 0} (f : A → B) (xs : List A) (i : ℕ) (d : A) (e : B) → i < length xs → get_or (map f xs) i e ≡ f (get_or xs i d)
  get_or-map f [] i d e lt = absurd (omega arith)
  get_or-map f (x ∷ xs) zero d e lt = refl
  get_or-map f (x ∷ xs) (suc i) d e lt = get_or-map f xs i d e (omega arith)

  set_own : (xs : List A) (i : ℕ) (d a : A) → i < length xs → a ≡ get_or xs i d → set xs i a ≡ xs
  set_own [] i d a lt e = refl
  set_own (x ∷ xs) zero d a lt e = ap (λ y. y ∷ xs) e
  set_own (x ∷ xs) (suc i) d a lt e = ap (λ l. x ∷ l) (set_own xs i d a (omega arith) e)

  -- what one place of a list tells, after the change of that place
  pub told : {B : Type 0} (f : A → B) (xs : List A) (at : ℕ) (old new : A) (d : B) (b : B) → at < length xs → old ≡ get_or xs at old → f new ≡ b → map f (set xs at new) ≡ set (map f xs) at b
  told f xs at old new d b lt is e = map-set f xs at new ∙ ap (set (map f xs) at) e

  pub was : {B : Type 0} (f : A → B) (xs : List A) (at : ℕ) (old : A) (d : B) → at < length xs → old ≡ get_or xs at old → get_or (map f xs) at d ≡ f old
  was f xs at old d lt is = get_or-map f xs at old d lt ∙ ap f (sym is)

-- one token changes, and what ties each token to its queue stays
pub kept : (T : Queue → Stub → Type 0) (queues : List Queue) (stubs : List Stub) (i from j at : ℕ) (queue : Queue) (new : Stub) → from < length queues → at < length stubs
    → queue ≡ get_or queues from queue → (j ≡ at → i ≡ from) → (j ≡ at → T queue new)
    → ((l : Queue) (s : Stub) → T (get_or queues i l) (get_or stubs j s)) → (l : Queue) (s : Stub) → T (get_or queues i l) (get_or (set stubs at new) j s)
kept T queues stubs i from j at queue new lt lt' is same now h l s = dite (ℕ_discrete j at)
    (λ e. let q : queue ≡ get_or queues i l = is ∙ any_default queues from queue l lt ∙ ap (λ (n : ℕ). get_or queues n l) (sym (same e)) in
    let t : new ≡ get_or (set stubs at new) j s = sym (ap (λ (n : ℕ). get_or (set stubs at new) n s) e ∙ get_or-set_same stubs at new s lt') in
    subst (λ (z : Queue × Stub). T z.0 z.1) (λ k. (q k, t k)) (now e))
    (λ ne. subst (T (get_or queues i l)) (sym (get_or-set_other stubs at j new s ne)) (h l s))

pub taker_self : (v : Trace) (p : Where) (m : ℕ) (t : List Posted) (k : List (List Parcel)) → v ≡ taker p m t k → v ≡ taker v.place v.made v.taken v.known
taker_self v p m t k e = e ∙ (λ i. taker (sym e i).place (sym e i).made (sym e i).taken (sym e i).known)

pub stub_self : (w : Where) (o : ℕ) (l : Queue) (s : Stub) → IsStubOf w o l s → IsStubOf (view s.pass).place o l s
stub_self w o l s h = (h.0, h.1 ∙ (λ i. sender (sym h.1 i).place o (view s.pass).sent))

pub knows_none : (l : Queue) (ends : List Stub) (k : ℕ) (s u : Stub) → k < length ends → IsTaker 0 l (get_or ends k u) → Knows l (get_or ends k s) [] (get_or ends k u)
knows_none l ends k s u lt h = let d = any_default ends k u s lt in (h.0, h.1 ∙ (λ i. taker (view (d i).pass).place (view (d i).pass).made (view (d i).pass).taken (nil_from_length (view (get_or ends k u).pass).known h.2 i)))

pub length-known_of : (lanes : ℕ) (ss : List Stub) (k o : ℕ) → length (known_of lanes ss k o) ≡ o
length-known_of lanes ss k zero = refl
length-known_of lanes ss k (suc o) = length-append (known_of lanes ss k o) _ ∙ (let r = length-known_of lanes ss k o in omega arith)

pub knows_taker : (lanes : ℕ) (ss : List Stub) (k o : ℕ) (l : Queue) (old new : Stub) → Knows l old (known_of lanes ss k o) new → IsTaker o l new
knows_taker lanes ss k o l old new h = (h.0, taker_self _ _ _ _ _ h.1, ap (λ (v : Trace). length v.known) h.1 ∙ length-known_of lanes ss k o)

pub knows_more : (lanes : ℕ) (ss : List Stub) (k o : ℕ) (l : Queue) (old mid stub new : Stub) → o * lanes + k < length ss → stub ≡ get_or ss (o * lanes + k) stub
    → Knows l old (known_of lanes ss k o) mid → IsGrown l mid stub new → Knows l old (known_of lanes ss k (o + 1)) new
knows_more lanes ss k o l old mid stub new lt is h g = let sent : sent_of stub ≡ get_or (map sent_of ss) (o * lanes + k) [] = sym (was sent_of ss (o * lanes + k) stub [] lt is) in
    (g.0, g.1 ∙ (λ i. taker (h.1 i).place (h.1 i).made (h.1 i).taken ((h.1 i).known ++ sent i ∷ [])) ∙ ap (λ z. taker (view old.pass).place (view old.pass).made (view old.pass).taken z) (ap (known_of lanes ss k) (sym (add-one o))))

known_at : (lanes : ℕ) (ss : List Stub) (k n o : ℕ) → o < n → get_or (known_of lanes ss k n) o [] ≡ get_or (map sent_of ss) (o * lanes + k) []
known_at lanes ss k zero o lt = absurd (omega arith)
known_at lanes ss k (suc n) o lt = let len = length-known_of lanes ss k n in dite (ℕ_discrete o n)
    (λ e. at_end (known_of lanes ss k n) _ [] o (e ∙ sym len) ∙ ap (λ (m : ℕ). get_or (map sent_of ss) (m * lanes + k) []) (sym e))
    (λ ne. before_end (known_of lanes ss k n) _ o [] (omega arith) ∙ known_at lanes ss k n o (omega arith))

pub length-map' : {A B : Type 0} (f : A → B) (xs : List A) → length (map f xs) ≡ length xs
length-map' f [] = refl
length-map' f (x ∷ xs) = ap suc (length-map' f xs)

-- what interleaves what is known of all outboxes is all that they sent to the lane
pub all_sent : (lanes outboxes : ℕ) (ss : List Stub) (k : ℕ) (xs : List Posted) → length ss ≡ outboxes * lanes → Interleaves (known_of lanes ss k outboxes) xs → IsAllSent lanes ss k xs
all_sent lanes outboxes ss k xs many h o = h o ∙ dite (dec_le outboxes o)
    (λ le. let m : outboxes * lanes ≤ o * lanes = mul-le-mul_right lanes le in let n = length-map' sent_of ss in
    past_end (known_of lanes ss k outboxes) o [] (let len = length-known_of lanes ss k outboxes in omega arith) ∙ sym (past_end (map sent_of ss) (o * lanes + k) [] (omega arith)))
    (λ ne. known_at lanes ss k outboxes o (lt_of_not-le ne))

-- the place of a lane among the tokens of all outboxes
pub row_fits : (o outboxes lanes k : ℕ) → o < outboxes → k < lanes → o * lanes + k < outboxes * lanes
row_fits o outboxes lanes k a b = let m : (o + 1) * lanes ≤ outboxes * lanes = mul-le-mul_right lanes (omega arith) in omega arith

abbrev pub pick : {A : Type 0} (xs : List A) (i : ℕ) → i < length xs → A
pick [] i lt = absurd (omega arith)
pick (x ∷ xs) i lt = x
