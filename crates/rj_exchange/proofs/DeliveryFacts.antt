-- The paragraph on the ledger: whole lists of lawful arrivals.
use Rattle.std.proofs.Common.{◌≡◌, ℕ, zero, suc, ◌+◌, ◌<◌, ◌==◌, Bool, true, false, cond, ◌||◌, ◌&&◌, List, [], ◌∷◌, length, take, refl, ap, sym, ◌∙◌, arith, subst, inl, inr, ◌⊎◌, is_some, Some, Option, eq-eqb, get_or, take_all}
use Rattle.rj_exchange.proofs.KeptFacts.{last_or_below, some_either}
use Rattle.std.specs.Cmp.{both_ways}
use Rattle.std.proofs.lemmas.Bool.{eqb-true, and_from, and_parts}
use Rattle.std.proofs.lemmas.List.{length-replicate}
use Rattle.std.specs.List.{list_all}
use Rattle.std.proofs.lemmas.Bool.Decides.{nat_tests}
use Rattle.rj_exchange.specs.declared.ledger.parcel.Body.{Body}
use Rattle.rj_exchange.specs.declared.ledger.parcel.Parcel.{Parcel}
use Rattle.rj_exchange.specs.declared.ledger.parcel.Answer.{Answer}
use Rattle.rj_exchange.specs.Standing.{Standing, nothing_yet}
use Rattle.std.specs.Prelude.{All, Contains}
use Rattle.rj_exchange.specs.Cutting.{bodies, plan}
use Rattle.rj_exchange.specs.Ledgers.{LedgerValue, standing, answer_to, after_offer, answers, after_all, opened}
use Rattle.rj_exchange.specs.Kept.{keep, kept_onto, body_in}
use Rattle.rj_exchange.specs.Lawful.{IsPlanned, AreLawful, arrived, passing, front, delivered_rows, rows_of_bodies, is_past_close, is_complete, planned_answer, planned_answers}
use Rattle.rj_exchange.specs.Delivery.{Delivers, DeliversAll, AreExactly}
use Rattle.rj_exchange.specs.Kept.{AreKeptOnce}
use Rattle.rj_exchange.proofs.EngineFacts.{kept_once, lawful_if_all, has_all_if_among, among_if_contained}
use Rattle.rj_exchange.proofs.LedgerFacts.{keeps_opened}
use Rattle.rj_exchange.proofs.PlanFacts.{closed_is, rows_are, rows_of_plan}
use Rattle.rj_exchange.proofs.LawfulFacts.{IsLawfulState, in_plan, front_is, next_state, answer_is_planned, passing_is}

-- the arrivals xs, then those before, the newest first
abbrev pub newest_first : List Parcel → List Parcel → List Parcel
newest_first before [] = before
newest_first before (x ∷ xs) = newest_first (x ∷ before) xs

opened_state : (due : ℕ → ℕ → List ℕ) (block q n : ℕ) → IsLawfulState due block q n [] [] (opened q n block)
opened_state due block q n = record {
  partition = refl;
  block_is = refl;
  count = length-replicate n nothing_yet;
  keeps = keeps_opened q n block;
  planned = λ s m b h. cc;
  same = λ s m k. refl;
}

all_states : (due : ℕ → ℕ → List ℕ) (block q n : ℕ) → 0 < block → (xs seen ks : List Parcel) (v : LedgerValue) → IsLawfulState due block q n seen ks v → AreLawful due block xs
    → IsLawfulState due block q n (newest_first seen xs) (kept_onto ks xs (answers v xs)) (after_all v xs)
all_states due block q n good [] seen ks v h l = h
all_states due block q n good (x ∷ xs) seen ks v h l = all_states due block q n good xs (x ∷ seen) (keep (answer_to v x) x ks) (after_offer v x) (next_state due block q n good seen ks v h x l.0) l.1

all_answers : (due : ℕ → ℕ → List ℕ) (block q n : ℕ) → 0 < block → (xs seen ks : List Parcel) (v : LedgerValue) → IsLawfulState due block q n seen ks v → AreLawful due block xs → answers v xs ≡ planned_answers due block q n seen xs
all_answers due block q n good [] seen ks v h l = refl
all_answers due block q n good (x ∷ xs) seen ks v h l =
    let one : answer_to v x ≡ planned_answer due block q n seen x = answer_is_planned due block q n good seen ks v h x l.0 in
    let more : answers (after_offer v x) xs ≡ planned_answers due block q n (x ∷ seen) xs = all_answers due block q n good xs (x ∷ seen) (keep (answer_to v x) x ks) (after_offer v x) (next_state due block q n good seen ks v h x l.0) l.1 in
    ap (λ (a : Answer). a ∷ answers (after_offer v x) xs) one ∙ ap (λ (as' : List Answer). planned_answer due block q n seen x ∷ as') more

pub replay_answers : (due : ℕ → ℕ → List ℕ) (block q n : ℕ) → 0 < block → (xs : List Parcel) → AreLawful due block xs → answers (opened q n block) xs ≡ planned_answers due block q n [] xs
replay_answers due block q n good xs l = all_answers due block q n good xs [] [] (opened q n block) (opened_state due block q n) l

-- which parcels came doesn't depend on their order

or_swaps : (a b c : Bool) → (a || (b || c)) ≡ ((b || a) || c)
or_swaps true true c = refl
or_swaps true false c = refl
or_swaps false true c = refl
or_swaps false false c = refl

arrived_either : (q s m : ℕ) (xs seen : List Parcel) → is_some (arrived q (newest_first seen xs) s m) ≡ (is_some (arrived q xs s m) || is_some (arrived q seen s m))
arrived_either q s m [] seen = refl
arrived_either q s m (x ∷ xs) seen =
    let p : Bool = (x.partition == q) && ((x.sender == s) && (x.number == m)) in
    arrived_either q s m xs (x ∷ seen)
    ∙ ap (λ (t : Bool). is_some (arrived q xs s m) || t) (some_either p x.body (arrived q seen s m))
    ∙ or_swaps (is_some (arrived q xs s m)) p (is_some (arrived q seen s m))
    ∙ ap (λ (t : Bool). t || is_some (arrived q seen s m)) (sym (some_either p x.body (arrived q xs s m)))

or_nothing : (t : Bool) → (t || false) ≡ t
or_nothing true = refl
or_nothing false = refl

passing_same : (f g : ℕ → Bool) (most n : ℕ) → ((m : ℕ) → f m ≡ g m) → passing f n most ≡ passing g n most
passing_same f g zero n h = refl
passing_same f g (suc most) n h = ap (λ (t : Bool). cond t (passing f (n + 1) most + 1) 0) (h n) ∙ ap (λ (k : ℕ). cond (g n) (k + 1) 0) (passing_same f g most (n + 1) h)

front_any_order : (due : ℕ → ℕ → List ℕ) (block q : ℕ) (xs : List Parcel) (s : ℕ) → front due block q (newest_first [] xs) s ≡ front due block q xs s
front_any_order due block q xs s = passing_same (λ m. is_some (arrived q (newest_first [] xs) s m)) (λ m. is_some (arrived q xs s m)) (length (bodies block (due s q))) 0 (λ m. arrived_either q s m xs [] ∙ or_nothing _)

pub list_all_at : (ss : List Standing) (s : ℕ) → list_all (λ t. t.closed) ss ≡ true → s < length ss → (get_or ss s nothing_yet).closed ≡ true
list_all_at [] s h k = absurd (omega arith)
list_all_at (t ∷ ss) zero h k = (and_parts t.closed _ h).0
list_all_at (t ∷ ss) (suc s) h k = list_all_at ss s (second t.closed _ h) (omega arith)
  where
    second : (a b : Bool) → (a && b) ≡ true → b ≡ true
    second true b h = h
    second false b h = cc

list_all_if : (ss : List Standing) → ((s : ℕ) → s < length ss → (get_or ss s nothing_yet).closed ≡ true) → list_all (λ t. t.closed) ss ≡ true
list_all_if [] h = refl
list_all_if (t ∷ ss) h = and_from t.closed _ (h 0 (omega arith)) (list_all_if ss (λ s k. h (suc s) (omega arith)))

complete_at : (due : ℕ → ℕ → List ℕ) (block q n : ℕ) (xs : List Parcel) (s : ℕ) → is_complete due block q n xs ≡ true → s < n → is_past_close due block q xs s ≡ true
complete_at due block q zero xs s h k = absurd (omega arith)
complete_at due block q (suc n) xs s h k = elim (last_or_below s n k) [
  | inl l ↦ complete_at due block q n xs s (and_parts _ _ h).1 l
  | inr e ↦ ap (is_past_close due block q xs) e ∙ (and_parts _ _ h).0
]

complete_if : (due : ℕ → ℕ → List ℕ) (block q n : ℕ) (xs : List Parcel) → ((s : ℕ) → s < n → is_past_close due block q xs s ≡ true) → is_complete due block q n xs ≡ true
complete_if due block q zero xs h = refl
complete_if due block q (suc n) xs h = and_from _ _ (h n (omega arith)) (complete_if due block q n xs (λ s k. h s (omega arith)))

pub replay_delivers : (due : ℕ → ℕ → List ℕ) (block q n : ℕ) → 0 < block → (xs : List Parcel) → AreLawful due block xs → Delivers due block q n xs (after_all (opened q n block) xs)
replay_delivers due block q n good xs l =
    let v : LedgerValue = after_all (opened q n block) xs in
    let seen : List Parcel = newest_first [] xs in
    let ks : List Parcel = kept_onto [] xs (answers (opened q n block) xs) in
    let h : IsLawfulState due block q n seen ks v = all_states due block q n good xs [] [] (opened q n block) (opened_state due block q n) l in
    let next : (s : ℕ) → s < n → (standing v s).next ≡ front due block q xs s = λ s k. sym (front_is due block q n good seen ks v h s k) ∙ front_any_order due block q xs s in
    let closed : (s : ℕ) → s < n → (standing v s).closed ≡ is_past_close due block q xs s = λ s k.
    closed_is block (bodies block (due s q)) (body_in ks s) (standing v s) (in_plan due block q n good seen ks v h s k) ∙ ap (λ (m : ℕ). m == length (bodies block (due s q))) (next s k) in
    let rows : (s : ℕ) → s < n → (standing v s).rows ≡ delivered_rows due block q xs s = λ s k.
    rows_are block (bodies block (due s q)) (body_in ks s) (standing v s) (in_plan due block q n good seen ks v h s k) ∙ ap (λ (m : ℕ). rows_of_bodies (take m (bodies block (due s q)))) (next s k) in
    let all_closed : list_all (λ t. t.closed) v.senders ≡ true → (s : ℕ) → s < n → is_past_close due block q xs s ≡ true = λ a s k.
    sym (closed s k) ∙ list_all_at v.senders s a (subst (λ (m : ℕ). s < m) (sym h.count) k) in
    let if_closed : ((s : ℕ) → s < n → is_past_close due block q xs s ≡ true) → list_all (λ t. t.closed) v.senders ≡ true = λ a.
    list_all_if v.senders (λ s k. let w : s < n = subst (λ (m : ℕ). s < m) h.count k in closed s w ∙ a s w) in
    record {
      senders = h.count;
      next = next;
      closed = closed;
      rows = rows;
      complete = both_ways _ _ (λ a. complete_if due block q n xs (all_closed a)) (λ c. if_closed (λ s k. complete_at due block q n xs s c k));
      all_due = λ a s k.
          let past : front due block q xs s ≡ length (bodies block (due s q)) = eqb-true _ _ (all_closed a s k) in
          rows s k ∙ ap rows_of_bodies (take_all (front due block q xs s) (bodies block (due s q)) (omega arith)) ∙ rows_of_plan block (due s q) good;
      enough = λ a. if_closed (λ s k. eq-eqb _ _ (passing_is (λ m. is_some (arrived q xs s m)) (length (bodies block (due s q))) 0 (length (bodies block (due s q))) (λ m p r. a s m k (omega arith)) (omega arith) (inl refl)));
    }

pub all_kept_once : (q n block : ℕ) (xs : List Parcel) → AreKeptOnce q n (kept_onto [] xs (answers (opened q n block) xs))
all_kept_once q n block xs = subst (λ (k : ℕ). AreKeptOnce q k (kept_onto [] xs (answers (opened q n block) xs))) (length-replicate n nothing_yet) (kept_once xs [] (opened q n block) (keeps_opened q n block) tt)

pub replay_exact : (due : ℕ → ℕ → List ℕ) (block q n : ℕ) → 0 < block → (xs : List Parcel) → AreLawful due block xs → AreExactly due block q n xs (kept_onto [] xs (answers (opened q n block) xs))
replay_exact due block q n good xs l =
    let h = all_states due block q n good xs [] [] (opened q n block) (opened_state due block q n) l in
    record {
      once = all_kept_once q n block xs;
      same = λ s m k. ap is_some (sym (h.same s m k)) ∙ arrived_either q s m xs [] ∙ or_nothing _;
      planned = h.planned;
    }

-- planned arrivals that contain the plans of all senders, in any order and number, leave a ledger
-- that is complete and has delivered of each sender what was due
pub contained_suffice : (due : ℕ → ℕ → List ℕ) (block q n : ℕ) → 0 < block → (xs : List Parcel) → All (IsPlanned due block) xs → ((s : ℕ) → s < n → All (Contains xs) (plan block (due s q) s q))
    → DeliversAll due q n (after_all (opened q n block) xs)
contained_suffice due block q n good xs planned all =
    let d = replay_delivers due block q n good xs (lawful_if_all due block xs planned) in
    let whole = d.enough (has_all_if_among due block q n xs (λ s k. among_if_contained (plan block (due s q) s q) xs (all s k))) in
    record { senders = d.senders; complete = whole; rows = d.all_due whole }
