-- Over lawful arrivals each answer is the planned one.
use Rattle.std.proofs.Common.{◌≡◌, ℕ, zero, suc, ◌+◌, ◌-◌, ◌<◌, ◌≤◌, ◌==◌, Bool, true, false, cond, not, ◌&&◌, List, ◌∷◌, length, nat_lt, refl, ap, sym, ◌∙◌, arith, subst, inl, inr, ◌⊎◌, is_some}
use Rattle.std.proofs.Common.{Some, None, Option, eq-eqb, slice_get, add-zero, get_or-set_same, length-set}
use Rattle.std.proofs.lemmas.Bool.{and_parts, eqb-true, le-ltb, lt-ltb, ltb-false, ltb-true, not_from_false, not_from_true}
use Rattle.std.proofs.lemmas.Bool.Decides.{nat_tests}
use Rattle.rj_exchange.specs.declared.ledger.parcel.Body.{Body}
use Rattle.rj_exchange.specs.declared.ledger.parcel.Parcel.{Parcel}
use Rattle.rj_exchange.specs.declared.ledger.parcel.Reason.{Reason}
use Rattle.rj_exchange.specs.declared.ledger.parcel.Reason.TheVariants.{WrongPartition, UnknownSender, AfterClose, Repeat}
use Rattle.rj_exchange.specs.declared.ledger.parcel.Answer.{Answer}
use Rattle.rj_exchange.specs.declared.ledger.parcel.Answer.TheVariants.{Accepted, Held, Refused}
use Rattle.rj_exchange.specs.Standing.{Standing, following, delivered_from, nothing_yet}
use Rattle.rj_exchange.specs.Rules.{refusal, answer_unless}
use Rattle.rj_exchange.specs.Cutting.{bodies}
use Rattle.rj_exchange.specs.Ledgers.{LedgerValue, standing, answer_to, after_answer, after_offer}
use Rattle.rj_exchange.specs.Kept.{keep, body_in, Keeps}
use Rattle.rj_exchange.specs.Lawful.{IsPlanned, arrived, passing, front, is_past_close, planned_answer}
use Rattle.rj_exchange.proofs.LedgerFacts.{keeps_offer}
use Rattle.rj_exchange.proofs.PlanFacts.{IsInPlan, bodies_are_plan, next_within, refusal_is, within_plan, below_in_plan, some_body}

-- what an offer comes to
pub data Outcome (v : LedgerValue) (x : Parcel) : Type 0 where
  wrong : (x.partition == v.partition) ≡ false → answer_to v x ≡ Refused WrongPartition → Outcome v x
  unknown : x.partition ≡ v.partition → length v.senders ≤ x.sender → answer_to v x ≡ Refused UnknownSender → Outcome v x
  refused : (reason : Reason) → x.partition ≡ v.partition → x.sender < length v.senders → refusal v.block (standing v x.sender) x.number x.body ≡ Some reason → answer_to v x ≡ Refused reason → Outcome v x
  next : x.partition ≡ v.partition → x.sender < length v.senders → refusal v.block (standing v x.sender) x.number x.body ≡ None → x.number ≡ (standing v x.sender).next
      → answer_to v x ≡ Accepted (length (following (x.number + 1) (standing v x.sender).held) + 1) → Outcome v x
  later : x.partition ≡ v.partition → x.sender < length v.senders → refusal v.block (standing v x.sender) x.number x.body ≡ None → (x.number == (standing v x.sender).next) ≡ false → answer_to v x ≡ Held → Outcome v x

outcome_by : (v : LedgerValue) (x : Parcel) (p q t : Bool) (r : Option Reason) → (x.partition == v.partition) ≡ p → nat_lt x.sender (length v.senders) ≡ q
    → refusal v.block (standing v x.sender) x.number x.body ≡ r → (x.number == (standing v x.sender).next) ≡ t
    → answer_to v x ≡ cond (not p) (Refused WrongPartition) (cond (not q) (Refused UnknownSender) (answer_unless r (standing v x.sender) x.number)) → Outcome v x
outcome_by v x false q t r ep eq er et a = wrong ep a
outcome_by v x true false t r ep eq er et a = unknown (eqb-true _ _ ep) (ltb-false _ _ eq) a
outcome_by v x true true t (Some reason) ep eq er et a = refused reason (eqb-true _ _ ep) (ltb-true _ _ eq) er a
outcome_by v x true true true None ep eq er et a = next (eqb-true _ _ ep) (ltb-true _ _ eq) er (eqb-true _ _ et) (a ∙ ap (λ (b : Bool). cond b (Accepted (length (following (x.number + 1) (standing v x.sender).held) + 1)) Held) et)
outcome_by v x true true false None ep eq er et a = later (eqb-true _ _ ep) (ltb-true _ _ eq) er et (a ∙ ap (λ (b : Bool). cond b (Accepted (length (following (x.number + 1) (standing v x.sender).held) + 1)) Held) et)

pub outcome : (v : LedgerValue) (x : Parcel) → Outcome v x
outcome v x = outcome_by v x (x.partition == v.partition) (nat_lt x.sender (length v.senders)) (x.number == (standing v x.sender).next) (refusal v.block (standing v x.sender) x.number x.body) refl refl refl refl refl

-- after the arrivals `seen`, all planned, of which ks were kept
pub record IsLawfulState (due : ℕ → ℕ → List ℕ) (block q n : ℕ) (seen ks : List Parcel) (v : LedgerValue) : Type 0 where
  pub partition : v.partition ≡ q
  pub block_is : v.block ≡ block
  pub count : length v.senders ≡ n
  pub keeps : Keeps ks v
  pub planned : (s m : ℕ) (b : Body) → body_in ks s m ≡ Some b → slice_get (bodies block (due s q)) m ≡ Some b
  pub same : (s m : ℕ) → s < n → arrived q seen s m ≡ body_in ks s m

pub passing_is : (f : ℕ → Bool) (most n k : ℕ) → ((m : ℕ) → n ≤ m → m < n + k → f m ≡ true) → k ≤ most → (k ≡ most) ⊎ (f (n + k) ≡ false) → passing f n most ≡ k
passing_is f zero n k h q w = omega arith
passing_is f (suc most) n zero h q w = elim w [
  | inl e ↦ absurd (omega arith)
  | inr e ↦ ap (λ (t : Bool). cond t (passing f (n + 1) most + 1) 0) (ap f (sym (add-zero n)) ∙ e)
]
passing_is f (suc most) n (suc k) h q w =
    let shift : (n + 1) + k ≡ n + suc k = omega arith in
    let more : passing f (n + 1) most ≡ k = passing_is f most (n + 1) k (λ m a b. h m (omega arith) (omega arith)) (omega arith) (elim w [ inl e ↦ inl (omega arith) | inr e ↦ inr (ap f shift ∙ e) ]) in
    ap (λ (t : Bool). cond t (passing f (n + 1) most + 1) 0) (h n (omega arith) (omega arith)) ∙ omega arith

end_or_seen : (end seen : Bool) (reason : Reason) → cond end (Some AfterClose) (cond seen (Some Repeat) None) ≡ Some reason → (end ≡ true) ⊎ (seen ≡ true)
end_or_seen true seen reason h = inl refl
end_or_seen false true reason h = inr refl
end_or_seen false false reason h = cc

neither : (end seen : Bool) → ◌≡◌ {A = Option Reason} (cond end (Some AfterClose) (cond seen (Some Repeat) None)) None → (end ≡ false) × (seen ≡ false)
neither true seen h = cc
neither false true h = cc
neither false false h = (refl, refl)

refused_chain : (end seen : Bool) (reason : Reason) (rest : Answer) → cond end (Some AfterClose) (cond seen (Some Repeat) None) ≡ Some reason → Refused reason ≡ cond end (Refused AfterClose) (cond seen (Refused Repeat) rest)
refused_chain true seen reason rest h = cc
refused_chain false true reason rest h = cc
refused_chain false false reason rest h = cc

test_same : (p : Bool) (o u : Option Body) (b : Body) → o ≡ u → (p ≡ true → u ≡ Some b) → cond p (Some b) o ≡ u
test_same true o u b e h = sym (h refl)
test_same false o u b e h = e

planned_at : (p : Bool) (o u : Option Body) (b c : Body) → cond p (Some b) o ≡ Some c → (p ≡ true → u ≡ Some b) → (o ≡ Some c → u ≡ Some c) → u ≡ Some c
planned_at true o u b c h here old = here refl ∙ h
planned_at false o u b c h here old = old h

chain : (a b c d e f g h i j : Bool) (w u l r k o : Answer) → a ≡ b → c ≡ d → e ≡ f → g ≡ h → i ≡ j → cond a w (cond c u (cond e l (cond g r (cond i k o)))) ≡ cond b w (cond d u (cond f l (cond h r (cond j k o))))
chain a b c d e f g h i j w u l r k o p q x y z = cc

three_tests : (a b c d e f : Bool) (l r k o : Answer) → a ≡ d → b ≡ e → c ≡ f → cond a l (cond b r (cond c k o)) ≡ cond d l (cond e r (cond f k o))
three_tests a b c d e f l r k o p q w = cc

wrong_test : (t : Bool) → (false && t) ≡ true → ⊥
wrong_test t h = cc

module _ (due : ℕ → ℕ → List ℕ) (block q n : ℕ) (good : 0 < block) where
  pub in_plan : (seen ks : List Parcel) (v : LedgerValue) → IsLawfulState due block q n seen ks v → (s : ℕ) → s < n → IsInPlan block (bodies block (due s q)) (body_in ks s) (standing v s)
  in_plan seen ks v h s k = let here = h.keeps s (rw h.count k) in record {
    plan = bodies_are_plan block (due s q) good;
    planned = h.planned s;
    sound = here.0;
    agrees = here.1;
  }

  pub front_is : (seen ks : List Parcel) (v : LedgerValue) → IsLawfulState due block q n seen ks v → (s : ℕ) → s < n → front due block q seen s ≡ (standing v s).next
  front_is seen ks v h s k =
      let p = in_plan seen ks v h s k in
      passing_is (λ m. is_some (arrived q seen s m)) (length (bodies block (due s q))) 0 (standing v s).next
      (λ m a b. ap is_some (h.same s m k) ∙ p.agrees.below m (omega arith))
      (next_within block (bodies block (due s q)) (body_in ks s) (standing v s) p)
      (inr (ap (λ (m : ℕ). is_some (arrived q seen s m)) (omega arith) ∙ ap is_some (h.same s (standing v s).next k ∙ p.agrees.next)))

  -- a planned parcel that is refused had come already
  came_already : (seen ks : List Parcel) (v : LedgerValue) → IsLawfulState due block q n seen ks v → (x : Parcel) → IsPlanned due block x → x.partition ≡ q → x.sender < n → (reason : Reason)
      → refusal v.block (standing v x.sender) x.number x.body ≡ Some reason → body_in ks x.sender x.number ≡ Some x.body
  came_already seen ks v h x planned e k reason r =
      let p = in_plan seen ks v h x.sender k in
      let here : slice_get (bodies block (due x.sender q)) x.number ≡ Some x.body = subst (λ (w : ℕ). slice_get (bodies block (due x.sender w)) x.number ≡ Some x.body) e planned in
      let w : refusal block (standing v x.sender) x.number x.body ≡ Some reason = subst (λ (b : ℕ). refusal b (standing v x.sender) x.number x.body ≡ Some reason) h.block_is r in
      elim (end_or_seen _ _ reason (sym (refusal_is block (bodies block (due x.sender q)) (body_in ks x.sender) (standing v x.sender) p x.number x.body here) ∙ w)) [
        | inl t ↦
            let ended : (standing v x.sender).next ≡ length (bodies block (due x.sender q)) = eqb-true _ _ t in
            let inside : x.number < length (bodies block (due x.sender q)) = within_plan (bodies block (due x.sender q)) x.number x.body here in
            let o = below_in_plan block (bodies block (due x.sender q)) (body_in ks x.sender) (standing v x.sender) p x.number (omega arith) in o.1 ∙ sym o.2 ∙ here
        | inr t ↦ let o = some_body (body_in ks x.sender x.number) t in o.1 ∙ sym (h.planned x.sender x.number o.0 o.1) ∙ here
      ]

  -- a parcel that is kept
  kept_state : (seen ks : List Parcel) (v w : LedgerValue) → IsLawfulState due block q n seen ks v → (x : Parcel) → IsPlanned due block x → x.partition ≡ q → w.partition ≡ q → w.block ≡ block
      → length w.senders ≡ n → Keeps (x ∷ ks) w → IsLawfulState due block q n (x ∷ seen) (x ∷ ks) w
  kept_state seen ks v w h x planned e wp wb wn keeps = record {
    partition = wp;
    block_is = wb;
    count = wn;
    keeps = keeps;
    planned = λ s m b g. planned_at ((x.sender == s) && (x.number == m)) (body_in ks s m) (slice_get (bodies block (due s q)) m) x.body b g
        (λ t. let parts = and_parts _ _ t in
        let es : x.sender ≡ s = eqb-true _ _ parts.0 in let em : x.number ≡ m = eqb-true _ _ parts.1 in
        subst (λ (k : ℕ). slice_get (bodies block (due s q)) k ≡ Some x.body) em
        (subst (λ (k : ℕ). slice_get (bodies block (due k q)) x.number ≡ Some x.body) es (subst (λ (k : ℕ). slice_get (bodies block (due x.sender k)) x.number ≡ Some x.body) e planned)))
        (h.planned s m b);
    same = λ s m k. ap (λ (t : Bool). cond (t && ((x.sender == s) && (x.number == m))) (Some x.body) (arrived q seen s m)) (eq-eqb x.partition q e)
        ∙ ap (λ (o : Option Body). cond ((x.sender == s) && (x.number == m)) (Some x.body) o) (h.same s m k);
  }

  -- a parcel that is refused
  refused_state : (seen ks : List Parcel) (v : LedgerValue) → IsLawfulState due block q n seen ks v → (x : Parcel)
      → ((s m : ℕ) → s < n → ((x.partition == q) && ((x.sender == s) && (x.number == m))) ≡ true → body_in ks s m ≡ Some x.body) → IsLawfulState due block q n (x ∷ seen) ks v
  refused_state seen ks v h x came = record {
    partition = h.partition;
    block_is = h.block_is;
    count = h.count;
    keeps = h.keeps;
    planned = h.planned;
    same = λ s m k. test_same ((x.partition == q) && ((x.sender == s) && (x.number == m))) (arrived q seen s m) (body_in ks s m) x.body (h.same s m k) (came s m k);
  }

  pub next_state : (seen ks : List Parcel) (v : LedgerValue) → IsLawfulState due block q n seen ks v → (x : Parcel) → IsPlanned due block x → IsLawfulState due block q n (x ∷ seen) (keep (answer_to v x) x ks) (after_offer v x)
  next_state seen ks v h x planned =
      let P : Answer → Type 0 = λ (a : Answer). IsLawfulState due block q n (x ∷ seen) (keep a x ks) (after_answer a v x) in
      let K : Answer → Type 0 = λ (a : Answer). Keeps (keep a x ks) (after_answer a v x) in
      elim (outcome v x) [
        | wrong p a ↦ subst P (sym a) (refused_state seen ks v h x
            (λ s m k t. absurd (wrong_test ((x.sender == s) && (x.number == m)) (subst (λ (b : Bool). (b && ((x.sender == s) && (x.number == m))) ≡ true) (subst (λ (w : ℕ). (x.partition == w) ≡ false) h.partition p) t))))
        | unknown p k a ↦ subst P (sym a) (refused_state seen ks v h x (λ s m l t. absurd (let es : x.sender ≡ s = eqb-true _ _ (and_parts _ _ (and_parts _ _ t).1).0 in let c : length v.senders ≡ n = h.count in omega arith)))
        | refused reason p k r a ↦ subst P (sym a) (refused_state seen ks v h x (λ s m l t.
            let parts = and_parts _ _ (and_parts _ _ t).1 in
            let es : x.sender ≡ s = eqb-true _ _ parts.0 in let em : x.number ≡ m = eqb-true _ _ parts.1 in
            subst (λ (w : ℕ). body_in ks w m ≡ Some x.body) es
            (subst (λ (w : ℕ). body_in ks x.sender w ≡ Some x.body) em (came_already seen ks v h x planned (p ∙ h.partition) (let c : length v.senders ≡ n = h.count in omega arith) reason r))))
        | next p k r e a ↦ subst P (sym a)
            (kept_state seen ks v (after_answer (Accepted (length (following (x.number + 1) (standing v x.sender).held) + 1)) v x) h x planned (p ∙ h.partition) h.partition h.block_is
            (length-set v.senders x.sender _ ∙ h.count) (subst K a (keeps_offer ks v x h.keeps)))
        | later p k r e a ↦ subst P (sym a) (kept_state seen ks v (after_answer Held v x) h x planned (p ∙ h.partition) h.partition h.block_is (length-set v.senders x.sender _ ∙ h.count) (subst K a (keeps_offer ks v x h.keeps)))
      ]

  -- the planned answer to a parcel for q of a known sender, in the ledger's terms
  planned_for_known : (seen ks : List Parcel) (v : LedgerValue) → IsLawfulState due block q n seen ks v → (x : Parcel) → x.partition ≡ q → x.sender < n → planned_answer due block q n seen x
      ≡ cond ((standing v x.sender).next == length (bodies block (due x.sender q))) (Refused AfterClose)
      (cond (is_some (body_in ks x.sender x.number)) (Refused Repeat)
      (cond (x.number == (standing v x.sender).next) (Accepted (front due block q (x ∷ seen) x.sender - front due block q seen x.sender)) Held))
  planned_for_known seen ks v h x e k =
      let fr : front due block q seen x.sender ≡ (standing v x.sender).next = front_is seen ks v h x.sender k in
      chain (not (x.partition == q)) false (not (nat_lt x.sender n)) false (is_past_close due block q seen x.sender) ((standing v x.sender).next == length (bodies block (due x.sender q)))
      (is_some (arrived q seen x.sender x.number)) (is_some (body_in ks x.sender x.number)) (x.number == front due block q seen x.sender) (x.number == (standing v x.sender).next)
      (Refused WrongPartition) (Refused UnknownSender) (Refused AfterClose) (Refused Repeat) (Accepted (front due block q (x ∷ seen) x.sender - front due block q seen x.sender)) Held
      (not_from_true (x.partition == q) (eq-eqb x.partition q e)) (not_from_true (nat_lt x.sender n) (lt-ltb x.sender n k))
      (ap (λ (w : ℕ). w == length (bodies block (due x.sender q))) fr)
      (ap is_some (h.same x.sender x.number k))
      (ap (λ (w : ℕ). x.number == w) fr)

  refusal_here : (seen ks : List Parcel) (v : LedgerValue) → IsLawfulState due block q n seen ks v → (x : Parcel) → IsPlanned due block x → x.partition ≡ q → x.sender < n
      → refusal v.block (standing v x.sender) x.number x.body ≡ cond ((standing v x.sender).next == length (bodies block (due x.sender q))) (Some AfterClose) (cond (is_some (body_in ks x.sender x.number)) (Some Repeat) None)
  refusal_here seen ks v h x planned e k =
      let here : slice_get (bodies block (due x.sender q)) x.number ≡ Some x.body = subst (λ (w : ℕ). slice_get (bodies block (due x.sender w)) x.number ≡ Some x.body) e planned in
      ap (λ (b : ℕ). refusal b (standing v x.sender) x.number x.body) h.block_is ∙ refusal_is block (bodies block (due x.sender q)) (body_in ks x.sender) (standing v x.sender) (in_plan seen ks v h x.sender k) x.number x.body here

  -- how far the front goes when the next parcel comes
  gain : (seen ks : List Parcel) (v : LedgerValue) → IsLawfulState due block q n seen ks v → (x : Parcel) → IsPlanned due block x → x.sender < n → x.number ≡ (standing v x.sender).next
      → answer_to v x ≡ Accepted (length (following (x.number + 1) (standing v x.sender).held) + 1) → length (following (x.number + 1) (standing v x.sender).held) + 1 ≡ front due block q (x ∷ seen) x.sender - front due block q seen x.sender
  gain seen ks v h x planned k e a =
      let st : Standing = standing v x.sender in
      let before : front due block q seen x.sender ≡ st.next = front_is seen ks v h x.sender k in
      let known : x.sender < length v.senders = rw h.count k in
      let now : standing (after_offer v x) x.sender ≡ delivered_from st x.number x.body =
      ap (λ (b : Answer). standing (after_answer b v x) x.sender) a ∙ get_or-set_same v.senders x.sender (delivered_from st x.number x.body) nothing_yet known in
      let then : front due block q (x ∷ seen) x.sender ≡ x.number + 1 + length (following (x.number + 1) st.held) =
      front_is (x ∷ seen) (keep (answer_to v x) x ks) (after_offer v x) (next_state seen ks v h x planned) x.sender k ∙ ap (λ (t : Standing). t.next) now in
      by_count (length (following (x.number + 1) st.held)) x.number st.next (front due block q (x ∷ seen) x.sender) (front due block q seen x.sender) e before then
    where
      by_count : (run number nxt after before : ℕ) → number ≡ nxt → before ≡ nxt → after ≡ number + 1 + run → run + 1 ≡ after - before
      by_count run number nxt after before p r t = omega arith

  -- a planned parcel gets the planned answer
  pub answer_is_planned : (seen ks : List Parcel) (v : LedgerValue) → IsLawfulState due block q n seen ks v → (x : Parcel) → IsPlanned due block x → answer_to v x ≡ planned_answer due block q n seen x
  answer_is_planned seen ks v h x planned =
      elim (outcome v x) [
        | wrong p a ↦ a ∙ sym (chain (not (x.partition == q)) true (not (nat_lt x.sender n)) (not (nat_lt x.sender n)) (is_past_close due block q seen x.sender) (is_past_close due block q seen x.sender)
            (is_some (arrived q seen x.sender x.number)) (is_some (arrived q seen x.sender x.number)) (x.number == front due block q seen x.sender) (x.number == front due block q seen x.sender)
            (Refused WrongPartition) (Refused UnknownSender) (Refused AfterClose) (Refused Repeat) (Accepted (front due block q (x ∷ seen) x.sender - front due block q seen x.sender)) Held
            (not_from_false (x.partition == q) (subst (λ (w : ℕ). (x.partition == w) ≡ false) h.partition p)) refl refl refl refl)
        | unknown p k a ↦ a ∙ sym (chain (not (x.partition == q)) false (not (nat_lt x.sender n)) true (is_past_close due block q seen x.sender) (is_past_close due block q seen x.sender)
            (is_some (arrived q seen x.sender x.number)) (is_some (arrived q seen x.sender x.number)) (x.number == front due block q seen x.sender) (x.number == front due block q seen x.sender)
            (Refused WrongPartition) (Refused UnknownSender) (Refused AfterClose) (Refused Repeat) (Accepted (front due block q (x ∷ seen) x.sender - front due block q seen x.sender)) Held
            (not_from_true (x.partition == q) (eq-eqb x.partition q (p ∙ h.partition))) (not_from_false (nat_lt x.sender n) (le-ltb x.sender n (subst (λ (w : ℕ). w ≤ x.sender) h.count k))) refl refl refl)
        | refused reason p k r a ↦
            let l : x.sender < n = subst (λ (w : ℕ). x.sender < w) h.count k in
            let e : x.partition ≡ q = p ∙ h.partition in
            a ∙ refused_chain ((standing v x.sender).next == length (bodies block (due x.sender q))) (is_some (body_in ks x.sender x.number)) reason _ (sym (refusal_here seen ks v h x planned e l) ∙ r)
            ∙ sym (planned_for_known seen ks v h x e l)
        | next p k r g a ↦
            let l : x.sender < n = subst (λ (w : ℕ). x.sender < w) h.count k in
            let e : x.partition ≡ q = p ∙ h.partition in
            let no = neither ((standing v x.sender).next == length (bodies block (due x.sender q))) (is_some (body_in ks x.sender x.number)) (sym (refusal_here seen ks v h x planned e l) ∙ r) in
            a ∙ ap (λ (c : ℕ). Accepted c) (gain seen ks v h x planned l g a)
            ∙ sym (planned_for_known seen ks v h x e l ∙ three_tests _ _ _ false false true _ _ _ _ no.0 no.1 (eq-eqb x.number (standing v x.sender).next g))
        | later p k r g a ↦
            let l : x.sender < n = subst (λ (w : ℕ). x.sender < w) h.count k in
            let e : x.partition ≡ q = p ∙ h.partition in
            let no = neither ((standing v x.sender).next == length (bodies block (due x.sender q))) (is_some (body_in ks x.sender x.number)) (sym (refusal_here seen ks v h x planned e l) ∙ r) in
            a ∙ sym (planned_for_known seen ks v h x e l ∙ three_tests _ _ _ false false false _ _ _ _ no.0 no.1 g)
      ]
