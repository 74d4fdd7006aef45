-- What readers take and where they stop: laws of the steps that they are made of. A reader takes tokens from the front, and looks at the
-- next one alone.
use Rattle.std.proofs.Common.{◌≡◌, ◌⊎◌, ◌∙◌, ◌++◌, ◌∷◌, [], inl, inr, ℕ, zero, suc, List, length, Option, Some, None, Ok, Err, refl, sym, ap, subst, append_assoc}
use Rattle.rj_condition.specs.declared.token.Keyword.{Keyword}
use Rattle.rj_condition.specs.declared.token.Sign.{Sign}
use Rattle.rj_condition.specs.declared.token.Token.{Token}
use Rattle.rj_condition.specs.declared.token.Token.TheVariants as token
use Rattle.rj_condition.specs.declared.tree.Comparison.{Comparison}
use Rattle.rj_condition.specs.Grammar.{sign_of}
use Rattle.rj_condition.specs.Internal.Reading.{Read, ◌>>=◌, after, behind, expect, operator_at, go_on, separated}
use Rattle.rj_condition.proofs.Behind.{after_here, after_next, behind_here, behind_next, operator_here, operator_next}

-- the same token comes next, or none does
abbrev pub Follows : List Token → List Token → Type 0
Follows [] us = us ≡ []
Follows (t ∷ ts) us = (vs : List Token) × (us ≡ t ∷ vs)

pub follows_behind : (ts taken us vs : List Token) → ts ≡ taken ++ us → Follows us vs → Follows ts (taken ++ vs)
follows_behind ts taken us vs e next = subst (λ (z : List Token). Follows z (taken ++ vs)) (sym e) (go taken)
  where
    go : (taken : List Token) → Follows (taken ++ us) (taken ++ vs)
    go [] = next
    go (t ∷ taken) = (taken ++ vs, refl)

-- with some tokens more these are an x, whatever stands behind
abbrev pub Begins : (A : Type 0) → (List Token → A → List Token → Type 0) → List Token → Type 0
Begins A R ts = (us : List Token) × (x : A) × ((ws : List Token) → R (ts ++ (us ++ ws)) x ws)

-- A reader gave a value and the tokens behind it: it gives the same value before all tokens that follow as these do, and the value is that of
-- the tokens taken.
pub record Takes (A : Type 0) (r : List Token → Read A) (R : List Token → A → List Token → Type 0) (ts : List Token) (p : A × List Token) : Type 0 where
  pub taken : List Token
  pub parts : ts ≡ taken ++ p.1
  pub again : (us : List Token) → Follows p.1 us → r (taken ++ us) ≡ Ok (p.0, us)
  pub related : (ws : List Token) → R (taken ++ ws) p.0 ws

-- A reader stopped: with the next token it stops there whatever comes behind, and the tokens before can be completed.
pub record Stops (A : Type 0) (r : List Token → Read A) (R : List Token → A → List Token → Type 0) (ts : List Token) (left : ℕ) : Type 0 where
  pub before : List Token
  pub rest : List Token
  pub parts : ts ≡ before ++ rest
  pub many : length rest ≡ left
  pub again : (us : List Token) → Follows rest us → r (before ++ us) ≡ Err (length us)
  pub begins : Begins A R before

abbrev pub IsStep : (A : Type 0) → (List Token → Read A) → (List Token → A → List Token → Type 0) → List Token → Read A → Type 0
IsStep A r R ts (Ok p) = Takes A r R ts p
IsStep A r R ts (Err left) = Stops A r R ts left

pub record IsReader (A : Type 0) (r : List Token → Read A) (R : List Token → A → List Token → Type 0) : Type 0 where
  pub step : (ts : List Token) → IsStep A r R ts (r ts)
  pub begins : Begins A R []

-- a relation that says less
module _ {A : Type 0} (r : List Token → Read A) (R S : List Token → A → List Token → Type 0) (reads : IsReader A r R)
    (less : (ts : List Token) (x : A) (us : List Token) → R ts x us → S ts x us) where
  weaker_begins : (ts : List Token) → Begins A R ts → Begins A S ts
  weaker_begins ts b = (b.0, b.1, λ ws. less (ts ++ (b.0 ++ ws)) b.1 ws (b.2 ws))

  weaker_step : (ts : List Token) (q : Read A) → IsStep A r R ts q → IsStep A r S ts q
  weaker_step ts (Ok p) s = record { taken = s.taken; parts = s.parts; again = s.again; related = λ ws. less (s.taken ++ ws) p.0 ws (s.related ws) }
  weaker_step ts (Err left) s = record { before = s.before; rest = s.rest; parts = s.parts; many = s.many; again = s.again; begins = weaker_begins s.before s.begins }

  pub weaker : IsReader A r S
  weaker = record { step = λ ts. weaker_step ts (r ts) (reads.step ts); begins = weaker_begins [] reads.begins }

-- takes nothing
pub giving : {A : Type 0} (x : A) (R : List Token → A → List Token → Type 0) → ((ws : List Token) → R ws x ws) → IsReader A (λ ts. Ok (x, ts)) R
giving x R holds = record {
  step = λ ts. record { taken = []; parts = refl; again = λ us next. refl; related = holds };
  begins = ([], x, holds);
}

-- stops at once
pub failing : {A : Type 0} (R : List Token → A → List Token → Type 0) → Begins A R [] → IsReader A (λ ts. Err (length ts)) R
failing R begins = record {
  step = λ ts. record { before = []; rest = ts; parts = refl; many = refl; again = λ us next. refl; begins = begins };
  begins = begins;
}

-- reads on behind a token
module _ {A : Type 0} (t : Token) (r : List Token → Read A) (R : List Token → A → List Token → Type 0) where
  pub behind_token : (us : List Token) (q : Read A) → IsStep A (λ us. r (t ∷ us)) (λ us. R (t ∷ us)) us q → IsStep A r R (t ∷ us) q
  behind_token us (Ok p) s = record { taken = t ∷ s.taken; parts = ap (λ (z : List Token). t ∷ z) s.parts; again = s.again; related = s.related }
  behind_token us (Err left) s = record {
    before = t ∷ s.before;
    rest = s.rest;
    parts = ap (λ (z : List Token). t ∷ z) s.parts;
    many = s.many;
    again = s.again;
    begins = s.begins;
  }

-- one reader behind another one
module _ {A B : Type 0} (f : List Token → Read A) (F : List Token → A → List Token → Type 0) (g : A → List Token → Read B)
    (R : List Token → B → List Token → Type 0) (reads : IsReader A f F)
    (goes : (x : A) → IsReader B (g x) (λ us y ws. (ts : List Token) → F ts x us → R ts y ws)) where
  abbrev both : List Token → Read B
  both ts = f ts >>= λ p. g p.0 p.1

  abbrev Behind : A → List Token → B → List Token → Type 0
  Behind x us y ws = (ts : List Token) → F ts x us → R ts y ws

  in_second : (ts : List Token) (p : A × List Token) → Takes A f F ts p → (q : Read B) → IsStep B (g p.0) (Behind p.0) p.1 q → IsStep B both R ts q
  in_second ts p s (Ok q) t = record {
    taken = s.taken ++ t.taken;
    parts = s.parts ∙ (ap (λ (z : List Token). s.taken ++ z) t.parts ∙ sym (append_assoc s.taken t.taken q.1));
    again = λ us next.
        ap both (append_assoc s.taken t.taken us)
        ∙ (ap (λ (z : Read A). z >>= λ p. g p.0 p.1) (s.again (t.taken ++ us) (follows_behind p.1 t.taken q.1 us t.parts next)) ∙ t.again us next);
    related = λ ws.
        subst (λ (z : List Token). R z q.0 ws) (sym (append_assoc s.taken t.taken ws)) (t.related ws (s.taken ++ (t.taken ++ ws)) (s.related (t.taken ++ ws)));
  }
  in_second ts p s (Err left) t = record {
    before = s.taken ++ t.before;
    rest = t.rest;
    parts = s.parts ∙ (ap (λ (z : List Token). s.taken ++ z) t.parts ∙ sym (append_assoc s.taken t.before t.rest));
    many = t.many;
    again = λ us next.
        ap both (append_assoc s.taken t.before us)
        ∙ (ap (λ (z : Read A). z >>= λ p. g p.0 p.1) (s.again (t.before ++ us) (follows_behind p.1 t.before t.rest us t.parts next)) ∙ t.again us next);
    begins = (
      t.begins.0,
      t.begins.1,
      λ ws.
          let more = t.begins.0 ++ ws in
          subst (λ (z : List Token). R z t.begins.1 ws) (sym (append_assoc s.taken t.before more))
          (t.begins.2 ws (s.taken ++ (t.before ++ more)) (s.related (t.before ++ more))),
    );
  }

  -- tokens that can be completed for the first reader can be for both
  both_begin : (ts : List Token) → Begins A F ts → Begins B R ts
  both_begin ts b =
      let more = (goes b.1).begins in (
        b.0 ++ more.0,
        more.1,
        λ ws.
            subst (λ (z : List Token). R (ts ++ z) more.1 ws) (sym (append_assoc b.0 more.0 ws))
            (more.2 ws (ts ++ (b.0 ++ (more.0 ++ ws))) (b.2 (more.0 ++ ws))),
      )

  in_first : (ts : List Token) (q : Read A) → IsStep A f F ts q → IsStep B both R ts (q >>= λ p. g p.0 p.1)
  in_first ts (Ok p) s = in_second ts p s (g p.0 p.1) ((goes p.0).step p.1)
  in_first ts (Err left) s = record {
    before = s.before;
    rest = s.rest;
    parts = s.parts;
    many = s.many;
    again = λ us next. ap (λ (z : Read A). z >>= λ p. g p.0 p.1) (s.again us next);
    begins = both_begin s.before s.begins;
  }

  pub bound : IsReader B (λ ts. f ts >>= λ p. g p.0 p.1) R
  bound = record { step = λ ts. in_first ts (f ts) (reads.step ts); begins = both_begin [] reads.begins }

-- whether one of some tokens comes next, seen by the first token alone
pub record IsNext (I O : Type 0) (first : I → Token) (some : I → List Token → O) (none : O) (next : List Token → O) : Type 0 where
  pub here : (i : I) (us : List Token) → next (first i ∷ us) ≡ some i us
  pub seen : (ts : List Token) → ((i : I) × (us : List Token) × (ts ≡ first i ∷ us)) ⊎ (next ts ≡ none)
  pub differs : (i : I) (us : List Token) → some i us ≡ none → ⊥

pub first_same : (t u : Token) (ts us : List Token) → t ∷ ts ≡ u ∷ us → t ≡ u
first_same t u ts us e = cc

module _ {I O : Type 0} (first : I → Token) (some : I → List Token → O) (none : O) (next : List Token → O) (n : IsNext I O first some none next) where
  pub none_again : (ts us : List Token) → next ts ≡ none → Follows ts us → next us ≡ none
  none_again [] us e follows = subst (λ (z : List Token). next z ≡ none) (sym follows) e
  none_again (t ∷ ts) us e follows = elim (n.seen us) [
    | inl h ↦
        let same : t ≡ first h.0 = first_same t (first h.0) follows.0 h.1 (sym follows.1 ∙ h.2) in
        absurd (n.differs h.0 ts (sym (n.here h.0 ts) ∙ (ap (λ (z : Token). next (z ∷ ts)) (sym same) ∙ e)))
    | inr other ↦ other
  ]

  module _ {A : Type 0} (F : List Token → O → Read A) (G : I → List Token → A → List Token → Type 0) (R : List Token → A → List Token → Type 0)
      (goes : (i : I) → IsReader A (λ us. F (first i ∷ us) (some i us)) (G i)) (stays : IsReader A (λ ts. F ts none) R)
      (joins : (i : I) (us : List Token) (y : A) (ws : List Token) → G i us y ws → R (first i ∷ us) y ws) where
    abbrev chosen : List Token → Read A
    chosen ts = F ts (next ts)

    in_some : (i : I) (us : List Token) (q : Read A) → IsStep A (λ us. F (first i ∷ us) (some i us)) (G i) us q → IsStep A chosen R (first i ∷ us) q
    in_some i us (Ok p) s = record {
      taken = first i ∷ s.taken;
      parts = ap (λ (z : List Token). first i ∷ z) s.parts;
      again = λ vs follows. ap (F (first i ∷ (s.taken ++ vs))) (n.here i (s.taken ++ vs)) ∙ s.again vs follows;
      related = λ ws. joins i (s.taken ++ ws) p.0 ws (s.related ws);
    }
    in_some i us (Err left) s = record {
      before = first i ∷ s.before;
      rest = s.rest;
      parts = ap (λ (z : List Token). first i ∷ z) s.parts;
      many = s.many;
      again = λ vs follows. ap (F (first i ∷ (s.before ++ vs))) (n.here i (s.before ++ vs)) ∙ s.again vs follows;
      begins = (s.begins.0, s.begins.1, λ ws. joins i (s.before ++ (s.begins.0 ++ ws)) s.begins.1 ws (s.begins.2 ws));
    }

    in_none : (ts : List Token) (q : Read A) → next ts ≡ none → IsStep A (λ ts. F ts none) R ts q → IsStep A chosen R ts q
    in_none ts (Ok p) e s = record {
      taken = s.taken;
      parts = s.parts;
      again = λ us follows.
          ap (F (s.taken ++ us)) (none_again ts (s.taken ++ us) e (follows_behind ts s.taken p.1 us s.parts follows)) ∙ s.again us follows;
      related = s.related;
    }
    in_none ts (Err left) e s = record {
      before = s.before;
      rest = s.rest;
      parts = s.parts;
      many = s.many;
      again = λ us follows.
          ap (F (s.before ++ us)) (none_again ts (s.before ++ us) e (follows_behind ts s.before s.rest us s.parts follows)) ∙ s.again us follows;
      begins = s.begins;
    }

    chosen_step : (ts : List Token) → IsStep A chosen R ts (chosen ts)
    chosen_step ts = elim (n.seen ts) [
      | inl h ↦
          subst (λ (z : List Token). IsStep A chosen R z (chosen z)) (sym h.2)
          (subst (λ (o : O). IsStep A chosen R (first h.0 ∷ h.1) (F (first h.0 ∷ h.1) o)) (sym (n.here h.0 h.1))
          (in_some h.0 h.1 (F (first h.0 ∷ h.1) (some h.0 h.1)) ((goes h.0).step h.1)))
      | inr other ↦ subst (λ (o : O). IsStep A chosen R ts (F ts o)) (sym other) (in_none ts (F ts none) other (stays.step ts))
    ]

    pub branched : IsReader A (λ ts. F ts (next ts)) R
    branched = record { step = chosen_step; begins = stays.begins }

-- a keyword, a sign, or the sign of an operator
abbrev pub IsOneNext : Token → (List Token → Option (List Token)) → Type 0
IsOneNext t next = IsNext (Unit {0}) (Option (List Token)) (λ (u : Unit {0}). t) (λ (u : Unit {0}) us. Some us) None next

some_differs : (us : List Token) → ◌≡◌ {A = Option (List Token)} (Some us) None → ⊥
some_differs us e = cc

operator_differs : (op : Comparison) (us : List Token) → ◌≡◌ {A = Option (Comparison × List Token)} (Some (op, us)) None → ⊥
operator_differs op us e = cc

one_next : (t : Token) (next : List Token → Option (List Token)) → ((us : List Token) → next (t ∷ us) ≡ Some us)
    → ((ts us : List Token) → next ts ≡ Some us → ts ≡ t ∷ us) → IsOneNext t next
one_next t next here found = record {
  here = λ u us. here us;
  seen = λ ts. go ts (next ts) refl;
  differs = λ u us. some_differs us;
}
  where
    go : (ts : List Token) (o : Option (List Token)) → next ts ≡ o → ((u : Unit {0}) × (us : List Token) × (ts ≡ t ∷ us)) ⊎ (next ts ≡ None)
    go ts (Some us) e = inl (tt, us, found ts us e)
    go ts None e = inr e

pub next_keyword : (k : Keyword) → IsOneNext (token.Keyword k) (after k)
next_keyword k = one_next (token.Keyword k) (after k) (after_here k) (after_next k)

pub next_sign : (s : Sign) → IsOneNext (token.Sign s) (behind s)
next_sign s = one_next (token.Sign s) (behind s) (behind_here s) (behind_next s)

pub next_operator : IsNext Comparison (Option (Comparison × List Token)) (λ op. token.Sign (sign_of op)) (λ op us. Some (op, us)) None operator_at
next_operator = record {
  here = operator_here;
  seen = λ ts. go ts (operator_at ts) refl;
  differs = operator_differs;
}
  where
    go : (ts : List Token) (o : Option (Comparison × List Token)) → operator_at ts ≡ o
        → ((op : Comparison) × (us : List Token) × (ts ≡ token.Sign (sign_of op) ∷ us)) ⊎ (operator_at ts ≡ None)
    go ts (Some p) e = inl (p.0, p.1, operator_next ts p e)
    go ts None e = inr e

-- readers by what comes next
module _ {A : Type 0} (t : Token) (next : List Token → Option (List Token)) (n : IsOneNext t next) (R : List Token → A → List Token → Type 0) where
  pub by_next : (F : List Token → Option (List Token) → Read A) → IsReader A (λ us. F (t ∷ us) (Some us)) (λ us. R (t ∷ us)) → IsReader A (λ ts. F ts None) R
      → IsReader A (λ ts. F ts (next ts)) R
  by_next F goes stays = branched (λ (u : Unit {0}). t) (λ (u : Unit {0}) us. Some us) None next n F (λ u us. R (t ∷ us)) R (λ u. goes) stays (λ u us y ws h. h)

  -- what has to come next, and a reader behind it
  pub then_next : (r : List Token → Read A) → IsReader A r (λ us. R (t ∷ us)) → IsReader A (λ ts. expect (next ts) ts >>= λ u. r u.1) R
  then_next r reads = by_next (λ ts o. expect o ts >>= λ u. r u.1) reads (failing R (t ∷ reads.begins.0, reads.begins.1, reads.begins.2))

-- Lists with separators, of what an item reads.
module _ {A : Type 0} (item : List Token → Read A) (t : Token) (next : List Token → Option (List Token)) (n : IsOneNext t next)
    (R : List Token → A → List Token → Type 0) (L : List Token → List A → List Token → Type 0) (reads : IsReader A item R)
    (last : (ts : List Token) (x : A) (us : List Token) → R ts x us → L ts (x ∷ []) us)
    (more : (ts : List Token) (x : A) (vs : List Token) (xs : List A) (us : List Token) → R ts x (t ∷ vs) → L vs xs us → L ts (x ∷ xs) us) where
  -- those that are found already, and those that the tokens are
  abbrev Found : List A → List Token → List A → List Token → Type 0
  Found found ts ys us = (xs : List A) × (ys ≡ found ++ xs) × L ts xs us

  found_begins : (found : List A) → Begins (List A) (Found found) []
  found_begins found =
      let b = reads.begins in
      (b.0, found ++ b.1 ∷ [], λ ws. (b.1 ∷ [], refl, last (b.0 ++ ws) b.1 ws (b.2 ws)))

  separated_found : (m : ℕ) (found : List A) → IsReader (List A) (separated item next m found) (Found found)
  unfolding separated
  separated_found zero found = failing (Found found) (found_begins found)
  separated_found (suc m) found =
      bound item R (λ x us. go_on (next us) (Ok (found ++ x ∷ [], us)) (λ vs. separated item next m (found ++ x ∷ []) vs)) (Found found) reads
      (λ x. by_next t next n (λ us ys ws. (ts : List Token) → R ts x us → Found found ts ys ws)
      (λ us o. go_on o (Ok (found ++ x ∷ [], us)) (λ vs. separated item next m (found ++ x ∷ []) vs))
      (weaker (separated item next m (found ++ x ∷ [])) (Found (found ++ x ∷ [])) (λ us ys ws. (ts : List Token) → R ts x (t ∷ us) → Found found ts ys ws)
      (separated_found m (found ++ x ∷ []))
      (λ us ys ws h ts r. (x ∷ h.0, h.1 ∙ append_assoc found (x ∷ []) h.0, more ts x us h.0 ws r h.2)))
      (giving (found ++ x ∷ []) (λ us ys ws. (ts : List Token) → R ts x us → Found found ts ys ws) (λ ws ts r. (x ∷ [], refl, last ts x ws r))))

  pub separated_reader : (m : ℕ) → IsReader (List A) (separated item next m []) L
  separated_reader m =
      weaker (separated item next m []) (Found []) L (separated_found m []) (λ ts ys us h. subst (λ (z : List A). L ts z us) (sym h.1) h.2)
