-- How many turns a reader may take makes no difference, where they are enough.
use Rattle.std.proofs.Common.{◌≡◌, ◌∙◌, ◌+◌, ◌≤◌, ◌++◌, ◌∷◌, [], ℕ, zero, suc, List, length, length-append, Option, Some, None, Ok, Err, refl, sym, ap, subst, arith, le_refl}
use Rattle.rj_condition.specs.declared.token.Token.{Token}
use Rattle.rj_condition.specs.Internal.Reading.{Read, ◌>>=◌, go_on, separated}
use Rattle.rj_condition.proofs.Stopping.{Follows, IsReader, IsStep, Stops, Takes, first_same}

-- a reader leaves no more tokens than there are
pub leaves : {A : Type 0} (r : List Token → Read A) (R : List Token → A → List Token → Type 0) → IsReader A r R → (ts : List Token) (p : A × List Token)
    → r ts ≡ Ok p → length p.1 ≤ length ts
leaves {A} r R reads ts p e =
    let s : Takes A r R ts p = subst (λ (q : Read A). IsStep A r R ts q) e (reads.step ts) in
    subst (λ (z : List Token). length p.1 ≤ length z) (sym s.parts) (omega (arith, length-append s.taken p.1))

rest_same : (t u : Token) (ts us : List Token) → t ∷ ts ≡ u ∷ us → ts ≡ us
rest_same t u ts us e = cc

-- tokens are parted in one way before so many of them
split_same : (a b c d : List Token) → a ++ b ≡ c ++ d → length b ≡ length d → (a ≡ c) × (b ≡ d)
split_same [] b [] d e l = (refl, e)
split_same [] b (t ∷ c) d e l = absurd (omega (arith, ap length e, length-append c d, l))
split_same (t ∷ a) b [] d e l = absurd (omega (arith, ap length e, length-append a b, l))
split_same (t ∷ a) b (u ∷ c) d e l =
    let s = split_same a b c d (rest_same t u (a ++ b) (c ++ d) e) l in
    (ap (λ (z : List Token). t ∷ z) s.0 ∙ ap (λ (z : Token). z ∷ c) (first_same t u (a ++ b) (c ++ d) e), s.1)

-- A reader whose turns are as many as its tokens, or more, is one.
module _ {A : Type 0} (r : List Token → Read A) (w : ℕ → List Token → Read A) (R : List Token → A → List Token → Type 0)
    (reads : (n : ℕ) → IsReader A (w n) R) (same : (n : ℕ) (ts : List Token) → length ts ≤ n → r ts ≡ w n ts) where
  fueled_step : (ts : List Token) (q : Read A) → r ts ≡ q → IsStep A (w (length ts)) R ts q → IsStep A r R ts q
  fueled_step ts (Ok p) e s = record {
    taken = s.taken;
    parts = s.parts;
    again = λ us follows.
        let m = length ts + length (s.taken ++ us) in
        let t : Takes A (w m) R ts p = subst (λ (q : Read A). IsStep A (w m) R ts q) (sym (same m ts (omega arith)) ∙ e) ((reads m).step ts) in
        let alike = split_same t.taken p.1 s.taken p.1 (sym t.parts ∙ s.parts) refl in
        same m (s.taken ++ us) (omega arith) ∙ (ap (λ (z : List Token). w m (z ++ us)) (sym alike.0) ∙ t.again us follows);
    related = s.related;
  }
  fueled_step ts (Err left) e s = record {
    before = s.before;
    rest = s.rest;
    parts = s.parts;
    many = s.many;
    again = λ us follows.
        let m = length ts + length (s.before ++ us) in
        let t : Stops A (w m) R ts left = subst (λ (q : Read A). IsStep A (w m) R ts q) (sym (same m ts (omega arith)) ∙ e) ((reads m).step ts) in
        let alike = split_same t.before t.rest s.before s.rest (sym t.parts ∙ s.parts) (t.many ∙ sym s.many) in
        same m (s.before ++ us) (omega arith)
        ∙ (ap (λ (z : List Token). w m (z ++ us)) (sym alike.0) ∙ t.again us (subst (λ (z : List Token). Follows z us) (sym alike.1) follows));
    begins = s.begins;
  }

  pub fueled : IsReader A r R
  fueled = record {
    step = λ ts.
        fueled_step ts (r ts) refl
        (subst (λ (q : Read A). IsStep A (w (length ts)) R ts q) (sym (same (length ts) ts (le_refl (length ts)))) ((reads (length ts)).step ts));
    begins = (reads 0).begins;
  }

-- Lists with separators, of items that are read alike from so many tokens.
module _ {A : Type 0} (t : Token) (next : List Token → Option (List Token)) (is_next : (ts us : List Token) → next ts ≡ Some us → ts ≡ t ∷ us)
    (item other : List Token → Read A) (R : List Token → A → List Token → Type 0) (reads : IsReader A other R) (nothing : other [] ≡ Err 0)
    (k : ℕ) (same : (ts : List Token) → length ts ≤ k → item ts ≡ other ts) where
  turn_same : (n m : ℕ) (found : List A) (x : A × List Token) (o : Option (List Token))
      → ((us : List Token) → o ≡ Some us → separated item next n (found ++ x.0 ∷ []) us ≡ separated other next m (found ++ x.0 ∷ []) us)
      → go_on o (Ok (found ++ x.0 ∷ [], x.1)) (λ us. separated item next n (found ++ x.0 ∷ []) us)
      ≡ go_on o (Ok (found ++ x.0 ∷ [], x.1)) (λ us. separated other next m (found ++ x.0 ∷ []) us)
  turn_same n m found x None h = refl
  turn_same n m found x (Some us) h = h us refl

  read_same : (n m : ℕ) (found : List A) (ts : List Token) (r : Read A) → other ts ≡ r
      → ((x : A × List Token) (us : List Token) → other ts ≡ Ok x → next x.1 ≡ Some us
      → separated item next n (found ++ x.0 ∷ []) us ≡ separated other next m (found ++ x.0 ∷ []) us)
      → (r >>= λ x. go_on (next x.1) (Ok (found ++ x.0 ∷ [], x.1)) (λ us. separated item next n (found ++ x.0 ∷ []) us))
      ≡ (r >>= λ x. go_on (next x.1) (Ok (found ++ x.0 ∷ [], x.1)) (λ us. separated other next m (found ++ x.0 ∷ []) us))
  read_same n m found ts (Err left) e h = refl
  read_same n m found ts (Ok x) e h = turn_same n m found x (next x.1) (λ us f. h x us e f)

  pub enough : (n m : ℕ) (found : List A) (ts : List Token) → length ts ≤ n → length ts ≤ m → length ts ≤ k
      → separated item next n found ts ≡ separated other next m found ts
  unfolding separated
  enough zero zero found ts p q l = refl
  enough zero (suc m) found [] p q l =
      sym (ap (λ (r : Read A). r >>= λ x. go_on (next x.1) (Ok (found ++ x.0 ∷ [], x.1)) (λ us. separated other next m (found ++ x.0 ∷ []) us)) nothing)
  enough zero (suc m) found (u ∷ ts) p q l = absurd (omega arith)
  enough (suc n) zero found [] p q l =
      ap (λ (r : Read A). r >>= λ x. go_on (next x.1) (Ok (found ++ x.0 ∷ [], x.1)) (λ us. separated item next n (found ++ x.0 ∷ []) us)) (same [] l ∙ nothing)
  enough (suc n) zero found (u ∷ ts) p q l = absurd (omega arith)
  enough (suc n) (suc m) found ts p q l =
      ap (λ (r : Read A). r >>= λ x. go_on (next x.1) (Ok (found ++ x.0 ∷ [], x.1)) (λ us. separated item next n (found ++ x.0 ∷ []) us)) (same ts l)
      ∙ read_same n m found ts (other ts) refl (λ x us e f.
      let fewer = leaves other R reads ts x e in
      let gone = ap length (is_next x.1 us f) in
      enough n m (found ++ x.0 ∷ []) us (omega (arith, fewer, gone)) (omega (arith, fewer, gone)) (omega (arith, fewer, gone)))

-- nothing has no list
pub separated_nothing : {A : Type 0} (item : List Token → Read A) (next : List Token → Option (List Token)) → item [] ≡ Err 0 → (m : ℕ)
    → separated item next m [] [] ≡ Err 0
unfolding separated
separated_nothing {A} item next nothing zero = refl
separated_nothing {A} item next nothing (suc m) =
    ap (λ (r : Read A). r >>= λ x. go_on (next x.1) (Ok ([] ++ x.0 ∷ [], x.1)) (λ us. separated item next m ([] ++ x.0 ∷ []) us)) nothing
