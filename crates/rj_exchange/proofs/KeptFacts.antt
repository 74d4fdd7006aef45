-- Each offer keeps a sender's part in agreement with the kept parcels.
use Rattle.std.proofs.Common.{◌≡◌, ℕ, zero, suc, ◌+◌, ◌<◌, ◌≤◌, ◌==◌, Bool, true, false, cond, ◌||◌, ◌&&◌, List, [], ◌∷◌, ◌++◌, length, drop, refl, ap, sym, ◌∙◌, arith, subst, inl, inr, ◌⊎◌}
use Rattle.std.proofs.Common.{append_assoc, append-nil, add-zero, add-one, IsSome, is_some, Some, None, Option, eq-eqb}
use Rattle.std.proofs.lemmas.Bool.{eqb-true}
use Rattle.std.specs.Ordering.{nat_cmp, match_ordering}
use Rattle.std.specs.declared.cmp.Ordering.{Ordering}
use Rattle.std.specs.declared.cmp.Ordering.TheVariants.{Equal}
use Rattle.std.specs.BTreeMap.{insert_entry}
use Rattle.std.proofs.lemmas.Bool.Decides.{nat_tests}
use Rattle.rj_exchange.specs.declared.ledger.parcel.Body.{Body}
use Rattle.rj_exchange.specs.Standing.{Standing, is_close, rows_of, rows_of_all, any_close, following, Orderly, delivered_from, with_held}
use Rattle.rj_exchange.specs.Kept.{rows_at, is_close_at, rows_below, close_below, held_at, Agrees}
use Rattle.rj_exchange.proofs.Soundness.{insert_before, insert_behind}

some_is : (b : Body) → IsSome (Some b)
some_is b = refl

-- the functions need to agree below n alone
pub rows_below_same : (f g : ℕ → Option Body) (n : ℕ) → ((m : ℕ) → m < n → f m ≡ g m) → rows_below f n ≡ rows_below g n
rows_below_same f g zero h = refl
rows_below_same f g (suc n) h = ap (λ (t : List ℕ). t ++ rows_at (f n)) (rows_below_same f g n (λ m q. h m (omega arith))) ∙ ap (λ (o : Option Body). rows_below g n ++ rows_at o) (h n (omega arith))

pub close_below_same : (f g : ℕ → Option Body) (n : ℕ) → ((m : ℕ) → m < n → f m ≡ g m) → close_below f n ≡ close_below g n
close_below_same f g zero h = refl
close_below_same f g (suc n) h = ap (λ (t : Bool). is_close_at (f n) || t) (close_below_same f g n (λ m q. h m (omega arith))) ∙ ap (λ (o : Option Body). is_close_at o || close_below g n) (h n (omega arith))

pub Agrees-same : (f g : ℕ → Option Body) (s : Standing) → ((m : ℕ) → f m ≡ g m) → Agrees f s → Agrees g s
Agrees-same f g s h a = record {
  below = λ m q. subst IsSome (h m) (a.below m q);
  next = sym (h s.next) ∙ a.next;
  rows = a.rows ∙ rows_below_same f g s.next (λ m q. h m);
  closed = a.closed ∙ close_below_same f g s.next (λ m q. h m);
  held = λ m q. sym (h m) ∙ a.held m q;
}

-- nothing is held below `least`
pub none_held_below : (es : List (ℕ × Body)) (least m : ℕ) → Orderly least es → m < least → held_at m es ≡ None
none_held_below [] least m o h = refl
none_held_below (e ∷ es) least m o h = ap (λ (t : Bool). cond t (Some e.1) (held_at m es)) (apart e.0 m (omega arith)) ∙ none_held_below es (e.0 + 1) m o.2 (omega arith)
  where
    apart : (a b : ℕ) → b < a → (a == b) ≡ false
    apart a b h = grind (arith, nat_tests)

pub number_apart : (a b : ℕ) → b < a → (a == b) ≡ false
number_apart a b h = grind (arith, nat_tests)

pub number_apart_above : (a b : ℕ) → a < b → (a == b) ≡ false
number_apart_above a b h = grind (arith, nat_tests)

standing_is : (n k : ℕ) (c d : Bool) (r q : List ℕ) (h g : List (ℕ × Body)) → n ≡ k → c ≡ d → r ≡ q → h ≡ g → ◌≡◌ {A = Standing} (record { next = n; closed = c; rows = r; held = h }) (record { next = k; closed = d; rows = q; held = g })
standing_is n k c d r q h g e1 e2 e3 e4 = cc

-- nothing more follows
run_stops : (es : List (ℕ × Body)) (f : ℕ → Option Body) (n : ℕ) (closed : Bool) (rows : List ℕ) → Orderly (n + 1) es → ((m : ℕ) → m < n → IsSome (f m)) → ((m : ℕ) → n ≤ m → f m ≡ held_at m es)
    → rows ≡ rows_below f n → closed ≡ close_below f n → Agrees f (record { next = n; closed = closed; rows = rows; held = es })
run_stops es f n closed rows o below held r c = record {
  below = below;
  next = held n (omega arith) ∙ none_held_below es (n + 1) n o (omega arith);
  rows = r;
  closed = c;
  held = held;
}

or_false : (c : Bool) → c ≡ (c || false)
or_false true = refl
or_false false = refl

or_moves : (a b c : Bool) → ((b || a) || c) ≡ (a || (b || c))
or_moves true true c = refl
or_moves true false c = refl
or_moves false true c = refl
or_moves false false c = refl

-- after the parcel of number n, by whether the first held one is it
run_test : (t : Bool) (e : ℕ × Body) (run es : List (ℕ × Body)) (f : ℕ → Option Body) (n : ℕ) (closed : Bool) (rows : List ℕ) → (e.0 == n) ≡ t → Orderly n (e ∷ es)
    → ((e.0 == n) ≡ true → Agrees f (record { next = (n + 1) + length run; closed = (is_close e.1 || closed) || any_close run; rows = (rows ++ rows_of e.1) ++ rows_of_all run; held = drop (length run) es }))
    → (Orderly (n + 1) (e ∷ es) → Agrees f (record { next = n; closed = closed; rows = rows; held = e ∷ es }))
    → Agrees f (record { next = n + length (cond t (e ∷ run) []); closed = closed || any_close (cond t (e ∷ run) []); rows = rows ++ rows_of_all (cond t (e ∷ run) []); held = drop (length (cond t (e ∷ run) [])) (e ∷ es) })
run_test true e run es f n closed rows h o goes stops = subst (Agrees f) (standing_is _ _ _ _ _ _ _ _ (omega arith) (or_moves closed (is_close e.1) (any_close run)) (append_assoc rows (rows_of e.1) (rows_of_all run)) refl) (goes h)
run_test false e run es f n closed rows h o goes stops = subst (Agrees f) (standing_is _ _ _ _ _ _ _ _ (sym (add-zero n)) (or_false closed) (sym (append-nil rows)) refl) (stops (past e.0 n h o.0, o.1, o.2))
  where
    past : (a b : ℕ) → (a == b) ≡ false → b ≤ a → b + 1 ≤ a
    past a b h l = grind (arith, nat_tests)

below_or_at : (m n : ℕ) → m < n + 1 → (m < n) ⊎ (m ≡ n)
below_or_at m n h = grind arith

-- where the parcels numbered below n are delivered and those from n on stand in es, what follows from n on can be delivered too
pub run_agrees : (es : List (ℕ × Body)) (f : ℕ → Option Body) (n : ℕ) (closed : Bool) (rows : List ℕ) → Orderly n es → ((m : ℕ) → m < n → IsSome (f m)) → ((m : ℕ) → n ≤ m → f m ≡ held_at m es)
    → rows ≡ rows_below f n → closed ≡ close_below f n
    → Agrees f (record { next = n + length (following n es); closed = closed || any_close (following n es); rows = rows ++ rows_of_all (following n es); held = drop (length (following n es)) es })
run_agrees [] f n closed rows o below held r c = subst (Agrees f) (standing_is _ _ _ _ _ _ _ _ (sym (add-zero n)) (or_false closed) (sym (append-nil rows)) refl) (run_stops [] f n closed rows tt below held r c)
run_agrees (e ∷ es) f n closed rows o below held r c =
    let here : (e.0 == n) ≡ true → f n ≡ Some e.1 = λ h. held n (omega arith) ∙ ap (λ (t : Bool). cond t (Some e.1) (held_at n es)) h in
    run_test (e.0 == n) e (following (n + 1) es) es f n closed rows refl o
    (λ h. run_agrees es f (n + 1) (is_close e.1 || closed) (rows ++ rows_of e.1)
    (subst (λ (k : ℕ). Orderly (k + 1) es) (eqb-true e.0 n h) o.2)
    (λ m q. elim (below_or_at m n q) [ inl w ↦ below m w | inr w ↦ subst (λ (k : ℕ). IsSome (f k)) (sym w) (subst IsSome (sym (here h)) (some_is e.1)) ])
    (λ m q. held m (omega arith) ∙ ap (λ (t : Bool). cond t (Some e.1) (held_at m es)) (number_apart_above e.0 m (let w : e.0 ≡ n = eqb-true e.0 n h in omega arith)))
    (rw add-one (ap (λ (t : List ℕ). t ++ rows_of e.1) r ∙ ap (λ (b : Option Body). rows_below f n ++ rows_at b) (sym (here h))))
    (rw add-one (ap (λ (t : Bool). is_close e.1 || t) c ∙ ap (λ (b : Option Body). is_close_at b || close_below f n) (sym (here h)))))
    (λ w. run_stops (e ∷ es) f n closed rows w below held r c)

-- a number is added to what is kept
abbrev pub with_number : (ℕ → Option Body) → ℕ → Body → ℕ → Option Body
with_number f n b m = cond (n == m) (Some b) (f m)

equal_is : (n k : ℕ) → n ≡ k → nat_cmp n k ≡ Equal
equal_is n k h = grind (arith, nat_tests)

three : (n k : ℕ) → (n < k) ⊎ ((n ≡ k) ⊎ (k < n))
three n k = grind arith

swap_tests : (p q : Bool) (x y : Body) (o : Option Body) → (p && q) ≡ false → cond p (Some x) (cond q (Some y) o) ≡ cond q (Some y) (cond p (Some x) o)
swap_tests true true x y o h = cc
swap_tests true false x y o h = refl
swap_tests false true x y o h = refl
swap_tests false false x y o h = refl

once_tested : (p : Bool) (x y : Body) (o : Option Body) → cond p (Some x) o ≡ cond p (Some x) (cond p (Some y) o)
once_tested true x y o = refl
once_tested false x y o = refl

not_both : (a b m : ℕ) → a < b → ((a == m) && (b == m)) ≡ false
not_both a b m h = grind (arith, nat_tests)

pub held_at-insert : (es : List (ℕ × Body)) (n m : ℕ) (b : Body) → held_at m (insert_entry nat_cmp es n b) ≡ cond (n == m) (Some b) (held_at m es)
held_at-insert [] n m b = refl
held_at-insert (e ∷ es) n m b = elim (three n e.0) [
  | inl h ↦ ap (held_at m) (insert_before n b e es h)
  | inr w ↦ elim w [
    | inl h ↦ ap (λ (o : Ordering). held_at m (match_ordering o ((n, b) ∷ e ∷ es) ((e.0, b) ∷ es) (e ∷ insert_entry nat_cmp es n b))) (equal_is n e.0 h) ∙ once_tested (e.0 == m) b e.1 (held_at m es)
        ∙ ap (λ (k : ℕ). cond (k == m) (Some b) (cond (e.0 == m) (Some e.1) (held_at m es))) (sym h)
    | inr h ↦ ap (held_at m) (insert_behind n b e es h) ∙ ap (λ (o : Option Body). cond (e.0 == m) (Some e.1) o) (held_at-insert es n m b) ∙ swap_tests (e.0 == m) (n == m) e.1 b (held_at m es) (not_both e.0 n m h)
  ]
]

number_is : (f : ℕ → Option Body) (n : ℕ) (b : Body) → with_number f n b n ≡ Some b
number_is f n b = ap (λ (t : Bool). cond t (Some b) (f n)) (eq-eqb n n refl)

number_is_not : (f : ℕ → Option Body) (n m : ℕ) (b : Body) → (n == m) ≡ false → f m ≡ with_number f n b m
number_is_not f n m b h = ap (λ (t : Bool). cond t (Some b) (f m)) (sym h)

-- a parcel that is held
pub held_agrees : (f : ℕ → Option Body) (s : Standing) (n : ℕ) (b : Body) → Agrees f s → s.next < n → Agrees (with_number f n b) (with_held s n b)
held_agrees f s n b a later = record {
  below = λ m q. subst IsSome (number_is_not f n m b (number_apart n m (omega arith))) (a.below m q);
  next = sym (number_is_not f n s.next b (number_apart n s.next later)) ∙ a.next;
  rows = a.rows ∙ rows_below_same f (with_number f n b) s.next (λ m q. number_is_not f n m b (number_apart n m (omega arith)));
  closed = a.closed ∙ close_below_same f (with_number f n b) s.next (λ m q. number_is_not f n m b (number_apart n m (omega arith)));
  held = λ m q. ap (λ (o : Option Body). cond (n == m) (Some b) o) (a.held m q) ∙ sym (held_at-insert s.held n m b);
}

-- a parcel that is accepted, with what follows it
pub delivered_agrees : (f : ℕ → Option Body) (s : Standing) (n : ℕ) (b : Body) → Agrees f s → n ≡ s.next → s.closed ≡ false → Orderly (n + 1) s.held → Agrees (with_number f n b) (delivered_from s n b)
delivered_agrees f s n b a next unclosed o =
    let g : ℕ → Option Body = with_number f n b in
    let below_same : (m : ℕ) → m < n → f m ≡ g m = λ m q. number_is_not f n m b (number_apart n m q) in
    subst (Agrees g) (standing_is _ _ _ _ _ _ _ _ refl refl (append_assoc s.rows (rows_of b) (rows_of_all (following (n + 1) s.held))) refl)
    (run_agrees s.held g (n + 1) (is_close b) (s.rows ++ rows_of b) o
    (λ m q. elim (below_or_at m n q) [ inl w ↦ subst IsSome (below_same m w) (a.below m (omega arith)) | inr w ↦ subst (λ (k : ℕ). IsSome (g k)) (sym w) (subst IsSome (sym (number_is f n b)) (some_is b)) ])
    (λ m q. sym (number_is_not f n m b (number_apart_above n m (omega arith))) ∙ a.held m (omega arith))
    (rw add-one (ap (λ (t : List ℕ). t ++ rows_of b) (a.rows ∙ ap (rows_below f) (sym next) ∙ rows_below_same f g n below_same) ∙ ap (λ (o : Option Body). rows_below g n ++ rows_at o) (sym (number_is f n b))))
    (rw add-one (or_false (is_close b) ∙ ap (λ (t : Bool). is_close b || t) (sym unclosed ∙ a.closed ∙ ap (close_below f) (sym next) ∙ close_below_same f g n below_same)
    ∙ ap (λ (o : Option Body). is_close_at o || close_below g n) (sym (number_is f n b)))))

pub some_either : (p : Bool) (b : Body) (o : Option Body) → is_some (cond p (Some b) o) ≡ (p || is_some o)
some_either true b o = refl
some_either false b o = refl

pub last_or_below : (m n : ℕ) → m < suc n → (m < n) ⊎ (m ≡ n)
last_or_below m n h = grind arith
