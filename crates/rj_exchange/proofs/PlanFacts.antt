-- A sender whose kept parcels are all planned.
use Rattle.std.proofs.Common.{◌≡◌, ℕ, zero, suc, ◌+◌, ◌<◌, ◌≤◌, ◌==◌, Bool, true, false, cond, ◌||◌, ◌&&◌, List, [], ◌∷◌, ◌++◌, map, length, drop, take, nat_lt, refl, ap, sym, ◌∙◌, arith, subst, inl}
use Rattle.std.proofs.Common.{inr, ◌⊎◌, is_some, IsSome, Some, None, Option, eq-eqb, slice_get, take-append-drop, length-drop, length-take, append-nil, append_assoc}
use Rattle.std.proofs.lemmas.Bool.Decides.{nat_tests}
use Rattle.rj_exchange.specs.declared.ledger.parcel.Body.{Body}
use Rattle.rj_exchange.specs.declared.ledger.parcel.Body.TheVariants.{Rows, Close}
use Rattle.rj_exchange.specs.declared.ledger.parcel.Reason.TheVariants.{BadLength, AfterClose, Repeat, BeyondClose, EarlyClose}
use Rattle.rj_exchange.specs.Standing.{Standing, IsSound, Orderly, is_close, rows_of}
use Rattle.rj_exchange.specs.Rules.{is_bad_length, holds, holds_close_below, holds_above, refusal}
use Rattle.rj_exchange.specs.Cutting.{bodies, blocks_within}
use Rattle.rj_exchange.specs.Kept.{held_at, rows_below, close_below, rows_at, is_close_at, Agrees}
use Rattle.rj_exchange.specs.Lawful.{rows_of_bodies}
use Rattle.rj_exchange.proofs.KeptFacts.{none_held_below}

-- blocks of lawful length, then one close
abbrev pub IsPlan : ℕ → List Body → Type 0
IsPlan block [] = ⊥
IsPlan block (Rows rows ∷ bs) = (is_bad_length block (Rows rows) ≡ false) × IsPlan block bs
IsPlan block (Close ∷ bs) = bs ≡ []

pub plan_length : (block : ℕ) (bs : List Body) (m : ℕ) (b : Body) → IsPlan block bs → slice_get bs m ≡ Some b → is_bad_length block b ≡ false
plan_length block [] m b p h = absurd p
plan_length block (Rows rows ∷ bs) zero b p h = let e : Rows rows ≡ b = cc in subst (λ (o : Body). is_bad_length block o ≡ false) e p.0
plan_length block (Rows rows ∷ bs) (suc m) b p h = plan_length block bs m b p.1 h
plan_length block (Close ∷ bs) zero b p h = let e : Close ≡ b = cc in subst (λ (o : Body). is_bad_length block o ≡ false) e refl
plan_length block (Close ∷ bs) (suc m) b p h = absurd (none_left bs m b p h)
  where
    none_left : (bs : List Body) (m : ℕ) (b : Body) → bs ≡ [] → slice_get bs m ≡ Some b → ⊥
    none_left [] m b e h = cc
    none_left (x ∷ bs) m b e h = cc

pub within_plan : (bs : List Body) (m : ℕ) (b : Body) → slice_get bs m ≡ Some b → m < length bs
within_plan [] m b h = cc
within_plan (x ∷ bs) zero b h = omega arith
within_plan (x ∷ bs) (suc m) b h = omega (arith, within_plan bs m b h)

pub close_is_last : (block : ℕ) (bs : List Body) (m : ℕ) (b : Body) → IsPlan block bs → slice_get bs m ≡ Some b → is_close b ≡ true → m + 1 ≡ length bs
close_is_last block [] m b p h c = absurd p
close_is_last block (Rows rows ∷ bs) zero b p h c = absurd (let e : Rows rows ≡ b = cc in let f : false ≡ is_close b = ap is_close e in cc)
close_is_last block (Rows rows ∷ bs) (suc m) b p h c = omega (arith, close_is_last block bs m b p.1 h c)
close_is_last block (Close ∷ []) zero b p h c = omega arith
close_is_last block (Close ∷ []) (suc m) b p h c = cc
close_is_last block (Close ∷ x ∷ bs) m b p h c = cc

pub last_is_close : (block : ℕ) (bs : List Body) (m : ℕ) → IsPlan block bs → m + 1 ≡ length bs → slice_get bs m ≡ Some Close
last_is_close block [] m p h = absurd p
last_is_close block (Rows rows ∷ []) zero p h = absurd p.1
last_is_close block (Rows rows ∷ x ∷ bs) zero p h = absurd (omega arith)
last_is_close block (Rows rows ∷ bs) (suc m) p h = last_is_close block bs m p.1 (omega arith)
last_is_close block (Close ∷ []) zero p h = refl
last_is_close block (Close ∷ []) (suc m) p h = absurd (omega arith)
last_is_close block (Close ∷ x ∷ bs) m p h = cc

-- the bodies of any rows are a plan
good_first : (block : ℕ) (row : ℕ) (rows : List ℕ) → 0 < block → is_bad_length block (Rows (take block (row ∷ rows))) ≡ false
good_first block row rows b = fits (length (take block (row ∷ rows))) block (simp length-take (omega arith)) (simp length-take (omega arith))
  where
    fits : (n block : ℕ) → 0 < n → n ≤ block → ((n == 0) || nat_lt block n) ≡ false
    fits n block h q = grind (arith, nat_tests)

plan_within : (most block : ℕ) (rows : List ℕ) → 0 < block → IsPlan block (map Rows (blocks_within most block rows) ++ Close ∷ [])
plan_within zero block rows b = refl
plan_within (suc most) block [] b = refl
plan_within (suc most) block (row ∷ rows) b = (good_first block row rows b, plan_within most block (drop block (row ∷ rows)) b)

pub bodies_are_plan : (block : ℕ) (rows : List ℕ) → 0 < block → IsPlan block (bodies block rows)
bodies_are_plan block rows b = plan_within (length rows) block rows b

rows_within : (most block : ℕ) (rows : List ℕ) → 0 < block → length rows ≤ most → rows_of_bodies (map Rows (blocks_within most block rows) ++ Close ∷ []) ≡ rows
rows_within zero block [] b h = refl
rows_within zero block (row ∷ rows) b h = absurd (omega arith)
rows_within (suc most) block [] b h = refl
rows_within (suc most) block (row ∷ rows) b h =
    ap (λ (t : List ℕ). take block (row ∷ rows) ++ t) (rows_within most block (drop block (row ∷ rows)) b (simp length-drop (omega arith)))
    ∙ take-append-drop block (row ∷ rows)

pub rows_of_plan : (block : ℕ) (rows : List ℕ) → 0 < block → rows_of_bodies (bodies block rows) ≡ rows
rows_of_plan block rows b = rows_within (length rows) block rows b (omega arith)

-- each held parcel stands in the plan
abbrev pub AreAllIn : List Body → List (ℕ × Body) → Type 0
AreAllIn bs [] = Unit {0}
AreAllIn bs (e ∷ es) = (slice_get bs e.0 ≡ Some e.1) × AreAllIn bs es

held_later : (e : ℕ × Body) (es : List (ℕ × Body)) (m : ℕ) (b : Body) → Orderly (e.0 + 1) es → held_at m es ≡ Some b → held_at m (e ∷ es) ≡ Some b
held_later e es m b o h = elim (before_or_after e.0 m) [
  | inl w ↦ absurd (let n : held_at m es ≡ None = none_held_below es (e.0 + 1) m o (omega arith) in cc)
  | inr w ↦ ap (λ (t : Bool). cond t (Some e.1) (held_at m es)) w ∙ h
]
  where
    before_or_after : (a m : ℕ) → (m ≤ a) ⊎ ((a == m) ≡ false)
    before_or_after a m = grind (arith, nat_tests)

pub all_held_in : (bs : List Body) (es : List (ℕ × Body)) (least : ℕ) → Orderly least es → ((m : ℕ) (b : Body) → held_at m es ≡ Some b → slice_get bs m ≡ Some b) → AreAllIn bs es
all_held_in bs [] least o h = tt
all_held_in bs (e ∷ es) least o h =
    (h e.0 e.1 (ap (λ (t : Bool). cond t (Some e.1) (held_at e.0 es)) (eq-eqb e.0 e.0 refl)), all_held_in bs es (e.0 + 1) o.2 (λ m b q. h m b (held_later e es m b o.2 q)))

no_close_below : (n k : ℕ) (c : Bool) (len : ℕ) → n < len → (c ≡ true → k + 1 ≡ len) → (c && nat_lt k n) ≡ false
no_close_below n k true len h q = let w : k + 1 ≡ len = q refl in not_less k n (omega arith)
  where
    not_less : (k n : ℕ) → n ≤ k → nat_lt k n ≡ false
    not_less k n h = grind (arith, nat_tests)
no_close_below n k false len h q = refl

pub both_false : (a b : Bool) → a ≡ false → b ≡ false → (a || b) ≡ false
both_false true b h q = cc
both_false false b h q = q

pub none_beyond : (block : ℕ) (bs : List Body) (es : List (ℕ × Body)) (n : ℕ) → IsPlan block bs → AreAllIn bs es → n < length bs → holds_close_below n es ≡ false
none_beyond block bs [] n p a h = refl
none_beyond block bs (e ∷ es) n p a h = both_false _ _ (no_close_below n e.0 (is_close e.1) (length bs) h (close_is_last block bs e.0 e.1 p a.0)) (none_beyond block bs es n p a.1 h)

pub none_past : (bs : List Body) (es : List (ℕ × Body)) (n : ℕ) → AreAllIn bs es → n + 1 ≡ length bs → holds_above n es ≡ false
none_past bs [] n a h = refl
none_past bs (e ∷ es) n a h = both_false _ _ (let w : e.0 < length bs = within_plan bs e.0 e.1 a.0 in not_less n e.0 (omega arith)) (none_past bs es n a.1 h)
  where
    not_less : (n k : ℕ) → k ≤ n → nat_lt n k ≡ false
    not_less n k h = grind (arith, nat_tests)

pub holds_is : (es : List (ℕ × Body)) (n : ℕ) → holds n es ≡ is_some (held_at n es)
holds_is [] n = refl
holds_is (e ∷ es) n = ap (λ (t : Bool). (e.0 == n) || t) (holds_is es n) ∙ by_test (e.0 == n) e.1 (held_at n es)
  where
    by_test : (t : Bool) (b : Body) (o : Option Body) → (t || is_some o) ≡ is_some (cond t (Some b) o)
    by_test true b o = refl
    by_test false b o = refl

of_tests : (bad closed known beyond early end seen : Bool) → bad ≡ false → closed ≡ end → known ≡ seen → beyond ≡ false → early ≡ false
    → cond bad (Some BadLength) (cond closed (Some AfterClose) (cond known (Some Repeat) (cond beyond (Some BeyondClose) (cond early (Some EarlyClose) None)))) ≡ cond end (Some AfterClose) (cond seen (Some Repeat) None)
of_tests bad closed known beyond early end seen a b c d e =
    ap (λ (t : Bool). cond t (Some BadLength) (cond closed (Some AfterClose) (cond known (Some Repeat) (cond beyond (Some BeyondClose) (cond early (Some EarlyClose) None))))) a
    ∙ ap (λ (t : Bool). cond t (Some AfterClose) (cond known (Some Repeat) (cond beyond (Some BeyondClose) (cond early (Some EarlyClose) None)))) b
    ∙ ap (λ (t : Bool). cond end (Some AfterClose) (cond t (Some Repeat) (cond beyond (Some BeyondClose) (cond early (Some EarlyClose) None)))) c
    ∙ ap (λ (t : Bool). cond end (Some AfterClose) (cond seen (Some Repeat) (cond t (Some BeyondClose) (cond early (Some EarlyClose) None)))) d
    ∙ ap (λ (t : Bool). cond end (Some AfterClose) (cond seen (Some Repeat) (cond t (Some EarlyClose) None))) e

rows_snoc : (bs : List Body) (k : ℕ) (b : Body) → slice_get bs k ≡ Some b → rows_of_bodies (take k bs) ++ rows_of b ≡ rows_of_bodies (take (suc k) bs)
rows_snoc [] k b h = cc
rows_snoc (x ∷ bs) zero b h = let e : b ≡ x = cc in ap rows_of e ∙ sym (append-nil (rows_of x))
rows_snoc (x ∷ bs) (suc k) b h = append_assoc (rows_of x) (rows_of_bodies (take k bs)) (rows_of b) ∙ ap (λ (t : List ℕ). rows_of x ++ t) (rows_snoc bs k b h)

-- every kept parcel of a sender is planned: bs is its plan, f says what its kept numbers carry, and s is its part
pub record IsInPlan (block : ℕ) (bs : List Body) (f : ℕ → Option Body) (s : Standing) : Type 0 where
  pub plan : IsPlan block bs
  pub planned : (m : ℕ) (b : Body) → f m ≡ Some b → slice_get bs m ≡ Some b
  pub sound : IsSound s
  pub agrees : Agrees f s

pub some_body : (o : Option Body) → IsSome o → (b : Body) × (o ≡ Some b)
some_body None h = cc
some_body (Some b) h = (b, refl)

module _ (block : ℕ) (bs : List Body) (f : ℕ → Option Body) (s : Standing) (h : IsInPlan block bs f s) where
  pub below_in_plan : (m : ℕ) → m < s.next → (b : Body) × (f m ≡ Some b) × (slice_get bs m ≡ Some b)
  below_in_plan m q = let o = some_body (f m) (h.agrees.below m q) in (o.0, o.1, h.planned m o.0 o.1)

  next_by : (k : ℕ) → k ≡ s.next → k ≤ length bs
  next_by zero e = omega arith
  next_by (suc k) e = let o = below_in_plan k (omega arith) in within_plan bs k o.0 o.2

  pub next_within : s.next ≤ length bs
  next_within = next_by s.next refl

  close_by : (k : ℕ) → k < length bs → k ≤ s.next → close_below f k ≡ false
  close_by zero q r = refl
  close_by (suc k) q r = let o = below_in_plan k (omega arith) in both_false _ _ (ap is_close_at o.1 ∙ not_last o.0 o.2) (close_by k (omega arith) (omega arith))
    where
      by_truth : (t : Bool) → (t ≡ true → ⊥) → t ≡ false
      by_truth true n = absurd (n refl)
      by_truth false n = refl

      not_last : (b : Body) → slice_get bs k ≡ Some b → is_close b ≡ false
      not_last b g = by_truth (is_close b) (λ c. let w : k + 1 ≡ length bs = close_is_last block bs k b h.plan g c in omega arith)

  closed_at_end : (k : ℕ) → k ≡ length bs → k ≤ s.next → close_below f k ≡ true
  closed_at_end zero q r = absurd (no_plan bs h.plan q)
    where
      no_plan : (bs : List Body) → IsPlan block bs → 0 ≡ length bs → ⊥
      no_plan [] p q = p
      no_plan (b ∷ bs) p q = omega arith
  closed_at_end (suc k) q r = let o = below_in_plan k (omega arith) in
      let w : Some o.0 ≡ Some Close = sym o.2 ∙ last_is_close block bs k h.plan (omega arith) in
      ap (λ (t : Bool). t || close_below f k) (ap is_close_at (o.1 ∙ w))

  at_end_or_not : (s.next ≡ length bs) ⊎ (s.next < length bs)
  at_end_or_not = let w = next_within in cases s.next (length bs) w
    where
      cases : (a b : ℕ) → a ≤ b → (a ≡ b) ⊎ (a < b)
      cases a b w = grind arith

  pub closed_is : s.closed ≡ (s.next == length bs)
  closed_is = elim at_end_or_not [
    | inl e ↦ h.agrees.closed ∙ closed_at_end s.next e (omega arith) ∙ sym (eq-eqb s.next (length bs) e)
    | inr l ↦ h.agrees.closed ∙ close_by s.next l (omega arith) ∙ sym (apart s.next (length bs) l)
  ]
    where
      apart : (a b : ℕ) → a < b → (a == b) ≡ false
      apart a b l = grind (arith, nat_tests)

  -- a number is known where it is below the next one or held
  pub known_is : (n : ℕ) → (nat_lt n s.next || holds n s.held) ≡ is_some (f n)
  known_is n = elim (cases n s.next) [
    | inl l ↦ ap (λ (t : Bool). t || holds n s.held) (l.1) ∙ sym (h.agrees.below n l.0)
    | inr l ↦ ap (λ (t : Bool). t || holds n s.held) (l.1) ∙ holds_is s.held n ∙ ap is_some (sym (h.agrees.held n l.0))
  ]
    where
      cases : (n k : ℕ) → ((n < k) × (nat_lt n k ≡ true)) ⊎ ((k ≤ n) × (nat_lt n k ≡ false))
      cases n k = grind (arith, nat_tests)

  held_in : AreAllIn bs s.held
  held_in = all_held_in bs s.held (s.next + 1) h.sound.orderly (λ m b q. elim (cases m s.next) [
    | inl l ↦ h.planned m b (h.agrees.held m l ∙ q)
    | inr l ↦ absurd (let n : held_at m s.held ≡ None = none_held_below s.held (s.next + 1) m h.sound.orderly (omega arith) in cc)
  ])
    where
      cases : (m k : ℕ) → (k ≤ m) ⊎ (m < k)
      cases m k = grind arith

  no_early : (n : ℕ) (b : Body) → slice_get bs n ≡ Some b → (is_close b && holds_above n s.held) ≡ false
  no_early n b g = by_truth (is_close b) (λ c. none_past bs s.held n held_in (close_is_last block bs n b h.plan g c))
    where
      by_truth : (t : Bool) → (t ≡ true → holds_above n s.held ≡ false) → (t && holds_above n s.held) ≡ false
      by_truth true q = q refl
      by_truth false q = refl

  -- of the rules from `bad length` to `early close` a planned parcel meets `after close` and `repeat` alone
  pub refusal_is : (n : ℕ) (b : Body) → slice_get bs n ≡ Some b → refusal block s n b ≡ cond (s.next == length bs) (Some AfterClose) (cond (is_some (f n)) (Some Repeat) None)
  refusal_is n b g = of_tests (is_bad_length block b) s.closed (nat_lt n s.next || holds n s.held) (holds_close_below n s.held) (is_close b && holds_above n s.held) (s.next == length bs)
      (is_some (f n)) (plan_length block bs n b h.plan g) closed_is (known_is n) (none_beyond block bs s.held n h.plan held_in (within_plan bs n b g)) (no_early n b g)

  rows_by : (k : ℕ) → k ≤ s.next → rows_below f k ≡ rows_of_bodies (take k bs)
  rows_by zero q = refl
  rows_by (suc k) q = let o = below_in_plan k (omega arith) in
      ap (λ (t : List ℕ). t ++ rows_at (f k)) (rows_by k (omega arith)) ∙ ap (λ (t : Option Body). rows_of_bodies (take k bs) ++ rows_at t) o.1 ∙ rows_snoc bs k o.0 o.2

  pub rows_are : s.rows ≡ rows_of_bodies (take s.next bs)
  rows_are = h.agrees.rows ∙ rows_by s.next (omega arith)
