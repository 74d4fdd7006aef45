-- Accepting and holding keep what is true of each sender's part.
use Rattle.std.proofs.Common.{◌≡◌, ℕ, suc, ◌+◌, ◌<◌, ◌≤◌, ◌==◌, Bool, true, false, cond, ◌||◌, ◌&&◌, List, [], ◌∷◌, ◌++◌, length, drop, nat_lt, refl, ap, sym, arith, subst, inl, inr, ◌⊎◌}
use Rattle.std.proofs.Common.{length-append, OnOk, OnErr, Result, Ok, Err, Some, None}
use Rattle.std.proofs.lemmas.Bool.{eqb-true, ltb-false, or_parts}
use Rattle.std.specs.Ordering.{nat_cmp, match_ordering}
use Rattle.std.specs.declared.cmp.Ordering.{Ordering}
use Rattle.std.specs.declared.cmp.Ordering.TheVariants.{Less, Greater}
use Rattle.std.specs.BTreeMap.{insert_entry}
use Rattle.std.proofs.lemmas.Bool.Decides.{nat_tests}
use Rattle.rj_exchange.specs.declared.ledger.parcel.Body.{Body}
use Rattle.rj_exchange.specs.declared.ledger.parcel.Body.TheVariants.{Rows, Close}
use Rattle.rj_exchange.specs.Standing.{Standing, is_close, rows_of, rows_of_all, any_close, following, IsHoldable, Orderly, IsSound, delivered_from, with_held}
use Rattle.rj_exchange.specs.Rules.{is_bad_length, holds, holds_above, holds_close_below, refusal}
use Rattle.rj_exchange.specs.declared.ledger.parcel.Reason.TheVariants.{BadLength, AfterClose, Repeat, BeyondClose, EarlyClose}

less_is : (n k : ℕ) → n < k → nat_cmp n k ≡ Less
less_is n k h = grind (arith, nat_tests)

greater_is : (n k : ℕ) → k < n → nat_cmp n k ≡ Greater
greater_is n k h = grind (arith, nat_tests)

pub insert_before : (n : ℕ) (b : Body) (e : ℕ × Body) (es : List (ℕ × Body)) → n < e.0 → insert_entry nat_cmp (e ∷ es) n b ≡ (n, b) ∷ e ∷ es
insert_before n b e es h = ap (λ (o : Ordering). match_ordering o ((n, b) ∷ e ∷ es) ((e.0, b) ∷ es) (e ∷ insert_entry nat_cmp es n b)) (less_is n e.0 h)

pub insert_behind : (n : ℕ) (b : Body) (e : ℕ × Body) (es : List (ℕ × Body)) → e.0 < n → insert_entry nat_cmp (e ∷ es) n b ≡ e ∷ insert_entry nat_cmp es n b
insert_behind n b e es h = ap (λ (o : Ordering). match_ordering o ((n, b) ∷ e ∷ es) ((e.0, b) ∷ es) (e ∷ insert_entry nat_cmp es n b)) (greater_is n e.0 h)

holdable_before : (n : ℕ) (b : Body) (e : ℕ × Body) (es : List (ℕ × Body)) → n < e.0 → IsHoldable b [] → (is_close b ≡ true → holds_above n (e ∷ es) ≡ false) → IsHoldable b (e ∷ es)
holdable_before n (Rows rows) e es h g c = g
holdable_before n Close e es h g c = absurd (is_above n e.0 (holds_above n es) h (c refl))
  where
    is_above : (n k : ℕ) (rest : Bool) → n < k → (nat_lt n k || rest) ≡ false → ⊥
    is_above n k rest h q = grind (arith, nat_tests)

holdable_still : (n : ℕ) (f : ℕ × Body) (es gs : List (ℕ × Body)) → f.0 < n → holds_close_below n (f ∷ es) ≡ false → IsHoldable f.1 es → IsHoldable f.1 gs
holdable_still n f es gs h c g = by_body f.1 f.0 c g
  where
    is_below : (n k : ℕ) (rest : Bool) → k < n → (nat_lt k n || rest) ≡ false → ⊥
    is_below n k rest h q = grind (arith, nat_tests)

    by_body : (b : Body) (k : ℕ) → ((is_close b && nat_lt f.0 n) || holds_close_below n es) ≡ false → IsHoldable b es → IsHoldable b gs
    by_body (Rows rows) k c g = g
    by_body Close k c g = absurd (is_below n f.0 (holds_close_below n es) h c)

three_ways : (n k : ℕ) → (k == n) ≡ false → (n < k) ⊎ (k < n)
three_ways n k h = grind (arith, nat_tests)

close_later : (b : Body) (n : ℕ) (e : ℕ × Body) (es : List (ℕ × Body)) → (is_close b ≡ true → holds_above n (e ∷ es) ≡ false) → is_close b ≡ true → holds_above n es ≡ false
close_later b n e es c h = (or_parts _ _ (c h)).1

pub Orderly-insert : (es : List (ℕ × Body)) (least n : ℕ) (b : Body) → Orderly least es → least ≤ n → holds n es ≡ false → holds_close_below n es ≡ false
    → (is_close b ≡ true → holds_above n es ≡ false) → IsHoldable b [] → Orderly least (insert_entry nat_cmp es n b)
Orderly-insert [] least n b o l new before last good = (l, good, tt)
Orderly-insert (e ∷ es) least n b o l new before last good =
    elim (three_ways n e.0 (or_parts _ _ new).0) [
      | inl h ↦ subst (Orderly least) (sym (insert_before n b e es h)) (l, holdable_before n b e es h good last, (omega arith, o.1, o.2))
      | inr h ↦ subst (Orderly least) (sym (insert_behind n b e es h))
          (o.0, holdable_still n e es (insert_entry nat_cmp es n b) h before o.1, Orderly-insert es (e.0 + 1) n b o.2 (omega arith) (or_parts _ _ new).1 (or_parts _ _ before).1 (close_later b n e es last) good)
    ]

counted_one : (b : Body) (n : ℕ) (es : List (ℕ × Body)) → IsHoldable b es → length (following n es) ≤ length (rows_of_all (following n es)) + cond (any_close (following n es)) 1 0
    → length (following n es) + 1 ≤ length (rows_of b ++ rows_of_all (following n es)) + cond (is_close b || any_close (following n es)) 1 0
counted_one (Rows rows) n es g h = simp length-append (omega (arith, g, h))
counted_one Close n es g h = let P : List (ℕ × Body) → Type 0 = λ (t : List (ℕ × Body)). length (following n t) + 1 ≤ length (rows_of_all (following n t)) + 1 in subst P (sym g) (omega arith)

counted_test : (t : Bool) (e : ℕ × Body) (run : List (ℕ × Body)) → length run + 1 ≤ length (rows_of e.1 ++ rows_of_all run) + cond (is_close e.1 || any_close run) 1 0
    → length (cond t (e ∷ run) []) ≤ length (rows_of_all (cond t (e ∷ run) [])) + cond (any_close (cond t (e ∷ run) [])) 1 0
counted_test true e run h = omega (arith, h)
counted_test false e run h = omega arith

-- what follows counts no more parcels than rows, but for a close
run_counted : (es : List (ℕ × Body)) (least n : ℕ) → Orderly least es → length (following n es) ≤ length (rows_of_all (following n es)) + cond (any_close (following n es)) 1 0
run_counted [] least n o = omega arith
run_counted (e ∷ es) least n o = counted_test (e.0 == n) e (following (n + 1) es) (counted_one e.1 (n + 1) es o.1 (run_counted es (e.0 + 1) (n + 1) o.2))

ended_one : (b : Body) (n : ℕ) (es : List (ℕ × Body)) → IsHoldable b es → (any_close (following n es) ≡ true → drop (length (following n es)) es ≡ [])
    → (is_close b || any_close (following n es)) ≡ true → drop (length (following n es)) es ≡ []
ended_one (Rows rows) n es g h q = h q
ended_one Close n es g h q = let P : List (ℕ × Body) → Type 0 = λ (t : List (ℕ × Body)). drop (length (following n t)) t ≡ [] in subst P (sym g) refl

ended_test : (t : Bool) (e : ℕ × Body) (run es : List (ℕ × Body)) → ((is_close e.1 || any_close run) ≡ true → drop (length run) es ≡ []) → any_close (cond t (e ∷ run) []) ≡ true → drop (length (cond t (e ∷ run) [])) (e ∷ es) ≡ []
ended_test true e run es h q = h q
ended_test false e run es h q = cc

-- nothing is left behind a close
run_ends : (es : List (ℕ × Body)) (least n : ℕ) → Orderly least es → any_close (following n es) ≡ true → drop (length (following n es)) es ≡ []
run_ends [] least n o h = cc
run_ends (e ∷ es) least n o h = ended_test (e.0 == n) e (following (n + 1) es) es (ended_one e.1 (n + 1) es o.1 (run_ends es (e.0 + 1) (n + 1) o.2)) h

leaves_test : (t : Bool) (n : ℕ) (e : ℕ × Body) (run es : List (ℕ × Body)) → Orderly n (e ∷ es) → (e.0 == n) ≡ t → ((e.0 == n) ≡ true → Orderly ((n + 1) + length run + 1) (drop (length run) es))
    → Orderly (n + length (cond t (e ∷ run) []) + 1) (drop (length (cond t (e ∷ run) [])) (e ∷ es))
leaves_test true n e run es o h q = let w : (n + 1) + length run + 1 ≡ n + suc (length run) + 1 = omega arith in subst (λ (m : ℕ). Orderly m (drop (length run) es)) w (q h)
leaves_test false n e run es o h q = (past e.0 n h o.0, o.1, o.2)
  where
    past : (a b : ℕ) → (a == b) ≡ false → b ≤ a → b + 0 + 1 ≤ a
    past a b h l = grind (arith, nat_tests)

-- what is left begins past a gap
pub run_leaves : (es : List (ℕ × Body)) (n : ℕ) → Orderly n es → Orderly (n + length (following n es) + 1) (drop (length (following n es)) es)
run_leaves [] n o = tt
run_leaves (e ∷ es) n o = leaves_test (e.0 == n) n e (following (n + 1) es) es o refl (λ h. run_leaves es (n + 1) (subst (λ (k : ℕ). Orderly (k + 1) es) (eqb-true e.0 n h) o.2))

pub IsSound-held : (s : Standing) (n : ℕ) (b : Body) → IsSound s → s.next < n → s.closed ≡ false → holds n s.held ≡ false → holds_close_below n s.held ≡ false
    → (is_close b ≡ true → holds_above n s.held ≡ false) → IsHoldable b [] → IsSound (with_held s n b)
IsSound-held s n b o later unclosed new before last good = record {
  counted = o.counted;
  done = λ h. cc;
  orderly = Orderly-insert s.held (s.next + 1) n b o.orderly (omega arith) new before last good;
}

-- a body that may be delivered with what follows it counts no more parcels than rows, but for a close
all_counted : (b : Body) (n : ℕ) (es : List (ℕ × Body)) → Orderly n es → IsHoldable b [] → (is_close b ≡ true → es ≡ [])
    → length (following n es) + 1 ≤ length (rows_of b ++ rows_of_all (following n es)) + cond (is_close b || any_close (following n es)) 1 0
all_counted (Rows rows) n es o g alone = simp length-append (omega (arith, g, run_counted es n n o))
all_counted Close n es o g alone = let P : List (ℕ × Body) → Type 0 = λ (t : List (ℕ × Body)). length (following n t) + 1 ≤ length (rows_of_all (following n t)) + 1 in subst P (sym (alone refl)) (omega arith)

all_ended : (b : Body) (n : ℕ) (es : List (ℕ × Body)) → Orderly n es → (is_close b ≡ true → es ≡ []) → (is_close b || any_close (following n es)) ≡ true → drop (length (following n es)) es ≡ []
all_ended (Rows rows) n es o alone h = run_ends es n n o h
all_ended Close n es o alone h = let P : List (ℕ × Body) → Type 0 = λ (t : List (ℕ × Body)). drop (length (following n t)) t ≡ [] in subst P (sym (alone refl)) refl

pub IsSound-delivered : (s : Standing) (n : ℕ) (b : Body) → IsSound s → n ≡ s.next → s.closed ≡ false → IsHoldable b [] → (is_close b ≡ true → s.held ≡ []) → IsSound (delivered_from s n b)
IsSound-delivered s n b o next unclosed good alone =
    let orderly : Orderly (n + 1) s.held = subst (λ (k : ℕ). Orderly (k + 1) s.held) (sym next) o.orderly in
    let few : s.next ≤ length s.rows + cond false 1 0 = subst (λ (t : Bool). s.next ≤ length s.rows + cond t 1 0) unclosed o.counted in
    record {
      counted = simp length-append (omega (arith, all_counted b (n + 1) s.held orderly good alone, length-append (rows_of b) (rows_of_all (following (n + 1) s.held))));
      done = all_ended b (n + 1) s.held orderly alone;
      orderly = run_leaves s.held (n + 1) orderly;
    }

pub ok_or_err : {V E : Type 0} (P Q : Type 0) (r : Result V E) → OnOk r P → OnErr r Q → P ⊎ Q
ok_or_err P Q (Ok x) p q = inl p
ok_or_err P Q (Err e) p q = inr q

-- none of the rules from `bad length` to `early close` fits
pub record IsUnrefused (block : ℕ) (s : Standing) (n : ℕ) (b : Body) : Type 0 where
  pub lawful : is_bad_length block b ≡ false
  pub unclosed : s.closed ≡ false
  pub later : s.next ≤ n
  pub new : holds n s.held ≡ false
  pub before_close : holds_close_below n s.held ≡ false
  pub last : (is_close b && holds_above n s.held) ≡ false

five : (a b c d e : Bool) → cond a (Some BadLength) (cond b (Some AfterClose) (cond c (Some Repeat) (cond d (Some BeyondClose) (cond e (Some EarlyClose) None)))) ≡ None → (a ≡ false) × (b ≡ false) × (c ≡ false) × (d ≡ false) × (e ≡ false)
five true b c d e h = cc
five false true c d e h = cc
five false false true d e h = cc
five false false false true e h = cc
five false false false false true h = cc
five false false false false false h = (refl, refl, refl, refl, refl)

pub unrefused : (block : ℕ) (s : Standing) (n : ℕ) (b : Body) → refusal block s n b ≡ None → IsUnrefused block s n b
unrefused block s n b h =
    let parts = five (is_bad_length block b) s.closed (nat_lt n s.next || holds n s.held) (holds_close_below n s.held) (is_close b && holds_above n s.held) h in
    record {
      lawful = parts.0;
      unclosed = parts.1;
      later = ltb-false n s.next (or_parts _ _ parts.2).0;
      new = (or_parts _ _ parts.2).1;
      before_close = parts.3;
      last = parts.4;
    }

pub holdable_if_lawful : (block : ℕ) (b : Body) → is_bad_length block b ≡ false → IsHoldable b []
holdable_if_lawful block (Rows rows) h = some_rows (length rows) (or_parts _ _ h).0
  where
    some_rows : (n : ℕ) → (n == 0) ≡ false → 0 < n
    some_rows n h = grind (arith, nat_tests)
holdable_if_lawful block Close h = refl

none_above : (es : List (ℕ × Body)) (n : ℕ) → Orderly (n + 1) es → holds_above n es ≡ false → es ≡ []
none_above [] n o h = refl
none_above (e ∷ es) n o h = absurd (is_above n e.0 (holds_above n es) o.0 h)
  where
    is_above : (n k : ℕ) (rest : Bool) → n + 1 ≤ k → (nat_lt n k || rest) ≡ false → ⊥
    is_above n k rest h q = grind (arith, nat_tests)

pub close_last : (b : Body) (above : Bool) → (is_close b && above) ≡ false → is_close b ≡ true → above ≡ false
close_last (Rows rows) above h q = cc
close_last Close above h q = h

pub alone_if_next : (block : ℕ) (s : Standing) (n : ℕ) (b : Body) → refusal block s n b ≡ None → n ≡ s.next → Orderly (s.next + 1) s.held → is_close b ≡ true → s.held ≡ []
alone_if_next block s n b h next o q =
    none_above s.held n (subst (λ (k : ℕ). Orderly (k + 1) s.held) (sym next) o) (close_last b (holds_above n s.held) (unrefused block s n b h).last q)
