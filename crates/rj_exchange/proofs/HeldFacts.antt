-- Facts on the list of held parcels.
use Rattle.std.proofs.Common.{◌≡◌, ℕ, suc, ◌+◌, ◌-◌, ◌<◌, ◌≤◌, ◌==◌, Bool, true, false, cond, ◌||◌, ◌&&◌, List, [], ◌∷◌, ◌++◌, length, drop, take, Some, None, slice_get, nat_lt, is_some, refl, Option}
use Rattle.std.proofs.Common.{IsSome, IfSome, IfNone, ◌↔◌, ap, sym, pred, zero, sub-one, add-one, append_assoc, append-nil, add_assoc, eq-eqb, ◌∙◌, arith}
use Rattle.std.specs.Map.{lookup}
use Rattle.std.specs.Ordering.{nat_cmp}
use Rattle.std.specs.BTreeMap.{is_at}
use Rattle.std.proofs.lemmas.Bool.Decides.{nat_tests}
use Rattle.rj_exchange.specs.declared.ledger.parcel.Body.{Body}
use Rattle.rj_exchange.specs.declared.ledger.parcel.Body.TheVariants.{Rows, Close}
use Rattle.rj_exchange.specs.Standing.{is_close, rows_of, rows_of_all, any_close, following, IsHoldable, Orderly}
use Rattle.rj_exchange.specs.Rules.{holds, holds_above, holds_close_below}

is_at_number : (n k : ℕ) → is_at (nat_cmp n) k ≡ (k == n)
is_at_number n k = grind (arith, nat_tests)

or_when : (b c : Bool) (x : Body) (o : _) → is_some (cond b (Some x) o) ≡ (b || is_some o)
or_when true c x o = refl
or_when false c x o = refl

pub holds_looks_up : (n : ℕ) (es : List (ℕ × Body)) → is_some (lookup (is_at (nat_cmp n)) es) ≡ holds n es
holds_looks_up n [] = refl
holds_looks_up n (e ∷ es) = or_when (is_at (nat_cmp n) e.0) true e.1 _ ∙ ap (λ b. b || is_some (lookup (is_at (nat_cmp n)) es)) (is_at_number n e.0) ∙ ap (λ b. (e.0 == n) || b) (holds_looks_up n es)

-- the last of the held parcels is (k, b)
abbrev pub last_is : List (ℕ × Body) → ℕ → Body → Type 0
last_is es k b = slice_get es (pred (length es)) ≡ Some (k, b)

pub last_from : (es : List (ℕ × Body)) (k : ℕ) (b : Body) → slice_get es (length es - 1) ≡ Some (k, b) → last_is es k b
last_from es k b h = rw sub-one at h

-- the last has a number from `least` on
least_to_last : (es : List (ℕ × Body)) (least k : ℕ) (b : Body) → Orderly least es → last_is es k b → least ≤ k
least_to_last [] least k b o h = cc
least_to_last (e ∷ []) least k b o h = let q : e ≡ (k, b) = cc in let r : e.0 ≡ k = ap (λ (x : ℕ × Body). x.0) q in omega (arith, o.0)
least_to_last (e ∷ f ∷ es) least k b o h = omega (arith, o.0, least_to_last (f ∷ es) (e.0 + 1) k b o.2 h)

pub holds_above_last : (n : ℕ) (es : List (ℕ × Body)) (least k : ℕ) (b : Body) → Orderly least es → last_is es k b → nat_lt n k ≡ holds_above n es
holds_above_last n [] least k b o h = cc
holds_above_last n (e ∷ []) least k b o h = let q : e ≡ (k, b) = cc in let r : e.0 ≡ k = ap (λ (x : ℕ × Body). x.0) q in one_more n e.0 k r
  where
    one_more : (n m k : ℕ) → m ≡ k → nat_lt n k ≡ (nat_lt n m || false)
    one_more n m k r = grind (arith, nat_tests)
holds_above_last n (e ∷ f ∷ es) least k b o h = above_more n e.0 k _ (least_to_last (f ∷ es) (e.0 + 1) k b o.2 h) (holds_above_last n (f ∷ es) (e.0 + 1) k b o.2 h)
  where
    above_more : (n m k : ℕ) (rest : Bool) → m + 1 ≤ k → nat_lt n k ≡ rest → nat_lt n k ≡ (nat_lt n m || rest)
    above_more n m k rest p q = grind (arith, nat_tests)

not_close : (b : Body) (f : ℕ × Body) (es : List (ℕ × Body)) → IsHoldable b (f ∷ es) → is_close b ≡ false
not_close (Rows r) f es h = refl
not_close Close f es h = cc

pub holds_close_below_last : (n : ℕ) (es : List (ℕ × Body)) (least k : ℕ) (b : Body) → Orderly least es → last_is es k b → (is_close b && nat_lt k n) ≡ holds_close_below n es
holds_close_below_last n [] least k b o h = cc
holds_close_below_last n (e ∷ []) least k b o h = let q : e ≡ (k, b) = cc in ap (λ (x : ℕ × Body). is_close x.1 && nat_lt x.0 n) (sym q) ∙ sym (or_false _)
  where
    or_false : (c : Bool) → (c || false) ≡ c
    or_false true = refl
    or_false false = refl
holds_close_below_last n (e ∷ f ∷ es) least k b o h = let q : is_close e.1 ≡ false = not_close e.1 f es o.1 in holds_close_below_last n (f ∷ es) (e.0 + 1) k b o.2 h ∙ sym (ap (λ c. (c && nat_lt e.0 n) || holds_close_below n (f ∷ es)) q)

-- one more element taken from a list
pub record TakesOneMore (c : ℕ) (es : List (ℕ × Body)) (x : ℕ × Body) (u : List (ℕ × Body)) : Type 0 where
  pub left : u ≡ drop (c + 1) es
  pub within : c + 1 ≤ length es
  pub taken : take (c + 1) es ≡ take c es ++ x ∷ []

pub record TakesOneMoreSuc (c : ℕ) (es : List (ℕ × Body)) (x : ℕ × Body) (u : List (ℕ × Body)) : Type 0 where
  pub left : u ≡ drop (suc c) es
  pub within : suc c ≤ length es
  pub taken : take (suc c) es ≡ take c es ++ x ∷ []

one_more_suc : (c : ℕ) (es : List (ℕ × Body)) (x : ℕ × Body) (u : List (ℕ × Body)) → drop c es ≡ x ∷ u → TakesOneMoreSuc c es x u
one_more_suc zero [] x u h = cc
one_more_suc zero (e ∷ es) x u h = let p : e ≡ x = cc in let q : es ≡ u = cc in record { left = sym q; within = omega arith; taken = ap (λ y. y ∷ []) p }
one_more_suc (suc c) [] x u h = cc
one_more_suc (suc c) (e ∷ es) x u h = let r = one_more_suc c es x u h in record { left = r.left; within = omega (arith, r.within); taken = ap (λ ys. e ∷ ys) r.taken }

pub one_more : (c : ℕ) (es : List (ℕ × Body)) (x : ℕ × Body) (u : List (ℕ × Body)) → drop c es ≡ x ∷ u → TakesOneMore c es x u
one_more c es x u h = let r = one_more_suc c es x u h in record { left = rw add-one r.left; within = omega (arith, r.within); taken = rw add-one r.taken }

pub rows_of_all-snoc : (xs : List (ℕ × Body)) (x : ℕ × Body) → rows_of_all (xs ++ x ∷ []) ≡ rows_of_all xs ++ rows_of x.1
rows_of_all-snoc [] x = append-nil (rows_of x.1)
rows_of_all-snoc (y ∷ ys) x = ap (λ zs. rows_of y.1 ++ zs) (rows_of_all-snoc ys x) ∙ sym (append_assoc (rows_of y.1) (rows_of_all ys) (rows_of x.1))

pub any_close-snoc : (xs : List (ℕ × Body)) (x : ℕ × Body) → any_close (xs ++ x ∷ []) ≡ (is_close x.1 || any_close xs)
any_close-snoc [] x = refl
any_close-snoc (y ∷ ys) x = ap (λ b. is_close y.1 || b) (any_close-snoc ys x) ∙ swap_or (is_close y.1) (is_close x.1) (any_close ys)
  where
    swap_or : (a b c : Bool) → (a || (b || c)) ≡ (b || (a || c))
    swap_or true true c = refl
    swap_or true false c = refl
    swap_or false true c = refl
    swap_or false false c = refl

pub drop_step : (c : ℕ) (es : List (ℕ × Body)) (x : ℕ × Body) (u : List (ℕ × Body)) → drop c es ≡ x ∷ u → drop (c + 1) es ≡ u
drop_step c es x u h = sym (one_more c es x u h).left

drop_past_suc : (c : ℕ) (es : List (ℕ × Body)) → drop c es ≡ [] → drop (suc c) es ≡ []
drop_past_suc zero [] h = refl
drop_past_suc zero (e ∷ es) h = cc
drop_past_suc (suc c) [] h = refl
drop_past_suc (suc c) (e ∷ es) h = drop_past_suc c es h

pub drop_past : (c : ℕ) (es : List (ℕ × Body)) → drop c es ≡ [] → drop (c + 1) es ≡ []
drop_past c es h = rw add-one (drop_past_suc c es h)

nothing_left : (old : List (ℕ × Body)) → (0 < length old → ⊥) → old ≡ []
nothing_left [] h = refl
nothing_left (e ∷ es) h = absurd (h (omega arith))

-- after `pop_first`
pub popped : (r : Option (ℕ × Body)) (c : ℕ) (es old new : List (ℕ × Body)) → old ≡ drop c es → IfSome r (λ p. old ≡ p ∷ new) → IfNone r (new ≡ old) → (IsSome r ↔ (0 < length old)) → new ≡ drop (c + 1) es
popped (Some p) c es old new h taken same some = sym (drop_step c es p new (sym h ∙ taken))
popped None c es old new h taken same some =
    let gone : old ≡ [] = nothing_left old (λ q. cc (some.1 q)) in
    same ∙ gone ∙ sym (drop_past c es (sym h ∙ gone))

-- the run goes on by one
pub run_goes_on : (from c : ℕ) (es : List (ℕ × Body)) (k : ℕ) (b : Body) (u : List (ℕ × Body)) → drop c es ≡ (k, b) ∷ u → true ≡ (k == from + c)
    → following from es ≡ take c es ++ following (from + c) (drop c es) → following from es ≡ take (c + 1) es ++ following (from + (c + 1)) (drop (c + 1) es)
run_goes_on from c es k b u d test run =
    let more = one_more c es (k, b) u d in
    run
    ∙ ap (λ (t : List (ℕ × Body)). take c es ++ following (from + c) t) d
    ∙ ap (λ (t : Bool). take c es ++ cond t ((k, b) ∷ following ((from + c) + 1) u) []) (sym test)
    ∙ sym (append_assoc (take c es) ((k, b) ∷ []) (following ((from + c) + 1) u))
    ∙ ap (λ (t : List (ℕ × Body)). t ++ following ((from + c) + 1) u) (sym more.taken)
    ∙ ap (λ (n : ℕ). take (c + 1) es ++ following n u) (add_assoc from c 1)
    ∙ ap (λ (t : List (ℕ × Body)). take (c + 1) es ++ following (from + (c + 1)) t) more.left

pub rows_go_on : (rows start : List ℕ) (c : ℕ) (es : List (ℕ × Body)) (k : ℕ) (b : Body) (u : List (ℕ × Body)) → drop c es ≡ (k, b) ∷ u → rows ≡ start ++ rows_of_all (take c es) → rows ++ rows_of b ≡ start ++ rows_of_all (take (c + 1) es)
rows_go_on rows start c es k b u d h =
    ap (λ (t : List ℕ). t ++ rows_of b) h
    ∙ append_assoc start (rows_of_all (take c es)) (rows_of b)
    ∙ ap (λ (t : List ℕ). start ++ t) (sym (rows_of_all-snoc (take c es) (k, b)))
    ∙ ap (λ (t : List (ℕ × Body)). start ++ rows_of_all t) (sym (one_more c es (k, b) u d).taken)

pub close_goes_on : (closed : Bool) (c : ℕ) (es : List (ℕ × Body)) (k : ℕ) (b : Body) (u : List (ℕ × Body)) → drop c es ≡ (k, b) ∷ u → closed ≡ any_close (take c es) → (is_close b || closed) ≡ any_close (take (c + 1) es)
close_goes_on closed c es k b u d h =
    ap (λ (t : Bool). is_close b || t) h
    ∙ sym (any_close-snoc (take c es) (k, b))
    ∙ ap any_close (sym (one_more c es (k, b) u d).taken)

pub append_nothing : (rows : List ℕ) (b : Body) → b ≡ Close → rows ≡ rows ++ rows_of b
append_nothing rows b h = sym (append-nil rows) ∙ ap (λ (c : Body). rows ++ rows_of c) (sym h)
