-- What has arrived once what was taken is followed by the rest.
use Rattle.std.proofs.Common.{◌≡◌, ℕ, zero, suc, ◌<◌, ◌≤◌, ◌+◌, ◌*◌, ◌⊎◌, inl, inr, List, [], ◌∷◌, ◌++◌, length, map, get_or, sym, refl, ap, ◌∙◌, subst, arith, lt_of_not-le, mul-le-mul_right, take}
use Rattle.std.proofs.Common.{drop, set, length-append, length-take-le, length-drop, get_or-set_same, get_or-set_other}
use Rattle.std.specs.Prelude.{Contains}
use Rattle.std.proofs.lemmas.List.{length-map, get_or-take, take_more, drop_more}
use Rattle.std.proofs.lemmas.List.Elements.{Contains-append_left, Contains-append_right, Contains-append_cases}
use mathlib.Core.Logic.{dite}
use native.Mathlib.Decide.{ℕ_discrete, dec_le}
use Rattle.rj_exchange.specs.declared.ledger.parcel.Parcel.{Parcel}
use Rattle.rj_exchange.specs.declared.posted.Posted.{Posted}
use Rattle.rj_exchange.specs.declared.boxes.Stub.{Stub}
use Rattle.rj_exchange.specs.Passing.{of, posted_by}
use Rattle.rj_exchange.specs.Boxes.{PostedVec, sent_of, IsAllSent}
use Rattle.rj_workers.proofs.Lists.{pick, any_default, row_fits, get_or-map, along}
use Rattle.rj_workers.proofs.Lists.{chosen, passed, past_end, before_end}
use Rattle.rj_workers.specs.Posts.{Posts, posts_at}
use Rattle.rj_workers.specs.Arrivals.{Takes, takes_at, IsArrived, IsAllArrived, parcel_of, parcels_of}

-- membership, by the list
module _ {A : Type 0} where
  pub none_in : (x : A) → Contains [] x → ⊥
  none_in x h = let l = h.1 in omega arith

  pub first_in : (x : A) (xs : List A) → Contains (x ∷ xs) x
  first_in x xs = (0, omega arith, refl)

  pub later_in : (x y : A) (xs : List A) → Contains xs y → Contains (x ∷ xs) y
  later_in x y xs h = let l = h.1 in (suc h.0, omega arith, h.2)

  pub cons_cases : (x y : A) (xs : List A) → Contains (x ∷ xs) y → (x ≡ y) ⊎ Contains xs y
  cons_cases x y xs (zero, l, e) = inl e
  cons_cases x y xs (suc k, l, e) = inr (k, omega arith, e)

-- what is of an outbox
pub of_in : (o : ℕ) (x : Parcel) (xs : List Posted) → Contains xs (posted_by o x) → Contains (of o xs) x
of_in o x [] h = absurd (none_in (posted_by o x) h)
of_in o x (y ∷ xs) h = dite (ℕ_discrete y.outbox o)
    (λ e. along _ _ x (sym (chosen y.outbox o (y.parcel ∷ of o xs) (of o xs) e)) (elim (cons_cases y (posted_by o x) xs h) [
      | inl i ↦ subst (λ (z : Parcel). Contains (z ∷ of o xs) x) (sym (ap (λ (z : Posted). z.parcel) i)) (first_in x (of o xs))
      | inr r ↦ later_in y.parcel x (of o xs) (of_in o x xs r)
    ]))
    (λ ne. along _ _ x (sym (passed y.outbox o (y.parcel ∷ of o xs) (of o xs) ne)) (elim (cons_cases y (posted_by o x) xs h) [
      | inl i ↦ absurd (ne (ap (λ (z : Posted). z.outbox) i))
      | inr r ↦ of_in o x xs r
    ]))

pub in_of : (o : ℕ) (x : Parcel) (xs : List Posted) → Contains (of o xs) x → Contains xs (posted_by o x)
in_of o x [] h = absurd (none_in x h)
in_of o x (y ∷ xs) h = dite (ℕ_discrete y.outbox o)
    (λ e. elim (cons_cases y.parcel x (of o xs) (along _ _ x (chosen y.outbox o (y.parcel ∷ of o xs) (of o xs) e) h)) [
      | inl i ↦ subst (λ (z : Posted). Contains (y ∷ xs) z) (λ j. record { outbox = e j; parcel = i j }) (first_in y xs)
      | inr r ↦ later_in y (posted_by o x) xs (in_of o x xs r)
    ])
    (λ ne. later_in y (posted_by o x) xs (in_of o x xs (along _ _ x (passed y.outbox o (y.parcel ∷ of o xs) (of o xs) ne) h)))

-- what is of the rest
pub parcels_in : (o : ℕ) (x : Parcel) (xs : List Posted) → Contains xs (posted_by o x) → Contains (map parcel_of xs) x
parcels_in o x [] h = absurd (none_in (posted_by o x) h)
parcels_in o x (y ∷ xs) h = elim (cons_cases y (posted_by o x) xs h) [
  | inl i ↦ subst (λ (z : Parcel). Contains (z ∷ map parcel_of xs) x) (sym (ap (λ (z : Posted). z.parcel) i)) (first_in x (map parcel_of xs))
  | inr r ↦ later_in y.parcel x (map parcel_of xs) (parcels_in o x xs r)
]

pub in_parcels : (x : Parcel) (xs : List Posted) → Contains (map parcel_of xs) x → (o : ℕ) × Contains xs (posted_by o x)
in_parcels x [] h = absurd (none_in x h)
in_parcels x (y ∷ xs) h = elim (cons_cases y.parcel x (map parcel_of xs) h) [
  | inl i ↦ (y.outbox, subst (λ (z : Posted). Contains (y ∷ xs) z) (λ j. record { outbox = y.outbox; parcel = i j }) (first_in y xs))
  | inr r ↦ let s = in_parcels x xs r in (s.0, later_in y (posted_by s.0 x) xs s.1)
]

pub rests_in : (x : Parcel) (rests : List PostedVec) (k : ℕ) (v : PostedVec) → k < length rests → Contains (map parcel_of (get_or rests k v).items) x → Contains (parcels_of rests) x
rests_in x [] k v lt h = absurd (omega arith)
rests_in x (r ∷ rs) zero v lt h = Contains-append_left (map parcel_of r.items) (parcels_of rs) x h
rests_in x (r ∷ rs) (suc k) v lt h = Contains-append_right (map parcel_of r.items) (parcels_of rs) x (rests_in x rs k v (omega arith) h)

pub in_rests : (x : Parcel) (rests : List PostedVec) (v : PostedVec) → Contains (parcels_of rests) x → (k : ℕ) × (k < length rests) × Contains (map parcel_of (get_or rests k v).items) x
in_rests x [] v h = absurd (none_in x h)
in_rests x (r ∷ rs) v h = elim (Contains-append_cases (map parcel_of r.items) (parcels_of rs) x h) [
  | inl a ↦ (0, omega arith, a)
  | inr b ↦ let s = in_rests x rs v b in let l = s.1 in (suc s.0, omega arith, s.2)
]

-- a place that holds something is within the list
pub place_within : {A : Type 0} (xs : List (List A)) (k : ℕ) (x : A) → Contains (get_or xs k []) x → k < length xs
place_within xs k x h = dite (dec_le (length xs) k) (λ le. absurd (none_in x (along _ _ x (past_end xs k [] le) h))) (λ ne. lt_of_not-le ne)

module _ (outboxes lanes : ℕ) (ss : List Stub) (ts : Takes) (rests : List PostedVec) (xs : List Parcel) (many : length ss ≡ outboxes * lanes) (taken : length ts ≡ lanes) (rest : length rests ≡ lanes) (arrived : IsArrived ts xs)
    (all : (k : ℕ) (v : PostedVec) → k < lanes → IsAllSent lanes ss k (takes_at ts k ++ (get_or rests k v).items)) where
  ps : Posts
  ps = map sent_of ss

  known : (o k : ℕ) (v : PostedVec) (x : Parcel) → k < lanes → Contains (takes_at ts k ++ (get_or rests k v).items) (posted_by o x) → (o' : ℕ) × (k' : ℕ) × (o' < outboxes) × (k' < lanes)
      × Contains (posts_at (map sent_of ss) (o' * lanes + k')) x
  known o k v x lt h =
      let here : Contains (posts_at (map sent_of ss) (o * lanes + k)) x = along _ _ x (all k v lt o) (of_in o x _ h) in
      let inside : o * lanes + k < length (map sent_of ss) = place_within (map sent_of ss) (o * lanes + k) x here in
      let len = length-map ss sent_of in
      let below : o < outboxes = dite (dec_le outboxes o) (λ le. let m : outboxes * lanes ≤ o * lanes = mul-le-mul_right lanes le in absurd (omega arith)) (λ ne. lt_of_not-le ne) in
      (o, k, below, lt, here)

  pub all_arrived : IsAllArrived outboxes lanes (map sent_of ss) (xs ++ parcels_of rests)
  all_arrived = (
    λ x h. elim (Contains-append_cases xs (parcels_of rests) x h) [
      | inl a ↦
          let t = arrived.0 x a in
          let inside : t.0 < length ts = place_within ts t.0 (posted_by t.1 x) t.2 in
          let lt : t.0 < lanes = omega arith in
          let there : t.0 < length rests = omega arith in
          let v : PostedVec = pick rests t.0 there in
          known t.1 t.0 v x lt (Contains-append_left (takes_at ts t.0) (get_or rests t.0 v).items (posted_by t.1 x) t.2)
      | inr b ↦
          let one : (n : ℕ) × (n < length rests) = elim rests as (λ (l : List PostedVec). Contains (parcels_of l) x → (n : ℕ) × (n < length l)) [ [] ↦ (λ z. absurd (none_in x z)) | r ∷ rs ↦ (λ _. (0, omega arith)) ] b in
          let v : PostedVec = pick rests one.0 one.1 in
          let t = in_rests x rests v b in
          let lt : t.0 < lanes = (let l = t.1 in omega arith) in
          let s = in_parcels x (get_or rests t.0 v).items t.2 in
          known s.0 t.0 v x lt (Contains-append_right (takes_at ts t.0) (get_or rests t.0 v).items (posted_by s.0 x) s.1)
    ],
    λ o k x ol kl h.
        let there : k < length rests = omega arith in
        let v : PostedVec = pick rests k there in
        let y = in_of o x (takes_at ts k ++ (get_or rests k v).items) (along _ _ x (sym (all k v kl o)) h) in
        elim (Contains-append_cases (takes_at ts k) (get_or rests k v).items (posted_by o x) y) [
          | inl a ↦ Contains-append_left xs (parcels_of rests) x (arrived.1 k o x a)
          | inr b ↦ Contains-append_right xs (parcels_of rests) x (rests_in x rests k v there (parcels_in o x _ b))
        ],
  )

after_end : {A : Type 0} (xs ys : List A) (i j : ℕ) (d : A) → i ≡ length xs + j → get_or (xs ++ ys) i d ≡ get_or ys j d
after_end [] ys i j d e = ap (λ n. get_or ys n d) (let n : i ≡ j = omega arith in n)
after_end (x ∷ xs) ys zero j d e = absurd (omega arith)
after_end (x ∷ xs) ys (suc i) j d e = after_end xs ys i j d (omega arith)

-- one list more gives its first stubs
module _ {X : Type 0} (f : X → List Stub) (count at : ℕ) (was old : List X) (new x : X) (ss : List Stub)
    (len : length old ≡ length was) (lt : at < length was) (is : x ≡ get_or old at x)
    (yet : (o : ℕ) (d : X) → at ≤ o → get_or old o d ≡ get_or was o d) (room : count ≤ length (f x)) where
  same_at : (d : X) → x ≡ get_or was at d
  same_at d = is ∙ any_default old at x d (omega arith) ∙ yet at d (omega arith)

  pub more_done : ((o : ℕ) (d : X) → o < at → f (get_or old o d) ≡ drop count (f (get_or was o d))) → f new ≡ drop count (f x) → (o : ℕ) (d : X) → o < at + 1 → f (get_or (set old at new) o d) ≡ drop count (f (get_or was o d))
  more_done done now o d below = dite (ℕ_discrete o at)
      (λ e. ap f (ap (λ n. get_or (set old at new) n d) e ∙ get_or-set_same old at new d (omega arith)) ∙ now ∙ ap (λ z. drop count (f z)) (same_at d ∙ ap (λ n. get_or was n d) (sym e)))
      (λ ne. ap f (get_or-set_other old at o new d ne) ∙ done o d (omega arith))

  pub still_yet : (o : ℕ) (d : X) → at + 1 ≤ o → get_or (set old at new) o d ≡ get_or was o d
  still_yet o d le = get_or-set_other old at o new d (λ e. omega arith) ∙ yet o d (omega arith)

  pub more_many : (n : ℕ) → n ≡ at * count → length ss ≡ n → length (ss ++ take count (f x)) ≡ (at + 1) * count
  more_many n e many = let a = length-append ss (take count (f x)) in let b = length-take-le count (f x) room in let c : (at + 1) * count ≡ at * count + count = grind arith in omega arith

  pub more_stubs : length ss ≡ at * count → ((o k : ℕ) (s : Stub) → o < at → k < count → get_or ss (o * count + k) s ≡ get_or (get_or (map f was) o []) k s)
      → (o k : ℕ) (s : Stub) → o < at + 1 → k < count → get_or (ss ++ take count (f x)) (o * count + k) s ≡ get_or (get_or (map f was) o []) k s
  more_stubs many stubs o k s ol kl = dite (ℕ_discrete o at)
      (λ e. after_end ss (take count (f x)) (o * count + k) k s (let h : o * count ≡ at * count = ap (λ n. n * count) e in omega arith) ∙ get_or-take count (f x) k s kl
      ∙ ap (λ l. get_or l k s) (ap f (same_at x) ∙ sym (get_or-map f was at x [] lt) ∙ ap (λ n. get_or (map f was) n []) (sym e)))
      (λ ne. before_end ss (take count (f x)) (o * count + k) s (let m = row_fits o at count k (omega arith) kl in omega arith) ∙ stubs o k s (omega arith) kl)

-- one element more is moved from the front of a list
pub moved_one : {A : Type 0} (xs zs : List A) (n : ℕ) (y : A) → drop n xs ≡ y ∷ zs → (zs ≡ drop (n + 1) xs) × (take (n + 1) xs ≡ take n xs ++ y ∷ [])
moved_one xs zs n y h =
    let l = ap length h in let m = length-drop n xs in let lt : n < length xs = omega arith in
    let e : y ∷ zs ≡ get_or xs n y ∷ drop (n + 1) xs = sym h ∙ drop_more xs n y lt in
    let first : y ≡ get_or xs n y = cc in
    (cc, take_more xs n y lt ∙ ap (λ z. take n xs ++ z ∷ []) (sym first))
