-- Outputs that get the rows of their parts, one after the other.
use Rattle.std.proofs.Common.{◌≡◌, ◌≢◌, ◌<◌, ◌≤◌, ◌+◌, ℕ, List, Option, None, sym, ap, subst, inl, inr, ◌∙◌, arith, length, map, get_or, set}
use Rattle.std.specs.Io.KnownBytes.{Appends}
use Rattle.std.proofs.lemmas.Bool.{cases_lt}
use Rattle.std.proofs.lemmas.List.{get_or-map, get_or-set_other, get_or-set_same, length-map, map-set}
use Rattle.std.proofs.Math.Seq.{map-set_same}
use Rattle.rj_csv_io.specs.Devices.{after_failure}
use Rattle.rj_shards.specs.Divisions.{IsAppendedOrNot}
use borrow.Author.Count.{below_more}

module _ {O : Type 0} (count : O → ℕ) where
  count-at : (old now : List O) (p : ℕ) (x : O) → map count now ≡ map count old → p < length now → get_or now p x ≡ x → count x ≡ get_or (map count old) p 0
  count-at old now p x h low is = sym (ap count is) ∙ (sym (get_or-map count now p x 0 low) ∙ ap (λ (l : List ℕ). get_or l p 0) h)

  -- an output that did not fail
  pub count-kept : (old now : List O) (p : ℕ) (x y : O) → map count now ≡ map count old → get_or now p x ≡ x → count y ≡ count x → map count (set now p y) ≡ map count old
  count-kept old now p x y h is e = map-set_same count now p y x (e ∙ ap count (sym is)) ∙ h

  -- an output that failed
  pub count-more : (old now : List O) (p : ℕ) (x y : O) → map count now ≡ map count old → p < length now → get_or now p x ≡ x → count y ≡ after_failure (count x)
      → map count (set now p y) ≡ set (map count old) p (after_failure (get_or (map count old) p 0))
  count-more old now p x y h low is e =
      map-set count now p y ∙ (λ i. set (h i) p ((e ∙ ap after_failure (count-at old now p x h low is)) i))

module _ {O : Type 0} (told : O → Option (List ℕ)) (text : ℕ → List ℕ) where
  abbrev pub Have : List O → List O → ℕ → Type 0
  Have old now p = (q : ℕ) → q < p → Appends (get_or (map told old) q None) (get_or (map told now) q None) (text q)

  abbrev pub Wait : List O → List O → ℕ → Type 0
  Wait old now p = (q : ℕ) → p ≤ q → get_or (map told now) q None ≡ get_or (map told old) q None

  other : (now : List O) (p q : ℕ) (y : O) → q ≢ p → get_or (map told (set now p y)) q None ≡ get_or (map told now) q None
  other now p q y ne = ap (λ (l : List (Option (List ℕ))). get_or l q None) (map-set told now p y) ∙ get_or-set_other (map told now) p q (told y) None ne

  pub have-more : (old now : List O) (p : ℕ) (x y : O) → p < length now → get_or now p x ≡ x → Have old now p → Wait old now p → Appends (told x) (told y) (text p) → Have old (set now p y) (p + 1)
  have-more old now p x y low is have wait put =
      let before : told x ≡ get_or (map told old) p None = ap told (sym is) ∙ (sym (get_or-map told now p x None low) ∙ wait p (omega arith)) in
      let size = length-map now told in
      let after : get_or (map told (set now p y)) p None ≡ told y = ap (λ (l : List (Option (List ℕ))). get_or l p None) (map-set told now p y) ∙ get_or-set_same (map told now) p (told y) None (omega (arith, low, size)) in
      below_more (λ q. Appends (get_or (map told old) q None) (get_or (map told (set now p y)) q None) (text q)) p
      (λ q l. rw (other now p q y (λ e. absurd (omega (arith, l, e)))) (have q l))
      (rw after (rw before at put))

  pub wait-more : (old now : List O) (p : ℕ) (y : O) → Wait old now p → Wait old (set now p y) (p + 1)
  wait-more old now p y wait = λ q l. other now p q y (λ e. absurd (omega (arith, l, e))) ∙ wait q (omega (arith, l))

  -- each output has got its text, or nothing
  abbrev OrNot : List O → List O → ℕ → Type 0
  OrNot old now q = IsAppendedOrNot (get_or (map told old) q None) (get_or (map told now) q None) (text q)

  or-not : (old now : List O) (p : ℕ) → Have old now p → Wait old now p → (q : ℕ) → OrNot old now q
  or-not old now p have wait q = elim (cases_lt q p) [
    | inl low ↦ inr (have q low)
    | inr high ↦ inl (wait q high)
  ]

  -- also if one more failed, but for that one
  pub or-not-others : (old now : List O) (p : ℕ) (y : O) → Have old now p → Wait old now p → (q : ℕ) → q ≢ p → OrNot old (set now p y) q
  or-not-others old now p y have wait q ne =
      subst (λ (x : Option (List ℕ)). IsAppendedOrNot (get_or (map told old) q None) x (text q)) (sym (other now p q y ne)) (or-not old now p have wait q)

  -- also if one more is as it was
  pub or-not-kept : (old now : List O) (p : ℕ) (x y : O) → get_or now p x ≡ x → y ≡ x → Have old now p → Wait old now p → (q : ℕ) → OrNot old (set now p y) q
  or-not-kept old now p x y is e have wait q =
      subst (λ (l : List (Option (List ℕ))). IsAppendedOrNot (get_or (map told old) q None) (get_or l q None) (text q)) (sym (map-set_same told now p y x (ap told (e ∙ sym is))))
      (or-not old now p have wait q)

  -- the outputs before one that failed, and those after it
  pub before-after : (old now : List O) (p : ℕ) (y : O) → Have old now p → Wait old now p → (q : ℕ)
      → (q < p → Appends (get_or (map told old) q None) (get_or (map told (set now p y)) q None) (text q)) × (p < q → get_or (map told (set now p y)) q None ≡ get_or (map told old) q None)
  before-after old now p y have wait q = (
    λ l. rw (other now p q y (λ e. absurd (omega (arith, l, e)))) (have q l),
    λ l. other now p q y (λ e. absurd (omega (arith, l, e))) ∙ wait q (omega (arith, l)),
  )
