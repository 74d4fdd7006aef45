-- Headers: the columns of a name, and whether two are the same.
use Rattle.std.proofs.Common.{Bor, ◌≡◌, ◌∙◌, ◌+◌, ℕ, zero, suc, List, [], ◌∷◌, length, drop, Option, Some, None, Bool, true, false, cond, refl, sym, ap, subst, arith, add-one, add-zero}
use Rattle.std.specs.Cmp.Lexicographic.{pointwise}
use Rattle.std.specs.Fn.{Called}
use Rattle.std.specs.Iterator.{ChecksAny, FindsPosition, Yields, YieldsThen}
use Rattle.std.specs.List.{AllZip, FoldsTo}
use Rattle.std.specs.Option.{IfSome, MatchOption, option_map}
use Rattle.std.specs.Str.{bytes_eq}
use Rattle.csv.specs.declared.record.ByteRecordIter.{ByteRecordIter}
use Rattle.csv.specs.Records.{field_at, fields_of}
use Rattle.rj_shards.specs.MergeHeaders.{columns_named, only_one}
use denote.Param.Members.{Mut}

-- what a call of `next` gives of a record's fields, and the fields that are left
abbrev pub gives : ByteRecordIter → Option (Bor (List ℕ)) → ByteRecordIter → Type 0
gives s o t = (t.row ≡ s.row) × (option_map (λ f. f.now) o ≡ field_at (fields_of s.row.now) s.at) × IfSome o (λ _. t.at ≡ s.at + 1)

abbrev pub left : ByteRecordIter → List (List ℕ)
left s = drop s.at (fields_of s.row.now)

-- what is left from a place on, where no field is there, and where one is
none_at : (fields : List (List ℕ)) (i : ℕ) → None ≡ field_at fields i → drop i fields ≡ []
unfolding field_at
none_at [] zero e = refl
none_at [] (suc i) e = refl
none_at (f ∷ fields) zero e = cc e
none_at (f ∷ fields) (suc i) e = none_at fields i e

some_at : (fields : List (List ℕ)) (i : ℕ) (x : List ℕ) → Some x ≡ field_at fields i → drop i fields ≡ x ∷ drop (suc i) fields
unfolding field_at
some_at [] i x e = cc e
some_at (f ∷ fields) zero x e = cc e
some_at (f ∷ fields) (suc i) x e = some_at fields i x e

-- what is left before a call of `next`
none_left : (s t : ByteRecordIter) → gives s None t → left s ≡ []
none_left s t e = none_at (fields_of s.row.now) s.at e.1

some_left : (s t : ByteRecordIter) (x : Bor (List ℕ)) → gives s (Some x) t → left s ≡ x.now ∷ left t
some_left s t x e = rw (e.0, e.2, add-one) (some_at (fields_of s.row.now) s.at x.now e.1)

module _ {F : Type 0} (name : List ℕ) (g : Mut F (Bor (List ℕ) × Unit {0}) Bool) (f : F)
    (tests : (x : Bor (List ℕ)) (b : Bool) (q : F) → Called g f (x, tt) b q → (q ≡ f) × (b ≡ bytes_eq x.now name)) where
  -- the fields that were passed over are no columns of the name
  passed : (xs : List (Bor (List ℕ))) (s t : ByteRecordIter) (q : F) (i : ℕ) → Yields gives s xs t → FoldsTo (λ p x r. Called g p (x, tt) false r) f xs q
      → (q ≡ f) × (columns_named name i (left s) ≡ columns_named name (i + length xs) (left t))
  unfolding columns_named
  passed [] s t q i y c = (sym c, rw (y, add-zero) refl)
  passed (x ∷ xs) s t q i y c =
      let test = tests x false c.0 c.1 in
      let rest = passed xs y.0 t q (i + 1) y.2 (subst (λ p. FoldsTo (λ p x r. Called g p (x, tt) false r) p xs q) test.0 c.2) in
      let long : i + 1 + length xs ≡ i + length (x ∷ xs) = omega arith in
      (rest.0, rw (some_left s y.0 x y.1, sym test.1) (rest.1 ∙ ap (λ n. columns_named name n (left t)) long))

  -- the field at which the search stopped has the name
  stopped : (x : Bor (List ℕ)) (q r : F) → q ≡ f → Called g q (x, tt) true r → bytes_eq x.now name ≡ true
  stopped x q r e h = sym (tests x true r (subst (λ p. Called g p (x, tt) true r) e h)).1

  -- what `position` says
  pub placed : (s u : ByteRecordIter) (r : Option ℕ) → FindsPosition gives g s f r u
      → MatchOption r (columns_named name 0 (left s) ≡ []) (λ p. columns_named name 0 (left s) ≡ p ∷ columns_named name (p + 1) (left u))
  unfolding columns_named
  placed s u r (xs, None, q, y, c, e) = rw (e, (passed xs s y.0 q 0 y.1 c).1, none_left y.0 u y.2) refl
  placed s u r (xs, Some x, q, y, c, e) =
      let before = passed xs s y.0 q 0 y.1 c in
      let count : 0 + length xs ≡ length xs = omega arith in
      rw (e.0, before.1, some_left y.0 u x y.2, stopped x q e.1.0 before.0 e.1.1, count) refl

  -- what `any` says of the fields behind a column of the name
  pub alone : (p n : ℕ) (s u : ByteRecordIter) (r : Bool) → ChecksAny gives g s f r u → only_one (p ∷ columns_named name n (left s)) ≡ cond r None (Some p)
  unfolding columns_named
  alone p n s u r (xs, None, q, y, c, e) = rw (e, (passed xs s y.0 q n y.1 c).1, none_left y.0 u y.2) refl
  alone p n s u r (xs, Some x, q, y, c, e) =
      let before = passed xs s y.0 q n y.1 c in
      rw (e.0, before.1, some_left y.0 u x y.2, stopped x q e.1.0 before.0 e.1.1) refl

module _ (r : Bool) where
  abbrev Last : Option (Bor (List ℕ)) → Option (Bor (List ℕ)) → Type 0
  Last o p = MatchOption o (MatchOption p (r ≡ true) (λ _. r ≡ false)) (λ x. (r ≡ false) × IfSome p (λ y. bytes_eq x.now y.now ≡ false))

  -- the last calls decide, where the fields before were the same
  at_last : (s u t w : ByteRecordIter) (o p : Option (Bor (List ℕ))) → gives s o u → gives t p w → Last o p → r ≡ pointwise bytes_eq (left s) (left t)
  at_last s u t w None None a b e = rw (none_left s u a, none_left t w b) e
  at_last s u t w None (Some y) a b e = rw (none_left s u a, some_left t w y b) e
  at_last s u t w (Some x) None a b e = rw (some_left s u x a, none_left t w b) e.0
  at_last s u t w (Some x) (Some y) a b e = rw (some_left s u x a, some_left t w y b, e.1) e.0

  -- what `eq` of the fields of two records says
  pub compared : (xs ys : List (Bor (List ℕ))) (s u t w : ByteRecordIter) (o p : Option (Bor (List ℕ))) → YieldsThen gives s xs o u → YieldsThen gives t ys p w
      → AllZip (λ x y. bytes_eq x.now y.now ≡ true) xs ys → Last o p → r ≡ pointwise bytes_eq (left s) (left t)
  compared [] [] s u t w o p a b z e = rw (a.1, b.1) (at_last a.0 u b.0 w o p a.2 b.2 e)
  compared [] (y ∷ ys) s u t w o p a b z e = absurd z
  compared (x ∷ xs) [] s u t w o p a b z e = absurd z
  compared (x ∷ xs) (y ∷ ys) s u t w o p a b z e =
      rw (some_left s a.1.0 x a.1.1, some_left t b.1.0 y b.1.1, z.0) (compared xs ys a.1.0 u b.1.0 w o p (a.0, a.1.2, a.2) (b.0, b.1.2, b.2) z.1 e)
