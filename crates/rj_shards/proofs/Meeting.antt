-- The rows of a kept pair have one shard: a shard keeps those of its own rows that the whole keeps, and no others.
use Rattle.std.proofs.Common.{◌≡◌, ℕ, ◌<◌, ◌==◌, Bool, true, false, cond, List, [], ◌∷◌, length, filter, slice_index_or, ap, subst, arith, All}
use Rattle.std.specs.List.{range_with_len}
use Rattle.std.proofs.lemmas.Bool.Decides.{nat_tests}
use Rattle.std.proofs.lemmas.List.{length-map}
use Rattle.std.proofs.lemmas.List.Elements.{All-get_or, All-head, All-map, All-nil, All-cons, All-tail, All-weaker, filter_passes}
use Rattle.rj_columns.specs.Contents.{Content}
use Rattle.rj_columns.specs.Tables.{TableValue}
use Rattle.rj_condition.specs.Joins.{keeps}
use Rattle.rj_condition.specs.declared.bound.BoundJoin.{BoundJoin}
use Rattle.rj_engine.specs.Results.{kept_pairs}
use Rattle.rj_shards.specs.Shards.{IsLawful, left_shard, places, right_shard, rows_at}
use Rattle.rj_shards.proofs.Own.{IsPairBelow, pairs_below}
use Rattle.rj_shards.proofs.Whole.{ShardIsPart}

itself : (a : ℕ) → (a == a) ≡ true
itself a = grind (arith, nat_tests)

same_if : (a b : ℕ) → (a == b) ≡ true → a ≡ b
same_if a b e = grind (arith, nat_tests)

module _ {X : Type 0} (P : X → Type 0) (x : X) (xs : List X) where
  head_kept : (b : Bool) → b ≡ true → All P (cond b (x ∷ xs) xs) → P x
  head_kept true e h = All-head P x xs h
  head_kept false e h = cc

  tail_kept : (b : Bool) → All P (cond b (x ∷ xs) xs) → All P xs
  tail_kept true h = All-tail P x xs h
  tail_kept false h = h

-- what each class of elements has, all elements have
all_by_class : {X : Type 0} (class other : X → ℕ) (xs : List X) → ((s : ℕ) → All (λ x. other x ≡ s) (filter (λ x. class x == s) xs)) → All (λ x. class x ≡ other x) xs
all_by_class class other [] h = All-nil (λ x. class x ≡ other x)
all_by_class class other (x ∷ xs) h =
    let same : other x ≡ class x = head_kept (λ y. other y ≡ class x) x (filter (λ y. class y == class x) xs) (class x == class x) (itself (class x)) (h (class x)) in
    All-cons (λ y. class y ≡ other y) x xs (cc)
    (all_by_class class other xs (λ s. tail_kept (λ y. other y ≡ s) x (filter (λ y. class y == s) xs) (class x == s) (h s)))

module _ (law : ShardIsPart) (value : List Content → ℕ) (lawful : IsLawful value) (count : ℕ) (join : BoundJoin) (l r : TableValue) where
  abbrev left : ℕ → ℕ
  left i = left_shard value count join l i

  abbrev right : ℕ → ℕ
  right j = right_shard value count join r j

  -- the right row of a pair that a shard keeps is a row of the shard
  in_shard : (s : ℕ) → All (λ p. right p.1 ≡ s) (filter (λ p. left p.0 == s) (kept_pairs join l r))
  in_shard s =
      let xs = places left l s in
      let ys = places right r s in
      let inner = kept_pairs join (rows_at l xs) (rows_at r ys) in
      let many : length (rows_at r ys).rows ≡ length ys = length-map ys (λ row. slice_index_or r.rows row []) in
      let low : All (IsPairBelow (length (rows_at l xs).rows) (length (rows_at r ys).rows)) inner = pairs_below (keeps join (rows_at l xs) (rows_at r ys)) (length (rows_at l xs).rows) (length (rows_at r ys).rows) in
      let there : (p : ℕ × ℕ) → IsPairBelow (length (rows_at l xs).rows) (length (rows_at r ys).rows) p → right (slice_index_or ys p.1 0) ≡ s =
      λ p below. same_if (right (slice_index_or ys p.1 0)) s (All-get_or (λ j. (right j == s) ≡ true) ys p.1 0 (subst (λ n. p.1 < n) many below.1) (filter_passes (λ j. right j == s) (range_with_len 0 (length r.rows)))) in
      subst (λ ps. All (λ p. right p.1 ≡ s) ps) (ap (λ v. v.pairs) (law value lawful count join l r s))
      (All-map (λ p. right p.1 ≡ s) (λ p. (slice_index_or xs p.0 0, slice_index_or ys p.1 0)) inner
      (All-weaker (IsPairBelow (length (rows_at l xs).rows) (length (rows_at r ys).rows)) (λ p. right (slice_index_or ys p.1 0) ≡ s) there inner low))

  pub kept_meet : All (λ p. left p.0 ≡ right p.1) (kept_pairs join l r)
  kept_meet = all_by_class (λ p. left p.0) (λ p. right p.1) (kept_pairs join l r) in_shard
