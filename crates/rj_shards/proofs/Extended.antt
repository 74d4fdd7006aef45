-- The numbers that some rows of a table have in it. Past the last of these rows they go on behind all rows of the table, so that they
-- rise everywhere, and a joined table that is placed by them rises as it did by its own numbers.
use Rattle.std.proofs.Common.{◌≡◌, ℕ, zero, suc, ◌+◌, ◌<◌, ◌≤◌, List, [], ◌∷◌, length, slice_index_or, refl, ap, subst, arith, All}
use Rattle.std.specs.declared.cmp.Ordering.TheVariants.{Less}
use Rattle.std.proofs.lemmas.List.Elements.{All-head, All-tail}
use Rattle.rj_settings.specs.declared.choice.RowOrder.{RowOrder}
use Rattle.rj_settings.specs.declared.choice.RowOrder.TheVariants.{LeftFirst, PairsFirst}
use Rattle.rj_engine.specs.declared.joined.JoinedRow.{JoinedRow}
use Rattle.rj_engine.specs.declared.joined.JoinedRow.TheVariants.{Both, LeftOnly, RightOnly}
use Rattle.rj_shards.specs.Places.{place_order}
use Rattle.rj_shards.specs.declared.merge.place.Place.{Place}
use Rattle.rj_shards.specs.declared.merge.place.Place.TheVariants.{Pair, LoneAmongPairs, LoneLeft, LoneRight}
use Rattle.rj_shards.proofs.Renumbered.{order_kept}
use Rattle.rj_shards.proofs.Rising.{IsBelow, Rise, is_less, number_place}
use Rattle.rj_shards.specs.Renumbered.{Rises, renumbered_place}
use Rattle.rj_shards.specs.Rows.{member_back, place_of}

-- the numbers of a list, and behind it such as go on from n
abbrev pub extended : List ℕ → ℕ → ℕ → ℕ
extended xs n i = slice_index_or xs i (n + i)

first_up : (x n e k : ℕ) (xs : List ℕ) → IsBelow number_place (LoneRight x) xs → x < n → n ≤ e → x < slice_index_or xs k e
first_up x n e k [] h low over = omega (arith, low, over)
first_up x n e zero (y ∷ xs) h low over = is_less x y h.0
first_up x n e (suc k) (y ∷ xs) h low over = first_up x n e k xs h.1 low over

later_up : (n d e : ℕ) (xs : List ℕ) → Rise number_place xs → All (λ x. x < n) xs → n ≤ d → d < e → (i k : ℕ) → i < k → slice_index_or xs i d < slice_index_or xs k e
later_up n d e [] h all over up i k low = up
later_up n d e (x ∷ xs) h all over up i zero low = absurd (omega (arith, low))
later_up n d e (x ∷ xs) h all over up zero (suc k) low = first_up x n e k xs h.0 (All-head (λ x. x < n) x xs all) (omega (arith, over, up))
later_up n d e (x ∷ xs) h all over up (suc i) (suc k) low = later_up n d e xs h.1 (All-tail (λ x. x < n) x xs all) over up i k (omega (arith, low))

-- numbers that rise and are below n, extended, rise
pub extended_up : (xs : List ℕ) (n : ℕ) → Rise number_place xs → All (λ x. x < n) xs → Rises (extended xs n)
extended_up xs n h all i k low = later_up n (n + i) (n + k) xs h all (omega arith) (omega (arith, low)) i k low

same_inside : (xs : List ℕ) (i d e : ℕ) → i < length xs → slice_index_or xs i d ≡ slice_index_or xs i e
same_inside [] i d e low = absurd (omega (arith, low))
same_inside (x ∷ xs) zero d e low = refl
same_inside (x ∷ xs) (suc i) d e low = same_inside xs i d e (omega (arith, low))

-- a member's rows are among the first m left and n right ones
abbrev pub IsWithin : ℕ → ℕ → JoinedRow → Type 0
IsWithin m n (Both i j) = (i < m) × (j < n)
IsWithin m n (LeftOnly i) = i < m
IsWithin m n (RightOnly j) = j < n

-- a member of a join of these rows stands by these numbers where it stands in the whole
module _ (lefts rights : List ℕ) (m n : ℕ) where
  pub placed_back : (order : RowOrder) (row : JoinedRow) → IsWithin (length lefts) (length rights) row
      → renumbered_place (extended lefts m) (extended rights n) (place_of order row) ≡ place_of order (member_back lefts rights row)
  placed_back order (Both i j) low = let a = same_inside lefts i (m + i) 0 low.0 in let b = same_inside rights j (n + j) 0 low.1 in λ t. Pair (a t) (b t)
  placed_back PairsFirst (LeftOnly i) low = ap LoneLeft (same_inside lefts i (m + i) 0 low)
  placed_back LeftFirst (LeftOnly i) low = ap LoneAmongPairs (same_inside lefts i (m + i) 0 low)
  placed_back order (RightOnly j) low = ap LoneRight (same_inside rights j (n + j) 0 low)

-- places that rise rise by other numbers that rise
module _ {X : Type 0} (place : X → Place) (left right : ℕ → ℕ) (left_up : Rises left) (right_up' : Rises right) where
  below_kept : (p : Place) (xs : List X) → IsBelow place p xs → IsBelow (λ x. renumbered_place left right (place x)) (renumbered_place left right p) xs
  below_kept p [] h = tt
  below_kept p (x ∷ xs) h = (order_kept left right left_up right_up' p (place x) h.0, below_kept p xs h.1)

  pub rise_kept : (xs : List X) → Rise place xs → Rise (λ x. renumbered_place left right (place x)) xs
  rise_kept [] h = tt
  rise_kept (x ∷ xs) h = (below_kept (place x) xs h.0, rise_kept xs h.1)

-- two ways to place elements that agree on a list
module _ {X : Type 0} (P : X → Type 0) (f g : X → Place) (same : (x : X) → P x → f x ≡ g x) where
  below_as : (p : Place) (xs : List X) → All P xs → IsBelow f p xs → IsBelow g p xs
  below_as p [] all h = tt
  below_as p (x ∷ xs) all h = (subst (λ q. place_order p q ≡ Less) (same x (All-head P x xs all)) h.0, below_as p xs (All-tail P x xs all) h.1)

  pub rise_as : (xs : List X) → All P xs → Rise f xs → Rise g xs
  rise_as [] all h = tt
  rise_as (x ∷ xs) all h =
      let rest = All-tail P x xs all in
      (subst (λ q. IsBelow g q xs) (same x (All-head P x xs all)) (below_as (f x) xs rest h.0), rise_as xs rest h.1)
