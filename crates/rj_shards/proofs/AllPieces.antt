-- How often each member of a join stands among those of all pieces of all shards.
use Rattle.std.proofs.Common.{◌≡◌, ℕ, ◌<◌, ◌≤◌, ◌==◌, Bool, true, false, cond, List, [], length, map, refl, ap, sym, subst, ◌∙◌, arith}
use Rattle.std.specs.List.{count_by, filter, flat_map, range_with_len}
use Rattle.std.specs.List.Sorted.{IsPermutation}
use Rattle.std.proofs.lemmas.Bool.{eqb-true}
use Rattle.std.proofs.lemmas.List.Folds.{flat_map-map}
use Rattle.std.proofs.lemmas.List.Sorted.{IsPermutation-trans, sum_by-IsPermutation}
use Rattle.rj_settings.specs.declared.choice.RowOrder.{RowOrder}
use Rattle.rj_hashjoin.specs.Joining.{kept_of}
use Rattle.rj_engine.specs.Join.{JoinedValue, rows_in}
use Rattle.rj_engine.specs.declared.joined.JoinedRow.{JoinedRow}
use Rattle.rj_engine.specs.declared.joined.JoinedRow.TheVariants.{Both, LeftOnly, RightOnly}
use Rattle.rj_shards.specs.declared.merge.place.Place.TheVariants.{Pair}
use Rattle.rj_shards.specs.Rows.{place_of}
use Rattle.rj_shards.proofs.AtPlaces.{members_at}
use Rattle.rj_shards.proofs.KeptPairs.{kept_of_runs}
use Rattle.rj_shards.proofs.LoneCounts.{often, often_lone_runs, often_lone_turned}
use Rattle.rj_engine.proofs.LoneRows.{lone_of}
use Rattle.rj_shards.proofs.Needed.{AreCut, IsNeeded, is_at, left_times, lone_if_added, often_needed, pair_times, right_times, same_member}
use Rattle.rj_shards.proofs.Own.{range_all}
use Rattle.rj_shards.proofs.Rising.{kept_rise, number_place, once, pair_place, range_rises, right_up}
use Rattle.rj_shards.proofs.Together.{flat_each, flat_flat, flat_none, members_of, members_of_all}

-- what is made of each run of left rows with each run of right rows
abbrev pub of_runs : {X : Type 0} → (List ℕ → List ℕ → List X) → List (List ℕ) → List (List ℕ) → List X
of_runs f lefts rights = flat_map (λ left. flat_map (f left) rights) lefts

often_if : (adds : Bool) (i : ℕ) (xs : List ℕ) → often i (cond adds xs []) ≡ cond adds (often i xs) 0
often_if true i xs = refl
often_if false i xs = refl

numbers_once : (i k : ℕ) → often i (range_with_len 0 k) ≤ 1
numbers_once i k = once number_place (λ x. x == i) (number_place i) (λ x e. ap number_place (eqb-true x i e)) (range_with_len 0 k) (range_rises number_place right_up 0 k)

once_needed : (t : ℕ) → t ≤ 1 → IsNeeded 1 t t
once_needed t once = record { most = once; all = λ some. omega (arith, once, some); only = λ is. omega (arith, is) }

-- of lists that are given for each run of left rows with each run of right rows
pub of_each : {X Y : Type 0} (g : X → List Y) (f : List ℕ → List ℕ → X) (lefts rights : List (List ℕ))
    → flat_map g (flat_map (λ left. map (f left) rights) lefts) ≡ of_runs (λ left right. g (f left right)) lefts rights
of_each g f lefts rights = flat_flat g (λ left. map (f left) rights) lefts ∙ (λ t. flat_map (λ left. flat_map-map g (f left) rights t) lefts)

module _ (test : ℕ → ℕ → Bool) (adds adds' : Bool) where
  module _ (left right : ℕ → ℕ) (count m n : ℕ) (lefts rights : ℕ → List (List ℕ)) where
    -- the members of the joins of each run of left rows with each run of right rows, of all shards
    abbrev pub all_pieces : List JoinedValue
    all_pieces = flat_map (λ s. flat_map (λ left. map (members_at test adds adds' left) (rights s)) (lefts s)) (range_with_len 0 count)

    pub of_all : {X : Type 0} (g : JoinedValue → List X)
        → flat_map g all_pieces ≡ flat_map (λ s. of_runs (λ xs ys. g (members_at test adds adds' xs ys)) (lefts s) (rights s)) (range_with_len 0 count)
    of_all g =
        flat_flat g (λ s. flat_map (λ left. map (members_at test adds adds' left) (rights s)) (lefts s)) (range_with_len 0 count)
        ∙ (λ t. flat_map (λ s. of_each g (members_at test adds adds') (lefts s) (rights s) t) (range_with_len 0 count))

    if_added : (given : Bool) (f : List ℕ → List ℕ → List ℕ) (ss : List ℕ)
        → flat_map (λ s. of_runs (λ xs ys. cond given (f xs ys) []) (lefts s) (rights s)) ss ≡ cond given (flat_map (λ s. of_runs f (lefts s) (rights s)) ss) []
    if_added true f ss = refl
    if_added false f ss =
        let none_of : List ℕ → List ℕ → List ℕ = λ xs ys. [] in
        flat_none (λ s. of_runs none_of (lefts s) (rights s)) (λ s. flat_none (λ xs. flat_map (none_of xs) (rights s)) (λ xs. flat_none (none_of xs) (λ ys. refl) (rights s)) (lefts s)) ss

    -- the whole, and how often a member has to stand among those of all pieces
    abbrev pub whole : JoinedValue
    whole = members_at test adds adds' (range_with_len 0 m) (range_with_len 0 n)

    abbrev pub needs : JoinedRow → ℕ
    needs (Both i j) = 1
    needs (LeftOnly i) = length (rights (left i))
    needs (RightOnly j) = length (lefts (right j))

    module _ (by_left : AreCut test left right count m n lefts rights) (by_right : AreCut (λ j i. test i j) right left count n m rights lefts) (order : RowOrder)
        (pairs_all : IsPermutation (flat_map (λ s. kept_of test (filter (λ i. left i == s) (range_with_len 0 m)) (filter (λ j. right j == s) (range_with_len 0 n))) (range_with_len 0 count)) whole.pairs) where
      pairs_once : (i j : ℕ) → count_by (λ q. is_at order (Both i j) (Both q.0 q.1)) whole.pairs ≤ 1
      pairs_once i j =
          once pair_place (λ q. is_at order (Both i j) (Both q.0 q.1)) (Pair i j) (λ q e. ap (place_of order) (sym (same_member order (Both i j) (Both q.0 q.1) e))) whole.pairs
          (kept_rise test (range_with_len 0 m) (range_with_len 0 n) (range_rises number_place right_up 0 m) (range_rises number_place right_up 0 n))

      abbrev own_pairs : ℕ → List (ℕ × ℕ)
      own_pairs s = kept_of test (filter (λ i. left i == s) (range_with_len 0 m)) (filter (λ j. right j == s) (range_with_len 0 n))

      runs_pairs : (s : ℕ) → s < count → IsPermutation (of_runs (kept_of test) (lefts s) (rights s)) (own_pairs s)
      runs_pairs s low =
          subst (IsPermutation (of_runs (kept_of test) (lefts s) (rights s))) (λ t. kept_of test (sym (by_left.mine_are s low) t) (sym (by_left.others_are s low) t))
          (kept_of_runs test (lefts s) (rights s))

      pairs_same : IsPermutation (members_of all_pieces).pairs whole.pairs
      pairs_same =
          let range = range_with_len 0 count in
          let runs : ℕ → List (ℕ × ℕ) = λ s. of_runs (kept_of test) (lefts s) (rights s) in
          subst (λ ps. IsPermutation ps whole.pairs) (sym (of_all (λ v. v.pairs)))
          (IsPermutation-trans (flat_map runs range) (flat_map own_pairs range) whole.pairs
          (flat_each runs own_pairs range (range_all (λ s. IsPermutation (runs s) (own_pairs s)) 0 count (λ s from to. runs_pairs s (omega (arith, to))))) pairs_all)

      members_counted : (p : JoinedRow → Bool) → count_by p (flat_map rows_in all_pieces) ≡ count_by p (rows_in (members_of all_pieces))
      members_counted p = sym (sum_by-IsPermutation (λ x. cond (p x) 1 0) (flat_map rows_in all_pieces) (rows_in (members_of all_pieces)) (members_of_all all_pieces))

      lefts_often : (i : ℕ) → often i (members_of all_pieces).lone_left ≡ cond adds (often i (flat_map (λ s. of_runs (lone_of test) (lefts s) (rights s)) (range_with_len 0 count))) 0
      lefts_often i = ap (often i) (of_all (λ v. v.lone_left) ∙ if_added adds (lone_of test) (range_with_len 0 count)) ∙ often_if adds i _

      rights_often : (j : ℕ) → often j (members_of all_pieces).lone_right ≡ cond adds' (often j (flat_map (λ s. of_runs (λ xs ys. lone_of (λ b a. test a b) ys xs) (lefts s) (rights s)) (range_with_len 0 count))) 0
      rights_often j = ap (often j) (of_all (λ v. v.lone_right) ∙ if_added adds' (λ xs ys. lone_of (λ b a. test a b) ys xs) (range_with_len 0 count)) ∙ often_if adds' j _

      -- a member stands as often as it has to exactly where it is one of the whole
      pub member_needed : (row : JoinedRow) → IsNeeded (needs row) (count_by (is_at order row) (flat_map rows_in all_pieces)) (count_by (is_at order row) (rows_in whole))
      member_needed (Both i j) =
          let p : ℕ × ℕ → Bool = λ q. is_at order (Both i j) (Both q.0 q.1) in
          let times = members_counted (is_at order (Both i j)) ∙ (pair_times order (members_of all_pieces) i j
          ∙ sym (sum_by-IsPermutation (λ q. cond (p q) 1 0) (members_of all_pieces).pairs whole.pairs pairs_same)) in
          subst (λ t. IsNeeded 1 t (count_by (is_at order (Both i j)) (rows_in whole))) (sym times)
          (subst (IsNeeded 1 (count_by p whole.pairs)) (sym (pair_times order whole i j)) (once_needed (count_by p whole.pairs) (pairs_once i j)))
      member_needed (LeftOnly i) =
          let b = length (rights (left i)) in
          let lone = often i (lone_of test (range_with_len 0 m) (range_with_len 0 n)) in
          let pieces = often i (flat_map (λ s. of_runs (lone_of test) (lefts s) (rights s)) (range_with_len 0 count)) in
          subst (λ t. IsNeeded b t (count_by (is_at order (LeftOnly i)) (rows_in whole))) (sym (members_counted (is_at order (LeftOnly i)) ∙ (left_times order (members_of all_pieces) i ∙ lefts_often i)))
          (subst (IsNeeded b (cond adds pieces 0)) (sym (left_times order whole i ∙ often_if adds i (lone_of test (range_with_len 0 m) (range_with_len 0 n))))
          (lone_if_added adds b pieces lone (by_left.some (left i) (by_left.low i))
          (often_needed test left right count m n lefts rights by_left i (λ s. of_runs (lone_of test) (lefts s) (rights s)) (λ s. often_lone_runs test i (lefts s) (rights s)) (numbers_once i m))))
      member_needed (RightOnly j) =
          let b = length (lefts (right j)) in
          let turned : ℕ → ℕ → Bool = λ b a. test a b in
          let lone = often j (lone_of turned (range_with_len 0 n) (range_with_len 0 m)) in
          let pieces = often j (flat_map (λ s. of_runs (λ xs ys. lone_of turned ys xs) (lefts s) (rights s)) (range_with_len 0 count)) in
          subst (λ t. IsNeeded b t (count_by (is_at order (RightOnly j)) (rows_in whole))) (sym (members_counted (is_at order (RightOnly j)) ∙ (right_times order (members_of all_pieces) j ∙ rights_often j)))
          (subst (IsNeeded b (cond adds' pieces 0)) (sym (right_times order whole j ∙ often_if adds' j (lone_of turned (range_with_len 0 n) (range_with_len 0 m))))
          (lone_if_added adds' b pieces lone (by_right.some (right j) (by_right.low j))
          (often_needed turned right left count n m rights lefts by_right j (λ s. of_runs (λ xs ys. lone_of turned ys xs) (lefts s) (rights s)) (λ s. often_lone_turned turned j (rights s) (lefts s)) (numbers_once j n))))
