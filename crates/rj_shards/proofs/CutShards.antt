-- What shards give, each joined whole or in pieces, is merged to the rows of the whole, and what each piece gives rises.
use Rattle.std.proofs.Common.{◌≡◌, ℕ, ◌<◌, ◌==◌, Bool, true, false, cond, List, [], ◌∷◌, length, map, None, refl, ap, sym, subst, ◌∙◌, append-nil, slice_index_or, arith, All}
use Rattle.std.specs.Cmp.{tied_itself}
use Rattle.std.specs.List.{flat_map, range_with_len}
use Rattle.std.specs.List.Sorted.{IsPermutation}
use Rattle.std.specs.Ordering.{is_eq}
use Rattle.std.proofs.lemmas.Bool.{eqb-true}
use Rattle.std.proofs.lemmas.List.Concat.{flat_map_single}
use Rattle.std.proofs.lemmas.List.Elements.{All-filter, All-map, All-nil, All-weaker, filter_passes}
use Rattle.std.proofs.lemmas.List.Folds.{flat_map-map}
use Rattle.std.proofs.lemmas.List.Sorted.{IsPermutation-map}
use Rattle.rj_columns.specs.Contents.{Content}
use Rattle.rj_columns.specs.Tables.{TableValue}
use Rattle.rj_radix.specs.Hashes.{hash_of}
use Rattle.rj_radix.specs.Keys.{key_of}
use Rattle.rj_settings.specs.declared.choice.RowOrder.{RowOrder}
use Rattle.rj_settings.specs.declared.choice.RowOrder.TheVariants.{LeftFirst, PairsFirst}
use Rattle.rj_condition.specs.Joins.{keeps, kind_of_join}
use Rattle.rj_condition.specs.Splits.{keys_of}
use Rattle.rj_condition.specs.declared.bound.BoundJoin.{BoundJoin}
use Rattle.rj_hashjoin.specs.Joining.{kept_of}
use Rattle.rj_engine.specs.Cells.{columns_of, joined_cells}
use Rattle.rj_engine.specs.Chosen.{in_order}
use Rattle.rj_engine.specs.Join.{JoinedValue, adds_left, adds_right, rows_in}
use Rattle.rj_engine.specs.Results.{result_of}
use Rattle.rj_engine.specs.declared.joined.JoinedRow.{JoinedRow}
use Rattle.rj_engine.specs.declared.joined.JoinedRow.TheVariants.{Both, LeftOnly, RightOnly}
use Rattle.rj_shards.specs.Copies.{AreAlike, AreSingle, Copied, copied, copied_rows, copy_of, needed, single}
use Rattle.rj_shards.specs.Places.{lone_left_place, place_order, place_total}
use Rattle.rj_shards.specs.Wholes.{IsMergeOf, RisesFrom}
use Rattle.rj_shards.specs.declared.merge.copies.Copies.{Copies}
use Rattle.rj_shards.specs.declared.merge.place.Placed.{Placed}
use Rattle.rj_shards.specs.Pieces.{AreCutShards, AreRuns, copies_of, placed_pieces}
use Rattle.rj_shards.specs.Renumbered.{Rises, all_renumbered, inputs_renumbered, renumbered_place}
use Rattle.rj_shards.specs.Rows.{AreShards, place_of, placed_at, placed_rows, placed_shard}
use Rattle.rj_shards.specs.Shards.{joined_at, joined_shard, joined_shards, left_shard, places, right_shard}
use Rattle.rj_shards.proofs.AllPieces.{all_pieces, member_needed, needs, of_all, of_each, of_runs, whole}
use Rattle.rj_shards.proofs.AtPlaces.{all_places_joined, at_places, members_of_places}
use Rattle.rj_shards.proofs.Extended.{extended, extended_up}
use Rattle.rj_engine.proofs.LoneRows.{lone_of}
use Rattle.rj_shards.proofs.LoneRows.{is_free}
use Rattle.rj_shards.proofs.MergedCopies.{alike, merged, needed_row}
use Rattle.rj_shards.proofs.Needed.{AreCut, same_member}
use Rattle.rj_shards.proofs.Own.{range_all}
use Rattle.rj_shards.proofs.Renumbered.{again, all_again, same_order}
use Rattle.rj_shards.proofs.Rising.{Rise, number_place, range_rises, right_up, rise_filter, rises_from, runs_rise}
use Rattle.rj_shards.proofs.ShardRows.{kept_in_one, shard_below}
use Rattle.rj_shards.proofs.Together.{All-flat_map, all_members, all_runs, flat_each, flat_flat, map_flat, map_map, map_within}
use Rattle.rj_shards.proofs.Whole.{LeftOrder, ShardsMerge, ordered_same, placed_members, placed_rises, row_of, whole_rises}

-- lists for each run with each other run, with the same elements each
each_run : {X : Type 0} (f g : List ℕ → List ℕ → List X) (P Q : List ℕ → Type 0) → ((left right : List ℕ) → P left → Q right → IsPermutation (f left right) (g left right))
    → (lefts rights : List (List ℕ)) → All P lefts → All Q rights → IsPermutation (of_runs f lefts rights) (of_runs g lefts rights)
each_run f g P Q same lefts rights h i =
    flat_each (λ left. flat_map (f left) rights) (λ left. flat_map (g left) rights) lefts
    (All-weaker P (λ left. IsPermutation (flat_map (f left) rights) (flat_map (g left) rights))
    (λ left p. flat_each (f left) (g left) rights (All-weaker Q (λ right. IsPermutation (f left right) (g left right)) (λ right q. same left right p q) rights i)) lefts h)

all_if : (P : ℕ → Type 0) (adds : Bool) (xs : List ℕ) → All P xs → All P (cond adds xs [])
all_if P true xs h = h
all_if P false xs h = All-nil P

left_needed : (copies : Copies) (order : RowOrder) (i : ℕ) → needed copies (lone_left_place order i) ≡ copies.left
left_needed copies PairsFirst i = refl
left_needed copies LeftFirst i = refl

-- the rows of a table that a shard has
module _ (shard : ℕ → ℕ) (table : TableValue) (s : ℕ) (runs : List (List ℕ)) (cut : AreRuns (places shard table s) runs) where
  own_rows : All (All (λ i. shard i ≡ s)) runs
  own_rows =
      let all = range_with_len 0 (length table.rows) in
      all_runs (λ i. shard i ≡ s) runs (subst (All (λ i. shard i ≡ s)) cut.all
      (All-weaker (λ i. (shard i == s) ≡ true) (λ i. shard i ≡ s) (λ i e. eqb-true (shard i) s e) (places shard table s) (filter_passes (λ i. shard i == s) all)))

  low_rows : All (All (λ i. i < length table.rows)) runs
  low_rows =
      let all = range_with_len 0 (length table.rows) in
      let low = range_all (λ i. i < length table.rows) 0 (length table.rows) (λ i from to. omega (arith, to)) in
      all_runs (λ i. i < length table.rows) runs (subst (All (λ i. i < length table.rows)) cut.all (All-filter (λ i. shard i == s) (λ i. i < length table.rows) all low))

  rising_rows : All (Rise number_place) runs
  rising_rows =
      let all = range_with_len 0 (length table.rows) in
      runs_rise number_place runs (subst (Rise number_place) cut.all (rise_filter number_place (λ i. shard i == s) all (range_rises number_place right_up 0 (length table.rows))))

  -- their numbers in the whole table rise
  numbered : All (λ run. Rises (extended run (length table.rows))) runs
  numbered k d low = extended_up (slice_index_or runs k d) (length table.rows) (rising_rows k d low) (low_rows k d low)

module _ {T : Type 0} (order : RowOrder) (text : List Content → T) (join : BoundJoin) (l r : TableValue) (inputs : List (Copies × List (Placed T))) (cut : AreCutShards order text join l r inputs) where
  abbrev left : ℕ → ℕ
  left i = left_shard cut.value cut.count join l i

  abbrev right : ℕ → ℕ
  right j = right_shard cut.value cut.count join r j

  abbrev adds : Bool
  adds = adds_left (kind_of_join join)

  abbrev adds' : Bool
  adds' = adds_right (kind_of_join join)

  abbrev m : ℕ
  m = length l.rows

  abbrev n : ℕ
  n = length r.rows

  left_low : (i : ℕ) → left i < cut.count
  left_low i = shard_below cut.count cut.some (hash_of cut.value (key_of l (map (λ k. k.0) (keys_of join)) i))

  right_low : (j : ℕ) → right j < cut.count
  right_low j = shard_below cut.count cut.some (hash_of cut.value (key_of r (map (λ k. k.1) (keys_of join)) j))

  by_left : AreCut (keeps join l r) left right cut.count m n cut.lefts cut.rights
  by_left = record {
    meet = kept_in_one cut.value cut.lawful cut.count join l r;
    low = left_low;
    some = λ s low. (cut.right_runs s low).some;
    mine_are = λ s low. (cut.left_runs s low).all;
    others_are = λ s low. (cut.right_runs s low).all;
  }

  by_right : AreCut (λ j i. keeps join l r i j) right left cut.count n m cut.rights cut.lefts
  by_right = record {
    meet = λ j i kept. sym (kept_in_one cut.value cut.lawful cut.count join l r i j kept);
    low = right_low;
    some = λ s low. (cut.left_runs s low).some;
    mine_are = λ s low. (cut.right_runs s low).all;
    others_are = λ s low. (cut.left_runs s low).all;
  }

  -- the members of all pieces, and how often each has to stand
  abbrev pieces : List JoinedValue
  pieces = all_pieces (keeps join l r) adds adds' left right cut.count m n cut.lefts cut.rights

  abbrev often_needed : JoinedRow → ℕ
  often_needed = needs (keeps join l r) adds adds' left right cut.count m n cut.lefts cut.rights

  abbrev text_of : JoinedRow → T
  text_of row = text (joined_cells l r (columns_of join r) row)

  abbrev row_needed : JoinedRow → Copied T
  row_needed = needed_row order text_of often_needed

  some_needed : (row : JoinedRow) → 0 < often_needed row
  some_needed (Both i j) = omega arith
  some_needed (LeftOnly i) = (cut.right_runs (left i) (left_low i)).some
  some_needed (RightOnly j) = (cut.left_runs (right j) (right_low j)).some

  -- what a piece gives is the rows of its members, each with how often it has to stand
  module _ (s : ℕ) (xs ys : List ℕ) (in_left : All (λ i. left i ≡ s) xs) (in_right : All (λ j. right j ≡ s) ys) where
    abbrev copies : Copies
    copies = copies_of (cut.lefts s) (cut.rights s)

    abbrev members : JoinedValue
    members = members_of_places join l r xs ys

    abbrev LeftSo : ℕ → Type 0
    LeftSo i = needed copies (lone_left_place order i) ≡ length (cut.rights (left i))

    abbrev RightSo : ℕ → Type 0
    RightSo j = length (cut.lefts s) ≡ length (cut.lefts (right j))

    needed_so : All (λ row. needed copies (place_of order row) ≡ often_needed row) (rows_in members)
    needed_so =
        let left_so = All-weaker (λ i. left i ≡ s) LeftSo (λ i e. left_needed copies order i ∙ ap (λ t. length (cut.rights t)) (sym e)) xs in_left in
        let right_so = All-weaker (λ j. right j ≡ s) RightSo (λ j e. ap (λ t. length (cut.lefts t)) (sym e)) ys in_right in
        all_members (λ row. needed copies (place_of order row) ≡ often_needed row) members (λ k d low. refl)
        (all_if LeftSo adds (lone_of (keeps join l r) xs ys) (All-filter (λ i. is_free (keeps join l r) i ys) LeftSo xs left_so))
        (all_if RightSo adds' (lone_of (λ j i. keeps join l r i j) ys xs) (All-filter (λ j. is_free (λ b a. keeps join l r a b) j xs) RightSo ys right_so))

    piece_same : LeftOrder → IsPermutation (copied copies (placed_at order text join l r xs ys)) (map row_needed (rows_in members))
    piece_same law =
        let given = rows_in (joined_at join l r xs ys) in
        let own : JoinedRow → Placed T = row_of order text join l r in
        let so = All-weaker (λ row. needed copies (place_of order row) ≡ often_needed row) (λ row. copy_of copies (own row) ≡ row_needed row) (λ row e. λ t. record { row = own row; needed = e t }) (rows_in members) needed_so in
        subst (IsPermutation (copied copies (placed_at order text join l r xs ys)))
        (map_map (copy_of copies) own given ∙ (ap (λ v. map (λ row. copy_of copies (own row)) (rows_in v)) (at_places join l r xs ys)
        ∙ map_within (λ row. copy_of copies (own row)) row_needed (rows_in members) so))
        (IsPermutation-map (copy_of copies) (placed_at order text join l r xs ys) (map own given) (placed_members order text join l r xs ys law))

  -- and what all pieces give is the rows of all their members
  all_same : LeftOrder → IsPermutation (copied_rows inputs) (map row_needed (flat_map rows_in pieces))
  all_same law =
      let range = range_with_len 0 cut.count in
      let own : ℕ → List (Copies × List (Placed T)) = λ s. placed_pieces order text join l r (cut.lefts s) (cut.rights s) in
      let rows : Copies × List (Placed T) → List (Copied T) = λ i. copied i.0 i.1 in
      let made : JoinedValue → List (Copied T) = λ v. map row_needed (rows_in v) in
      let given : ℕ → List (Copied T) = λ s. of_runs (λ xs ys. copied (copies_of (cut.lefts s) (cut.rights s)) (placed_at order text join l r xs ys)) (cut.lefts s) (cut.rights s) in
      let had : ℕ → List (Copied T) = λ s. of_runs (λ xs ys. made (members_of_places join l r xs ys)) (cut.lefts s) (cut.rights s) in
      let before : copied_rows inputs ≡ flat_map given range =
      ap (flat_map rows) cut.are ∙ (flat_flat rows own range
      ∙ (λ t. flat_map (λ s. of_each rows (λ xs ys. (copies_of (cut.lefts s) (cut.rights s), placed_at order text join l r xs ys)) (cut.lefts s) (cut.rights s) t) range)) in
      let after : map row_needed (flat_map rows_in pieces) ≡ flat_map had range =
      map_flat row_needed rows_in pieces ∙ of_all (keeps join l r) adds adds' left right cut.count m n cut.lefts cut.rights made in
      subst (λ given. IsPermutation given (map row_needed (flat_map rows_in pieces))) (sym before)
      (subst (IsPermutation (flat_map given range)) (sym after)
      (flat_each given had range (range_all (λ s. IsPermutation (given s) (had s)) 0 cut.count
      (λ s from to. let low : s < cut.count = omega (arith, to) in
      each_run (λ xs ys. copied (copies_of (cut.lefts s) (cut.rights s)) (placed_at order text join l r xs ys)) (λ xs ys. made (members_of_places join l r xs ys))
      (All (λ i. left i ≡ s)) (All (λ j. right j ≡ s)) (λ xs ys in_left in_right. piece_same s xs ys in_left in_right law) (cut.lefts s) (cut.rights s)
      (own_rows left l s (cut.lefts s) (cut.left_runs s low)) (own_rows right r s (cut.rights s) (cut.right_runs s low))))))

  -- the pairs of the shards are those of the whole
  shards_pairs : ShardsMerge → IsPermutation (flat_map (λ s. kept_of (keeps join l r) (places left l s) (places right r s)) (range_with_len 0 cut.count))
      (whole (keeps join l r) adds adds' left right cut.count m n cut.lefts cut.rights).pairs
  shards_pairs law =
      let range = range_with_len 0 cut.count in
      let shard = joined_shard cut.value cut.count join l r in
      let all = (law cut.value cut.lawful cut.count join l r cut.some).pairs.all in
      let given : flat_map (λ ps. ps) (map (λ v. v.pairs) (joined_shards cut.value cut.count join l r)) ≡ flat_map (λ s. kept_of (keeps join l r) (places left l s) (places right r s)) range =
      flat_map-map (λ ps. ps) (λ (v : JoinedValue). v.pairs) (map shard range) ∙ (flat_map-map (λ (v : JoinedValue). v.pairs) shard range
      ∙ (λ t. flat_map (λ s. (at_places join l r (places left l s) (places right r s) t).pairs) range)) in
      subst (λ ps. IsPermutation ps (whole (keeps join l r) adds adds' left right cut.count m n cut.lefts cut.rights).pairs) given
      (subst (IsPermutation (flat_map (λ ps. ps) (map (λ v. v.pairs) (joined_shards cut.value cut.count join l r)))) (λ t. (all_places_joined join l r t).pairs) all)

  -- rows of one place are alike, by the numbers of the tables and by others that rise
  pub cut_alike : LeftOrder → AreAlike (copied_rows inputs)
  cut_alike law =
      alike (flat_map rows_in pieces) row_needed (copied_rows inputs) (all_same law)
      (λ a b e. same_member order a b (sym (ap (λ p. is_eq (place_order (place_of order a) p)) e) ∙ ap is_eq (tied_itself place_total (place_of order a))))

  pub renumbered_alike : LeftOrder → (f g : ℕ → ℕ) → Rises f → Rises g → AreAlike (copied_rows (inputs_renumbered f g inputs))
  renumbered_alike law f g up up' =
      let again' = again f g up up' {T = T} in
      let made : JoinedRow → Copied T = λ row. again' (row_needed row) in
      let perm : IsPermutation (copied_rows (inputs_renumbered f g inputs)) (map made (flat_map rows_in pieces)) =
      subst (λ all. IsPermutation all (map made (flat_map rows_in pieces))) (sym (all_again f g up up' inputs))
      (subst (IsPermutation (map again' (copied_rows inputs))) (map_map again' row_needed (flat_map rows_in pieces))
      (IsPermutation-map again' (copied_rows inputs) (map row_needed (flat_map rows_in pieces)) (all_same law))) in
      alike (flat_map rows_in pieces) made (copied_rows (inputs_renumbered f g inputs)) perm
      (λ a b e. same_member order a b (ap is_eq (sym (same_order f g up up' (place_of order a) (place_of order b)))
      ∙ (sym (ap (λ p. is_eq (place_order (renumbered_place f g (place_of order a)) p)) e) ∙ ap is_eq (tied_itself place_total (renumbered_place f g (place_of order a))))))

  -- the merge of all is the rows of the whole
  pub cut_merged : ShardsMerge → LeftOrder → IsMergeOf (copied_rows inputs) (placed_rows order text join l r)
  cut_merged shards law =
      let all = rows_in (whole (keeps join l r) adds adds' left right cut.count m n cut.lefts cut.rights) in
      let rows = in_order order m (result_of join l r) in
      let ordered : IsPermutation all rows = subst (λ v. IsPermutation (rows_in v) rows) (all_places_joined join l r) (ordered_same law join l r order) in
      merged order text_of often_needed (flat_map rows_in pieces) (copied_rows inputs) (all_same law) all rows some_needed
      (member_needed (keeps join l r) adds adds' left right cut.count m n cut.lefts cut.rights by_left by_right order (shards_pairs shards))
      ordered (rises_from (placed_rows order text join l r) (whole_rises order text join l r))

  -- what each piece gives rises
  pub each_rises : LeftOrder → All (λ i. RisesFrom None i.1) inputs
  each_rises law =
      let own : ℕ → List (Copies × List (Placed T)) = λ s. placed_pieces order text join l r (cut.lefts s) (cut.rights s) in
      let IsRising : Copies × List (Placed T) → Type 0 = λ i. RisesFrom None i.1 in
      subst (All IsRising) (sym cut.are)
      (All-flat_map IsRising own (range_with_len 0 cut.count) (range_all (λ s. All IsRising (own s)) 0 cut.count
      (λ s from to. let low : s < cut.count = omega (arith, to) in
      let give : List ℕ → List ℕ → Copies × List (Placed T) = λ xs ys. (copies_of (cut.lefts s) (cut.rights s), placed_at order text join l r xs ys) in
      All-flat_map IsRising (λ xs. map (give xs) (cut.rights s)) (cut.lefts s)
      (All-weaker (λ xs. Rises (extended xs m)) (λ xs. All IsRising (map (give xs) (cut.rights s)))
      (λ xs up. All-map IsRising (give xs) (cut.rights s)
      (All-weaker (λ ys. Rises (extended ys n)) (λ ys. RisesFrom None (placed_at order text join l r xs ys)) (λ ys up'. placed_rises order text join l r xs ys law m n up up')
      (cut.rights s) (numbered right r s (cut.rights s) (cut.right_runs s low))))
      (cut.lefts s) (numbered left l s (cut.lefts s) (cut.left_runs s low))))))

-- shards that aren't cut: one run of left rows and one of right rows each
module _ {T : Type 0} (lists : List (List (Placed T))) where
  abbrev pub uncut : List (Copies × List (Placed T))
  uncut = map (λ rows. (single, rows)) lists

  pub uncut_single : AreSingle uncut
  uncut_single = All-map (λ (i : Copies × List (Placed T)). i.0 ≡ single) (λ rows. (single, rows)) lists (λ k d low. refl)

pub uncut_lists : {T : Type 0} (lists : List (List (Placed T))) → map (λ i. i.1) (uncut lists) ≡ lists
uncut_lists [] = refl
uncut_lists (rows ∷ lists) = ap (λ ls. rows ∷ ls) (uncut_lists lists)

-- by other numbers too
uncut_again : {T : Type 0} (left right : ℕ → ℕ) (lists : List (List (Placed T))) → inputs_renumbered left right (uncut lists) ≡ uncut (map (all_renumbered left right) lists)
uncut_again left right lists =
    map_map (λ i. (i.0, all_renumbered left right i.1)) (λ rows. (single, rows)) lists ∙ sym (map_map (λ rows. (single, rows)) (all_renumbered left right) lists)

pub uncut_renumbered : {T : Type 0} (left right : ℕ → ℕ) (lists : List (List (Placed T))) → map (λ i. i.1) (inputs_renumbered left right (uncut lists)) ≡ map (all_renumbered left right) lists
uncut_renumbered left right lists = ap (map (λ i. i.1)) (uncut_again left right lists) ∙ uncut_lists (map (all_renumbered left right) lists)

pub uncut_renumbered_single : {T : Type 0} (left right : ℕ → ℕ) (lists : List (List (Placed T))) → AreSingle (inputs_renumbered left right (uncut lists))
uncut_renumbered_single left right lists = subst AreSingle (sym (uncut_again left right lists)) (uncut_single (map (all_renumbered left right) lists))

pub cut_of_shards : {T : Type 0} (order : RowOrder) (text : List Content → T) (join : BoundJoin) (l r : TableValue) (lists : List (List (Placed T)))
    → AreShards order text join l r lists → AreCutShards order text join l r (uncut lists)
cut_of_shards {T} order text join l r lists shards =
    let xs : ℕ → List ℕ = places (left_shard shards.value shards.count join l) l in
    let ys : ℕ → List ℕ = places (right_shard shards.value shards.count join r) r in
    let give : ℕ → Copies × List (Placed T) = λ s. (single, placed_shard order text shards.value shards.count join l r s) in
    record {
      value = shards.value;
      lawful = shards.lawful;
      count = shards.count;
      some = shards.some;
      lefts = λ s. xs s ∷ [];
      rights = λ s. ys s ∷ [];
      left_runs = λ s low. record { some = omega arith; all = sym (append-nil (xs s)) };
      right_runs = λ s low. record { some = omega arith; all = sym (append-nil (ys s)) };
      are = ap uncut shards.are ∙ (map_map (λ (rows : List (Placed T)). (single, rows)) (placed_shard order text shards.value shards.count join l r) (range_with_len 0 shards.count)
          ∙ sym (flat_map_single give (range_with_len 0 shards.count)));
    }
