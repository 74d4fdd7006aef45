-- What a join of rows at some places gives: the rows of its members, in an order in which they rise.
use Rattle.std.proofs.Common.{◌≡◌, ℕ, ◌<◌, true, List, [], ◌∷◌, length, map, slice_index_or, None, refl, ap, sym, subst, ◌∙◌, All}
use Rattle.std.specs.List.Sorted.{IsPermutation}
use Rattle.std.proofs.lemmas.List.{get_or-map, length-map}
use Rattle.std.proofs.lemmas.List.Sorted.{All-permutation, IsPermutation-map, IsPermutation-refl, IsPermutation-sym}
use Rattle.rj_columns.specs.Contents.{Content, nothing}
use Rattle.rj_columns.specs.Scales.{coalesced, in_scale}
use Rattle.rj_columns.specs.Tables.{TableValue, cell_of}
use Rattle.rj_settings.specs.declared.choice.Choice.{Choice}
use Rattle.rj_settings.specs.declared.choice.RowOrder.{RowOrder}
use Rattle.rj_settings.specs.declared.choice.RowOrder.TheVariants.{LeftFirst, PairsFirst}
use Rattle.rj_condition.specs.Joins.{keeps, kind_of_join}
use Rattle.rj_condition.specs.declared.bound.BoundJoin.{BoundJoin}
use Rattle.rj_engine.specs.Cells.{coalesced_scale, columns_of, joined_cell, joined_cells, left_cell, right_cell, view_of}
use Rattle.rj_engine.specs.Chosen.{are_all_columns, are_all_rows, by_left_row, chosen_columns, chosen_view, in_order, rows_of_kinds}
use Rattle.rj_engine.specs.Join.{adds_left, adds_right, rows_in}
use Rattle.rj_engine.specs.Results.{joined_of, kept_pairs, result_of}
use Rattle.rj_shards.specs.Shards.{AreMerged, IsLawful, joined_at, joined_shard, joined_shards, left_shard, members_in, right_shard, rows_at}
use Rattle.rj_engine.specs.declared.joined.JoinedRow.{JoinedRow}
use Rattle.rj_engine.specs.declared.joined.JoinedRow.TheVariants.{Both, LeftOnly, RightOnly}
use Rattle.rj_engine.specs.declared.origin.Origin.{Origin}
use Rattle.rj_engine.specs.declared.origin.Origin.TheVariants.{Coalesced, Left, Right}
use Rattle.rj_engine.proofs.ChosenFacts.{all_columns, all_rows as all_rows_of}
use Rattle.rj_shards.specs.Wholes.{RisesFrom}
use Rattle.rj_shards.specs.declared.merge.place.Place.{Place}
use Rattle.rj_shards.specs.declared.merge.place.Place.TheVariants.{LoneAmongPairs, LoneLeft, LoneRight}
use Rattle.rj_shards.specs.declared.merge.place.Placed.{Placed}
use Rattle.rj_shards.specs.Renumbered.{Rises, renumbered_place}
use Rattle.rj_shards.specs.Rows.{member_back, place_of, placed, placed_at, placed_rows}
use Rattle.rj_shards.proofs.Together.{all_members, map_map}
use Rattle.rj_shards.proofs.Own.{Agree, AreBelow, added_below, own_as_back, pairs_below}
use Rattle.rj_shards.proofs.Extended.{IsWithin, extended, placed_back, rise_as, rise_kept}
use Rattle.rj_shards.proofs.LeftOrder.{left_rows_rise}
use Rattle.rj_shards.proofs.Rising.{Rise, added_rise, among_up, left_up, members_rise, pair_place, pairs_rise, right_up, rise_map, rises_from}

-- a cell is in the table of the rows at some places what it is in the table that they are from
cell_at : (t : TableValue) (rows : List ℕ) (i col : ℕ) → i < length rows → cell_of (rows_at t rows) i col ≡ cell_of t (slice_index_or rows i 0) col
cell_at t rows i col low = ap (λ row. slice_index_or row col nothing) (get_or-map (λ row. slice_index_or t.rows row []) rows i 0 [] low)

-- cells of two members, the one of tables of rows at some places
module _ (l r : TableValue) (lefts rights : List ℕ) (own back : JoinedRow)
    (left : (col : ℕ) → left_cell (rows_at l lefts) own col ≡ left_cell l back col) (right : (col : ℕ) → right_cell (rows_at r rights) own col ≡ right_cell r back col) where
  cell_same : (o : Origin) → joined_cell (rows_at l lefts) (rows_at r rights) own o ≡ joined_cell l r back o
  cell_same (Coalesced a b) = λ t. in_scale (coalesced_scale l r a b) (coalesced (left a t) (right b t))
  cell_same (Left a) = left a
  cell_same (Right b) = right b

  cells_same : (columns : List Origin) → joined_cells (rows_at l lefts) (rows_at r rights) columns own ≡ joined_cells l r columns back
  cells_same columns = λ t. map (λ o. cell_same o t) columns

-- the members of a join
module _ (join : BoundJoin) (l r : TableValue) where
  below : AreBelow (length l.rows) (length r.rows) (joined_of join l r)
  below = record {
    pairs = pairs_below (keeps join l r) (length l.rows) (length r.rows);
    lone_left = added_below (adds_left (kind_of_join join)) (map (λ p. p.0) (kept_pairs join l r)) (length l.rows);
    lone_right = added_below (adds_right (kind_of_join join)) (map (λ p. p.1) (kept_pairs join l r)) (length r.rows);
  }

  pub kept_rise : Rise pair_place (joined_of join l r).pairs
  kept_rise = pairs_rise (keeps join l r) (length l.rows) (length r.rows)

  pub lefts_rise : Rise (λ i. LoneLeft i) (joined_of join l r).lone_left
  lefts_rise = added_rise (λ i. LoneLeft i) left_up (adds_left (kind_of_join join)) (map (λ p. p.0) (kept_pairs join l r)) (length l.rows)

  pub among_rise : Rise (λ i. LoneAmongPairs i) (joined_of join l r).lone_left
  among_rise = added_rise (λ i. LoneAmongPairs i) among_up (adds_left (kind_of_join join)) (map (λ p. p.0) (kept_pairs join l r)) (length l.rows)

  pub rights_rise : Rise (λ j. LoneRight j) (joined_of join l r).lone_right
  rights_rise = added_rise (λ j. LoneRight j) right_up (adds_right (kind_of_join join)) (map (λ p. p.1) (kept_pairs join l r)) (length r.rows)

  -- in each order
  pub ordered_rise : (order : RowOrder) → Rise (place_of order) (in_order order (length l.rows) (result_of join l r))
  ordered_rise PairsFirst = members_rise (joined_of join l r) kept_rise lefts_rise rights_rise
  ordered_rise LeftFirst = left_rows_rise (length l.rows) (joined_of join l r) kept_rise among_rise rights_rise

-- the law that the order of the left rows has the same members
abbrev pub LeftOrder : Type 0
LeftOrder = (join : BoundJoin) (l r : TableValue) → IsPermutation (result_of join l r) (by_left_row (length l.rows) (result_of join l r))

-- so each order has them
module _ (law : LeftOrder) (join : BoundJoin) (l r : TableValue) where
  pub ordered_same : (order : RowOrder) → IsPermutation (result_of join l r) (in_order order (length l.rows) (result_of join l r))
  ordered_same PairsFirst = IsPermutation-refl (result_of join l r)
  ordered_same LeftFirst = law join l r

  ordered_within : (order : RowOrder) → All (IsWithin (length l.rows) (length r.rows)) (in_order order (length l.rows) (result_of join l r))
  ordered_within order =
      let low = below join l r in
      All-permutation (IsWithin (length l.rows) (length r.rows)) (result_of join l r) (in_order order (length l.rows) (result_of join l r)) (ordered_same order)
      (all_members (IsWithin (length l.rows) (length r.rows)) (joined_of join l r) low.pairs low.lone_left low.lone_right)

module _ {T : Type 0} (order : RowOrder) (text : List Content → T) (join : BoundJoin) (l r : TableValue) where
  -- a member's row, at its place
  abbrev pub row_of : JoinedRow → Placed T
  row_of m = record { place = place_of order m; row = text (joined_cells l r (columns_of join r) m) }

  -- a join of the rows at some places
  module _ (lefts rights : List ℕ) where
    abbrev own_row : JoinedRow → Placed T
    own_row m = record { place = place_of order (member_back lefts rights m); row = text (joined_cells (rows_at l lefts) (rows_at r rights) (columns_of join r) m) }

    same_row : (own : JoinedRow) → ((col : ℕ) → left_cell (rows_at l lefts) own col ≡ left_cell l (member_back lefts rights own) col)
        → ((col : ℕ) → right_cell (rows_at r rights) own col ≡ right_cell r (member_back lefts rights own) col) → own_row own ≡ row_of (member_back lefts rights own)
    same_row own left right =
        let cells = cells_same l r lefts rights own (member_back lefts rights own) left right (columns_of join r) in
        λ t. record { place = place_of order (member_back lefts rights own); row = text (cells t) }

    agree : Agree lefts rights own_row row_of
    agree = record {
      both = λ i j low high. same_row (Both i j) (λ col. cell_at l lefts i col low) (λ col. cell_at r rights j col high);
      left = λ i low. same_row (LeftOnly i) (λ col. cell_at l lefts i col low) (λ col. refl);
      right = λ j high. same_row (RightOnly j) (λ col. refl) (λ col. cell_at r rights j col high);
    }

    many_left : length (rows_at l lefts).rows ≡ length lefts
    many_left = length-map lefts (λ row. slice_index_or l.rows row [])

    many_right : length (rows_at r rights).rows ≡ length rights
    many_right = length-map rights (λ row. slice_index_or r.rows row [])

    -- its rows are those of its members with their row numbers mapped back
    own_back : map own_row (result_of join (rows_at l lefts) (rows_at r rights)) ≡ map row_of (rows_in (joined_at join l r lefts rights))
    own_back =
        let inner = joined_of join (rows_at l lefts) (rows_at r rights) in
        let low : AreBelow (length lefts) (length rights) inner =
        subst (λ n. AreBelow (length lefts) n inner) many_right (subst (λ m. AreBelow m (length (rows_at r rights).rows) inner) many_left (below join (rows_at l lefts) (rows_at r rights))) in
        own_as_back lefts rights own_row row_of agree inner low

    -- and it gives these in its order
    pub placed_members : LeftOrder → IsPermutation (placed_at order text join l r lefts rights) (map row_of (rows_in (joined_at join l r lefts rights)))
    placed_members law =
        let rows = result_of join (rows_at l lefts) (rows_at r rights) in
        let ordered = in_order order (length (rows_at l lefts).rows) rows in
        subst (IsPermutation (placed_at order text join l r lefts rights)) own_back
        (IsPermutation-map own_row ordered rows (IsPermutation-sym rows ordered (ordered_same law join (rows_at l lefts) (rows_at r rights) order)))

    -- where the numbers of the rows rise, so does what it gives
    pub placed_rises : LeftOrder → (m n : ℕ) → Rises (extended lefts m) → Rises (extended rights n) → RisesFrom None (placed_at order text join l r lefts rights)
    placed_rises law m n left_up right_up =
        let left = rows_at l lefts in
        let right = rows_at r rights in
        let rows = in_order order (length left.rows) (result_of join left right) in
        let within : All (IsWithin (length lefts) (length rights)) rows =
        subst (λ b. All (IsWithin (length lefts) b) rows) many_right (subst (λ a. All (IsWithin a (length right.rows)) rows) many_left (ordered_within law join left right order)) in
        let back : JoinedRow → Place = λ row. place_of order (member_back lefts rights row) in
        let moved : JoinedRow → Place = λ row. renumbered_place (extended lefts m) (extended rights n) (place_of order row) in
        let rise : Rise back rows =
        rise_as (IsWithin (length lefts) (length rights)) moved back (placed_back lefts rights m n order) rows within
        (rise_kept (place_of order) (extended lefts m) (extended rights n) left_up right_up rows (ordered_rise join left right order)) in
        rises_from (map own_row rows) (rise_map (λ (row : Placed T). row.place) own_row rows rise)

  pub whole_rises : Rise (λ (row : Placed T). row.place) (placed_rows order text join l r)
  whole_rises = rise_map (λ (row : Placed T). row.place) row_of (in_order order (length l.rows) (result_of join l r)) (ordered_rise join l r order)

-- the law that each member of a joined table is one of its shards, and that each shard has those that stand in it
abbrev pub ShardsMerge : Type 0
ShardsMerge = (value : List Content → ℕ) → IsLawful value → (count : ℕ) (join : BoundJoin) (l r : TableValue) → 0 < count → AreMerged (joined_shards value count join l r) (joined_of join l r)

abbrev pub ShardIsPart : Type 0
ShardIsPart = (value : List Content → ℕ) → IsLawful value → (count : ℕ) (join : BoundJoin) (l r : TableValue) (s : ℕ)
    → joined_shard value count join l r s ≡ members_in (left_shard value count join l) (right_shard value count join r) s (joined_of join l r)

-- rows without their places
module _ {T : Type 0} (text : List Content → T) (join : BoundJoin) (l r : TableValue) (back : JoinedRow → JoinedRow) where
  rows_shown : (order : RowOrder)
      → map (λ (p : Placed T). p.row) (placed order text join l r back) ≡ map text (map (joined_cells l r (columns_of join r)) (in_order order (length l.rows) (result_of join l r)))
  rows_shown order =
      let row : JoinedRow → Placed T = λ m. record { place = place_of order (back m); row = text (joined_cells l r (columns_of join r) m) } in
      let rows = in_order order (length l.rows) (result_of join l r) in
      map_map (λ (p : Placed T). p.row) row rows ∙ sym (map_map text (joined_cells l r (columns_of join r)) rows)

  pub shown : map (λ (p : Placed T). p.row) (placed PairsFirst text join l r back) ≡ map text (view_of join l r).cells
  shown = rows_shown PairsFirst

  pub shown_as_chosen : (choice : Choice) → are_all_rows choice.rows PairsFirst ≡ true → are_all_columns choice.columns ≡ true
      → map (λ (p : Placed T). p.row) (placed choice.order text join l r back) ≡ map text (chosen_view choice join l r).cells
  shown_as_chosen choice all columns =
      let rows : rows_of_kinds choice.rows (length l.rows) (joined_of join l r) ≡ result_of join l r = all_rows_of choice.rows PairsFirst (length l.rows) (joined_of join l r) all in
      let origins : chosen_columns choice join l r ≡ columns_of join r = all_columns choice.columns join l r columns in
      rows_shown choice.order ∙ sym (λ t. map text (map (joined_cells l r (origins t)) (in_order choice.order (length l.rows) (rows t))))
