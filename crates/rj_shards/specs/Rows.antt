-- The rows of a joined table with their places (SQL-92, 7.5), and what its shards, each joined alone, give of them (ICDE 2013).
use Rattle.std.specs.Prelude.{◌≡◌, ℕ, ◌<◌, List, length, map, slice_index_or}
use Rattle.std.specs.List.{range_with_len}
use Rattle.rj_columns.specs.Contents.{Content}
use Rattle.rj_columns.specs.Tables.{TableValue}
use Rattle.rj_condition.specs.declared.bound.BoundJoin.{BoundJoin}
use Rattle.rj_settings.specs.declared.choice.RowOrder.{RowOrder}
use Rattle.rj_engine.specs.Cells.{columns_of, joined_cells}
use Rattle.rj_engine.specs.Chosen.{in_order}
use Rattle.rj_engine.specs.Results.{result_of}
use Rattle.rj_shards.specs.Shards.{IsLawful, left_shard, places, right_shard, rows_at}
use Rattle.rj_engine.specs.declared.joined.JoinedRow.{JoinedRow}
use Rattle.rj_engine.specs.declared.joined.JoinedRow.TheVariants.{Both, LeftOnly, RightOnly}
use Rattle.rj_shards.specs.Places.{lone_left_place}
use Rattle.rj_shards.specs.declared.merge.place.Place.{Place}
use Rattle.rj_shards.specs.declared.merge.place.Place.TheVariants.{Pair, LoneRight}
use Rattle.rj_shards.specs.declared.merge.place.Placed.{Placed}

-- where a member is in a joined table of this order: by the numbers of its rows
abbrev pub place_of : RowOrder → JoinedRow → Place
place_of order (Both i j) = Pair i j
place_of order (LeftOnly i) = lone_left_place order i
place_of order (RightOnly j) = LoneRight j

-- a member of a join of the rows at these places of two tables, with the numbers that its rows have in the tables
abbrev pub member_back : List ℕ → List ℕ → JoinedRow → JoinedRow
member_back lefts rights (Both i j) = Both (slice_index_or lefts i 0) (slice_index_or rights j 0)
member_back lefts rights (LeftOnly i) = LeftOnly (slice_index_or lefts i 0)
member_back lefts rights (RightOnly j) = RightOnly (slice_index_or rights j 0)

-- the rows of a joined table in this order: what is written of each member's cells, at the place of what `back` makes of the member
abbrev pub placed : {T : Type 0} → RowOrder → (List Content → T) → BoundJoin → TableValue → TableValue → (JoinedRow → JoinedRow) → List (Placed T)
placed order text join l r back =
    map (λ m. record { place = place_of order (back m); row = text (joined_cells l r (columns_of join r) m) }) (in_order order (length l.rows) (result_of join l r))

-- the rows of the joined table of two tables in this order, each at its place
abbrev pub placed_rows : {T : Type 0} → RowOrder → (List Content → T) → BoundJoin → TableValue → TableValue → List (Placed T)
placed_rows order text join l r = placed order text join l r (λ m. m)

-- the joined table of the rows at these places of two tables as tables of their own, each row at its place in the join of the whole
abbrev pub placed_at : {T : Type 0} → RowOrder → (List Content → T) → BoundJoin → TableValue → TableValue → List ℕ → List ℕ → List (Placed T)
placed_at order text join l r lefts rights = placed order text join (rows_at l lefts) (rows_at r rights) (member_back lefts rights)

-- what shard s gives, among this many shards by this hash
abbrev pub placed_shard : {T : Type 0} → RowOrder → (List Content → T) → (List Content → ℕ) → ℕ → BoundJoin → TableValue → TableValue → ℕ → List (Placed T)
placed_shard order text value count join l r s = placed_at order text join l r (places (left_shard value count join l) l s) (places (right_shard value count join r) r s)

-- what each shard gives, one after another
abbrev pub placed_shards : {T : Type 0} → RowOrder → (List Content → T) → (List Content → ℕ) → ℕ → BoundJoin → TableValue → TableValue → List (List (Placed T))
placed_shards order text value count join l r = map (placed_shard order text value count join l r) (range_with_len 0 count)

-- lists are what the shards of two tables give in this order, by some lawful hash and some number
-- of shards
pub record AreShards {T : Type 0} (order : RowOrder) (text : List Content → T) (join : BoundJoin) (l r : TableValue) (lists : List (List (Placed T))) : Type 0 where
  pub value : List Content → ℕ
  pub lawful : IsLawful value
  pub count : ℕ
  pub some : 0 < count
  pub are : lists ≡ placed_shards order text value count join l r
