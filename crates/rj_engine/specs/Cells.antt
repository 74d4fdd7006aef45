-- The header and the cells of a joined table (SQL-92, 7.5 and 6.9).
use Rattle.std.specs.Prelude.{ℕ, ◌<◌, List, [], map, length, max, Option, None, Some, slice_get, slice_index_or}
use Rattle.rj_columns.specs.Contents.{Content, nothing, IsInLimits}
use Rattle.rj_columns.specs.Scales.{in_scale, coalesced, HasScaleWithin}
use Rattle.rj_columns.specs.Tables.{TableValue, cell_of}
use Rattle.rj_columns.specs.declared.cell.ColumnType.{ColumnType}
use Rattle.rj_columns.specs.declared.cell.ColumnType.TheVariants as kind
use Rattle.rj_condition.specs.Joins.{partners_of}
use Rattle.rj_condition.specs.declared.bound.BoundJoin.{BoundJoin}
use Rattle.rj_engine.specs.declared.joined.Members.{Members}
use Rattle.rj_engine.specs.declared.joined.JoinedRow.{JoinedRow}
use Rattle.rj_engine.specs.declared.joined.JoinedRow.TheVariants.{Both, LeftOnly, RightOnly}
use Rattle.rj_engine.specs.declared.origin.Origin.{Origin}
use Rattle.rj_engine.specs.declared.origin.Origin.TheVariants.{Coalesced, Left, Right}
use Rattle.rj_engine.specs.Origins.{origins_of}
use Rattle.rj_engine.specs.Join.{rows_in}
use Rattle.rj_engine.specs.Results.{result_of}

-- the scale of the values of a type, which is how many decimal places they have: none in a whole
-- number, and none if there is no such column
abbrev pub scale_of : Option ColumnType → ℕ
scale_of None = 0
scale_of (Some kind.Int) = 0
scale_of (Some (kind.Num t)) = t.scale
scale_of (Some kind.Text) = 0

-- the scale of a coalesced column: the greater one of the two columns
abbrev pub coalesced_scale : TableValue → TableValue → ℕ → ℕ → ℕ
coalesced_scale l r a b = max (scale_of (slice_get l.types a)) (scale_of (slice_get r.types b))

-- consecutive members, in order
abbrev pub members_rows : Members → List JoinedRow
members_rows m = rows_in (record { pairs = m.pairs.now; lone_left = m.lone_left.now; lone_right = m.lone_right.now })

-- the cell of the left row, or NULL if that is missing
abbrev pub left_cell : TableValue → JoinedRow → ℕ → Content
left_cell t (Both i j) col = cell_of t i col
left_cell t (LeftOnly i) col = cell_of t i col
left_cell t (RightOnly j) col = nothing

-- the cell of the right row, or NULL if that is missing
abbrev pub right_cell : TableValue → JoinedRow → ℕ → Content
right_cell t (Both i j) col = cell_of t j col
right_cell t (LeftOnly i) col = nothing
right_cell t (RightOnly j) col = cell_of t j col

-- the cell of a member in a column: a coalesced one is the first that is not NULL, in the greater scale
abbrev pub joined_cell : TableValue → TableValue → JoinedRow → Origin → Content
joined_cell l r row (Coalesced a b) = in_scale (coalesced_scale l r a b) (coalesced (left_cell l row a) (right_cell r row b))
joined_cell l r row (Left a) = left_cell l row a
joined_cell l r row (Right b) = right_cell r row b

-- the scale in which a column's cells are given; only a coalesced column needs it
abbrev pub shown_scale : TableValue → TableValue → Origin → ℕ
shown_scale l r (Coalesced a b) = coalesced_scale l r a b
shown_scale l r (Left a) = 0
shown_scale l r (Right b) = 0

-- the cells of one member
abbrev pub joined_cells : TableValue → TableValue → List Origin → JoinedRow → List Content
joined_cells l r origins row = map (joined_cell l r row) origins

-- a join column has the left table's name
abbrev pub name_of : TableValue → TableValue → Origin → List ℕ
name_of l r (Coalesced a b) = slice_index_or l.names a []
name_of l r (Left a) = slice_index_or l.names a []
name_of l r (Right b) = slice_index_or r.names b []

-- where the columns of a joined table come from
abbrev pub columns_of : BoundJoin → TableValue → List Origin
columns_of join r = origins_of (partners_of join) (length r.types)

-- the names of its columns
abbrev pub header_of : BoundJoin → TableValue → TableValue → List (List ℕ)
header_of join l r = map (name_of l r) (columns_of join r)

-- the rows of cells that are shown of a joined table, and how many cells each has
pub record ViewValue : Type 0 where
  pub cells : List (List Content)
  pub width : ℕ

-- the cells of the members of the joined table, in order
abbrev pub view_of : BoundJoin → TableValue → TableValue → ViewValue
view_of join l r = record {
  cells = map (joined_cells l r (columns_of join r)) (result_of join l r);
  width = length (columns_of join r);
}

-- a cell that can be given in this scale: it has no more decimal places, and is within the limits of a comparison
abbrev pub IsScaledWithin : ℕ → Content → Type 0
IsScaledWithin scale x = IsInLimits x × HasScaleWithin scale x

-- the left row exists
abbrev pub IsLeftRow : TableValue → JoinedRow → Type 0
IsLeftRow t (Both i j) = i < length t.rows
IsLeftRow t (LeftOnly i) = i < length t.rows
IsLeftRow t (RightOnly j) = Unit {0}

-- the right row exists
abbrev pub IsRightRow : TableValue → JoinedRow → Type 0
IsRightRow t (Both i j) = j < length t.rows
IsRightRow t (LeftOnly i) = Unit {0}
IsRightRow t (RightOnly j) = j < length t.rows

-- the rows of a member exist
abbrev pub IsMemberOf : TableValue → TableValue → JoinedRow → Type 0
IsMemberOf l r row = IsLeftRow l row × IsRightRow r row

-- the columns exist
abbrev pub IsColumnOf : TableValue → TableValue → Origin → Type 0
IsColumnOf l r (Coalesced a b) = (a < length l.types) × (b < length r.types)
IsColumnOf l r (Left a) = a < length l.types
IsColumnOf l r (Right b) = b < length r.types
