-- The cells that are written of a joined table are of their columns' types, and can be held.
use Rattle.std.proofs.Common.{◌≡◌, ◌∙◌, ℕ, zero, suc, ℤ, ◌-◌, List, [], ◌∷◌, map, All, Bool, true, false, Option, Some, None, refl, sym, ap, subst, inl, inr, arith}
use Rattle.std.specs.Prelude.{◌≢◌, ◌⊎◌, ◌^◌, ◌<◌, if◌then◌else◌, ◌==◌, max, slice_get, slice_index_or, unsigned_abs, unwrap_or}
use Rattle.std.specs.declared.alloc.Global.{Global}
use Rattle.std.specs.declared.vec.Vec.{Vec}
use Rattle.std.proofs.Math.Nat.{le_refl, max-eq_left}
use Rattle.std.proofs.lemmas.List.Elements.{All-cons, All-head, All-nil, All-tail}
use Rattle.rj_columns.specs.Numbers.{finer}
use Rattle.rj_columns.proofs.Shifts.{finer-none}
use Rattle.rj_columns.specs.declared.cell.ColumnType.{ColumnType}
use Rattle.rj_columns.specs.declared.cell.ColumnType.TheVariants as kind
use Rattle.rj_columns.specs.Contents.{Content, FitsType, nothing, whole, decimal, word}
use Rattle.rj_columns.specs.Scales.{coalesced, in_scale}
use Rattle.rj_columns.specs.Tables.{FitsTypes, TableValue}
use Rattle.rj_csv_io.specs.RoundTrips.{IsHeld}
use Rattle.rj_engine.specs.Cells.{coalesced_scale, joined_cell, joined_cells, left_cell, right_cell, scale_of}
use Rattle.rj_engine.specs.declared.joined.JoinedRow.{JoinedRow}
use Rattle.rj_engine.specs.declared.joined.JoinedRow.TheVariants.{Both, LeftOnly, RightOnly}
use Rattle.rj_engine.specs.declared.origin.Origin.{Origin}
use Rattle.rj_engine.specs.declared.origin.Origin.TheVariants.{Coalesced, Left, Right}
use Rattle.rj_settings.specs.declared.choice.ColumnChoice.{ColumnChoice}
use Rattle.rj_settings.specs.declared.choice.ColumnChoice.TheVariants as columns
use Rattle.rj_settings.specs.declared.choice.Repeated.{Repeated}
use Rattle.rj_settings.specs.declared.choice.Repeated.TheVariants.{Kept, Qualified, Suffixed}
use Rattle.rj_settings.specs.declared.choice.SelectedColumn.{SelectedColumn}
use Rattle.rj_command.specs.ReadBack.{HasOneType, type_of_column}

-- a cell of a column that may not be there: then it is null
abbrev pub Fits_at : Option ColumnType → Content → Type 0
Fits_at None x = x ≡ nothing
Fits_at (Some t) x = FitsType t x

null-fits : (t : ColumnType) → FitsType t nothing
null-fits kind.Int = tt
null-fits (kind.Num t) = tt
null-fits kind.Text = tt

null-fits-at : (o : Option ColumnType) → Fits_at o nothing
null-fits-at None = refl
null-fits-at (Some t) = null-fits t

-- what fits there fits the type that stands for it
there : (o : Option ColumnType) (x : Content) → Fits_at o x → FitsType (unwrap_or o kind.Text) x
there None x e = subst (FitsType kind.Text) (sym e) tt
there (Some t) x h = h

row-fits : (types : List ColumnType) (row : List Content) (i : ℕ) → FitsTypes types row → Fits_at (slice_get types i) (slice_index_or row i nothing)
unfolding FitsTypes
row-fits [] [] i h = refl
row-fits [] (x ∷ row) i h = absurd h
row-fits (t ∷ types) [] i h = absurd h
row-fits (t ∷ types) (x ∷ row) zero h = h.0
row-fits (t ∷ types) (x ∷ row) (suc i) h = row-fits types row i h.1

cell-fits : (types : List ColumnType) (rows : List (List Content)) (i c : ℕ) → All (FitsTypes types) rows → Fits_at (slice_get types c) (slice_index_or (slice_index_or rows i []) c nothing)
cell-fits types [] i c h = null-fits-at (slice_get types c)
cell-fits types (row ∷ rows) zero c h = row-fits types row c (All-head (FitsTypes types) row rows h)
cell-fits types (row ∷ rows) (suc i) c h = cell-fits types rows i c (All-tail (FitsTypes types) row rows h)

first-fits : (o : Option ColumnType) (x y : Content) → Fits_at o x → Fits_at o y → Fits_at o (coalesced x y)
first-fits o nothing y h k = k
first-fits o (whole n) y h k = h
first-fits o (decimal units scale) y h k = h
first-fits o (word t) y h k = h

same-scale : (s : ℕ) → max s s ≡ s
same-scale s = max-eq_left (le_refl s)

scaled-fits : (o : Option ColumnType) (x : Content) → Fits_at o x → Fits_at o (in_scale (max (scale_of o) (scale_of o)) x)
scaled-fits o nothing h = h
scaled-fits None (whole n) h = cc
scaled-fits (Some kind.Int) (whole n) h = tt
scaled-fits (Some (kind.Num t)) (whole n) h = absurd h
scaled-fits (Some kind.Text) (whole n) h = absurd h
scaled-fits None (decimal units own) h = cc
scaled-fits (Some kind.Int) (decimal units own) h = absurd h
scaled-fits (Some (kind.Num t)) (decimal units own) h =
    let same = same-scale t.scale in
    let gap : max t.scale t.scale - own ≡ 0 = omega (arith, same, h.0) in
    let P : ℤ → Type 0 = λ u. unsigned_abs u < 10 ^ t.precision in
    (same, subst P (sym (ap (finer units) gap ∙ finer-none units)) h.1)
scaled-fits (Some kind.Text) (decimal units own) h = absurd h
scaled-fits o (word t) h = h

module _ (l r : TableValue) (left : All (FitsTypes l.types) l.rows) (right : All (FitsTypes r.types) r.rows) where
  left-fits : (row : JoinedRow) (c : ℕ) → Fits_at (slice_get l.types c) (left_cell l row c)
  left-fits (Both i j) c = cell-fits l.types l.rows i c left
  left-fits (LeftOnly i) c = cell-fits l.types l.rows i c left
  left-fits (RightOnly j) c = null-fits-at (slice_get l.types c)

  right-fits : (row : JoinedRow) (c : ℕ) → Fits_at (slice_get r.types c) (right_cell r row c)
  right-fits (Both i j) c = cell-fits r.types r.rows j c right
  right-fits (LeftOnly i) c = null-fits-at (slice_get r.types c)
  right-fits (RightOnly j) c = cell-fits r.types r.rows j c right

  column-fits : (row : JoinedRow) (o : Origin) → HasOneType l r o → FitsType (type_of_column l r o) (joined_cell l r row o)
  column-fits row (Coalesced a b) one =
      let x = left_cell l row a in
      let y = right_cell r row b in
      let kind_of = slice_get l.types a in
      let first = first-fits kind_of x y (left-fits row a) (subst (λ o. Fits_at o y) (sym one) (right-fits row b)) in
      let Scaled : Option ColumnType → Type 0 = λ o. Fits_at kind_of (in_scale (max (scale_of kind_of) (scale_of o)) (coalesced x y)) in
      there kind_of (joined_cell l r row (Coalesced a b)) (subst Scaled one (scaled-fits kind_of (coalesced x y) first))
  column-fits row (Left a) one = there (slice_get l.types a) (left_cell l row a) (left-fits row a)
  column-fits row (Right b) one = there (slice_get r.types b) (right_cell r row b) (right-fits row b)

  cells-fit : (origins : List Origin) (row : JoinedRow) → All (HasOneType l r) origins → FitsTypes (map (type_of_column l r) origins) (joined_cells l r origins row)
  unfolding FitsTypes
  cells-fit [] row one = tt
  cells-fit (o ∷ origins) row one = (column-fits row o (All-head (HasOneType l r) o origins one), cells-fit origins row (All-tail (HasOneType l r) o origins one))

  -- the rows that are written are of the columns' types
  pub rows-fit : (origins : List Origin) (rows : List JoinedRow) → All (HasOneType l r) origins → All (FitsTypes (map (type_of_column l r) origins)) (map (joined_cells l r origins) rows)
  rows-fit origins [] one = All-nil (FitsTypes (map (type_of_column l r) origins))
  rows-fit origins (row ∷ rows) one =
      All-cons (FitsTypes (map (type_of_column l r) origins)) (joined_cells l r origins row) (map (joined_cells l r origins) rows) (cells-fit origins row one) (rows-fit origins rows one)

-- ---- cells that can be held

in-row : (row : List Content) (i : ℕ) → All IsHeld row → IsHeld (slice_index_or row i nothing)
in-row [] i h = tt
in-row (x ∷ row) zero h = All-head IsHeld x row h
in-row (x ∷ row) (suc i) h = in-row row i (All-tail IsHeld x row h)

in-rows : (rows : List (List Content)) (i c : ℕ) → All (All IsHeld) rows → IsHeld (slice_index_or (slice_index_or rows i []) c nothing)
in-rows [] i c h = tt
in-rows (row ∷ rows) zero c h = in-row row c (All-head (All IsHeld) row rows h)
in-rows (row ∷ rows) (suc i) c h = in-rows rows i c (All-tail (All IsHeld) row rows h)

first-held : (x y : Content) → IsHeld x → IsHeld y → IsHeld (coalesced x y)
first-held nothing y h k = k
first-held (whole n) y h k = h
first-held (decimal units scale) y h k = h
first-held (word t) y h k = h

scaled-held : (s : ℕ) (x : Content) → IsHeld x → IsHeld (in_scale s x)
scaled-held s nothing h = tt
scaled-held s (whole n) h = go (s == 0)
  where
    go : (b : Bool) → IsHeld (if b then whole n else decimal (finer n s) s)
    go true = h
    go false = tt
scaled-held s (decimal units own) h = tt
scaled-held s (word t) h = h

module _ (l r : TableValue) (left : All (All IsHeld) l.rows) (right : All (All IsHeld) r.rows) where
  left-held : (row : JoinedRow) (c : ℕ) → IsHeld (left_cell l row c)
  left-held (Both i j) c = in-rows l.rows i c left
  left-held (LeftOnly i) c = in-rows l.rows i c left
  left-held (RightOnly j) c = tt

  right-held : (row : JoinedRow) (c : ℕ) → IsHeld (right_cell r row c)
  right-held (Both i j) c = in-rows r.rows j c right
  right-held (LeftOnly i) c = tt
  right-held (RightOnly j) c = in-rows r.rows j c right

  column-held : (row : JoinedRow) (o : Origin) → IsHeld (joined_cell l r row o)
  column-held row (Coalesced a b) =
      scaled-held (coalesced_scale l r a b) (coalesced (left_cell l row a) (right_cell r row b)) (first-held (left_cell l row a) (right_cell r row b) (left-held row a) (right-held row b))
  column-held row (Left a) = left-held row a
  column-held row (Right b) = right-held row b

  cells-held : (origins : List Origin) (row : JoinedRow) → All IsHeld (joined_cells l r origins row)
  cells-held [] row = All-nil IsHeld
  cells-held (o ∷ origins) row = All-cons IsHeld (joined_cell l r row o) (joined_cells l r origins row) (column-held row o) (cells-held origins row)

  -- and can be held
  pub rows-held : (origins : List Origin) (rows : List JoinedRow) → All (All IsHeld) (map (joined_cells l r origins) rows)
  rows-held origins [] = All-nil (All IsHeld)
  rows-held origins (row ∷ rows) = All-cons (All IsHeld) (joined_cells l r origins row) (map (joined_cells l r origins) rows) (cells-held origins row) (rows-held origins rows)

-- names are kept or renamed
pub kept_or_not : (x : Repeated) → (x ≡ Kept) ⊎ (x ≢ Kept)
kept_or_not Kept = inl refl
kept_or_not Qualified = inr (λ is. cc)
kept_or_not (Suffixed suffix) = inr (λ is. cc)

-- a list names the columns or none does
pub listed_or_not : (x : ColumnChoice) → ((entries : Vec SelectedColumn Global) × (x ≡ columns.Selected entries)) ⊎ ((entries : Vec SelectedColumn Global) → x ≢ columns.Selected entries)
listed_or_not columns.All = inr (λ entries is. cc)
listed_or_not columns.Left = inr (λ entries is. cc)
listed_or_not columns.Right = inr (λ entries is. cc)
listed_or_not (columns.Selected entries) = inl (entries, refl)
