-- Cells of a column, and of two coalesced ones, can be given in its scale.
use Rattle.std.proofs.Common.{◌≡◌, ◌≤◌, ◌<◌, ℕ, zero, suc, List, [], ◌∷◌, Option, Some, None, sym, arith}
use Rattle.std.specs.Prelude.{max, slice_get}
use Rattle.std.proofs.Math.Nat.{le-max_left, le-max_right, max-le, max-eq_left, max-eq_right}
use Rattle.rj_columns.specs.Contents.{Content, nothing, whole, decimal, word, FitsType}
use Rattle.rj_columns.specs.Scales.{coalesced, HasScaleWithin}
use Rattle.rj_columns.specs.Tables.{TableValue, FitsAt}
use Rattle.rj_columns.specs.declared.cell.ColumnType.{ColumnType}
use Rattle.rj_columns.specs.declared.cell.ColumnType.TheVariants as kind
use Rattle.rj_columns.proofs.LimitFacts.{FitsType-limits}
use Rattle.rj_engine.specs.Cells.{scale_of, coalesced_scale, IsScaledWithin}

fits_scale : (t : ColumnType) (x : Content) → FitsType t x → HasScaleWithin (scale_of (Some t)) x
fits_scale t nothing f = tt
fits_scale t (whole n) f = tt
fits_scale kind.Int (decimal units scale) f = absurd f
fits_scale (kind.Num t) (decimal units scale) f = omega (arith, f.0)
fits_scale kind.Text (decimal units scale) f = absurd f
fits_scale t (word s) f = tt

-- a cell of a column
pub fits_scaled : (types : List ColumnType) (i : ℕ) (x : Content) → FitsAt types i x → IsScaledWithin (scale_of (slice_get types i)) x
unfolding FitsAt
fits_scaled [] i x f = absurd f
fits_scaled (t ∷ types) zero x f = (FitsType-limits t x f, fits_scale t x f)
fits_scaled (t ∷ types) (suc i) x f = fits_scaled types i x f

pub wider : (s t : ℕ) (x : Content) → s ≤ t → IsScaledWithin s x → IsScaledWithin t x
wider s t nothing l h = h
wider s t (whole n) l h = h
wider s t (decimal units scale) l h = (h.0, omega (arith, l, h.1))
wider s t (word b) l h = h

-- the first of two cells that is not null, in the greater scale
pub coalesced_scaled : (s t : ℕ) (x y : Content) → IsScaledWithin s x → IsScaledWithin t y → IsScaledWithin (max s t) (coalesced x y)
coalesced_scaled s t nothing y f g = wider t (max s t) y (le-max_right s t) g
coalesced_scaled s t (whole n) y f g = f
coalesced_scaled s t (decimal units scale) y f g = wider s (max s t) (decimal units scale) (le-max_left s t) f
coalesced_scaled s t (word b) y f g = f

small_scale : (o : Option ColumnType) → scale_of o ≤ 18
small_scale None = omega arith
small_scale (Some kind.Int) = omega arith
small_scale (Some (kind.Num t)) = omega (arith, t.limits)
small_scale (Some kind.Text) = omega arith

-- the greater scale is one of a number type
pub small_coalesced : (l r : TableValue) (a b : ℕ) → coalesced_scale l r a b ≤ 18
small_coalesced l r a b = max-le (small_scale (slice_get l.types a)) (small_scale (slice_get r.types b))

pub greater_right : (m n : ℕ) → m < n → n ≡ max m n
greater_right m n l = sym (max-eq_right (omega (arith, l)))

pub greater_left : (m n : ℕ) → n ≤ m → m ≡ max m n
greater_left m n l = sym (max-eq_left l)
