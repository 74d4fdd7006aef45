-- Decimals that fit a column's type are within the limits of a comparison, and their units are numbers of 64 bits.
use Rattle.std.proofs.Common.{◌<◌, ◌≤◌, ◌^◌, ℕ, zero, suc, ℤ, List, [], ◌∷◌, arith, lit<}
use Rattle.std.specs.Prelude.{unsigned_abs}
use Rattle.std.proofs.Math.Nat.{pow-le-pow_right}
use Rattle.rj_columns.specs.declared.decimal.numeric.NumericType.{NumericType}
use Rattle.rj_columns.specs.declared.cell.ColumnType.{ColumnType}
use Rattle.rj_columns.specs.declared.cell.ColumnType.TheVariants.{Int, Num, Text}
use Rattle.rj_columns.specs.Contents.{Content, nothing, whole, decimal, word, FitsType, IsInLimits}
use Rattle.rj_columns.specs.Tables.{FitsAt}

below_limit : (u : ℤ) (p : ℕ) → p ≤ 18 → unsigned_abs u < 10 ^ p → unsigned_abs u < 10 ^ 18
below_limit u p l h = let most : 10 ^ p ≤ 10 ^ 18 = pow-le-pow_right {n = 10} (lit< tt) l in omega (arith, most, h)

-- a decimal of a numeric type
pub decimal_limits : (t : NumericType) (units : ℤ) (scale : ℕ) → FitsType (Num t) (decimal units scale) → IsInLimits (decimal units scale)
decimal_limits t units scale f = (omega (arith, f.0, t.limits.1, t.limits.2), below_limit units t.precision t.limits.1 f.1)

pub FitsType-limits : (k : ColumnType) (x : Content) → FitsType k x → IsInLimits x
FitsType-limits k nothing f = tt
FitsType-limits k (whole n) f = tt
FitsType-limits Int (decimal units scale) f = absurd f
FitsType-limits (Num t) (decimal units scale) f = decimal_limits t units scale f
FitsType-limits Text (decimal units scale) f = absurd f
FitsType-limits k (word s) f = tt

pub FitsAt-limits : (types : List ColumnType) (i : ℕ) (x : Content) → FitsAt types i x → IsInLimits x
unfolding FitsAt
FitsAt-limits [] i x f = absurd f
FitsAt-limits (t ∷ types) zero x f = FitsType-limits t x f
FitsAt-limits (t ∷ types) (suc i) x f = FitsAt-limits types i x f
