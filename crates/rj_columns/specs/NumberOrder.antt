-- How two numbers compare, exactly: m / 10^s compares to n / 10^t as m * 10^t does to n * 10^s.
use Rattle.std.specs.Prelude.{Bool}
use Rattle.std.specs.declared.cmp.Ordering.{Ordering}
use Rattle.std.specs.Ordering.{int_cmp, int_eq}
use Rattle.rj_columns.specs.Numbers.{Number, finer}

-- the order of two numbers
unfoldable pub ordered : Number → Number → Ordering
ordered x y = int_cmp (finer x.units y.scale) (finer y.units x.scale)

-- whether two numbers are one value
unfoldable pub are_same : Number → Number → Bool
are_same x y = int_eq (finer x.units y.scale) (finer y.units x.scale)
