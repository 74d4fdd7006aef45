-- The least form of a number: the same value in its least scale. Hashes are taken of it.
use Rattle.std.specs.Prelude.{◌≡◌, Bool, false, ◌<◌, ◌+◌, ◌*◌, ◌%◌, ◌^◌, ◌==◌, ℕ, zero, suc, ℤ, pos, if◌then◌else◌}
use Rattle.std.specs.Ordering.{int_eq}
use Rattle.std.specs.Int.{cast_unsigned, w64}
use Rattle.std.specs.Int.RustNames.{int_div, int_rem}
use Rattle.rj_columns.specs.Numbers.{Number}

-- whether the units end with a zero
abbrev pub ends_with_zero : ℤ → Bool
ends_with_zero units = int_eq (int_rem units (pos 10)) (pos 0)

-- the units without the trailing zeros, as far as these are after the point
unfoldable pub without_zeros : ℤ → ℕ → Number
without_zeros units zero = record { units = units; scale = 0 }
without_zeros units (suc scale) = if ends_with_zero units then without_zeros (int_div units (pos 10)) scale else record { units = units; scale = suc scale }

-- the number in its least scale
abbrev pub least_of : Number → Number
least_of x = without_zeros x.units x.scale

-- no zero ends the digits after the point
abbrev pub IsLeast : Number → Type 0
IsLeast x = 0 < x.scale → ends_with_zero x.units ≡ false

-- the units modulo 2^64 if the least scale is 0, else those times 31 plus the scale, modulo 2^64
abbrev pub hash_of_least : Number → ℕ
hash_of_least x = if x.scale == 0 then cast_unsigned w64 x.units else (cast_unsigned w64 x.units * 31 + x.scale) % 2 ^ 64

-- the hash of a number, which is that of its least form
abbrev pub hash_of : Number → ℕ
hash_of x = hash_of_least (least_of x)
