-- How large a decimal of a clause may be.
use Rattle.std.specs.Prelude.{◌^◌, ◌&&◌, ℕ, ℤ, nat_lt, unsigned_abs, Bool}

-- at most 18 digits, of which as many come after the point as the scale says
abbrev pub is_short : ℤ → ℕ → Bool
is_short units scale = nat_lt scale 19 && nat_lt (unsigned_abs units) (10 ^ 18)
