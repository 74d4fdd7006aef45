-- Decimals of a clause: at most 18 digits, as NUMERIC(18, scale) has (SQL-92, 5.3). Internal: no public contract uses it.
use Rattle.std.specs.Prelude.{◌≡◌, ℕ, ℤ, Bool, true, false, Option, Some, None, refl}
use Rattle.rj_condition.specs.Sizes.{is_short}
use Rattle.rj_condition.specs.declared.decimal.DecimalLiteral.{DecimalLiteral}

abbrev pub checked : (units : ℤ) (scale : ℕ) (b : Bool) → is_short units scale ≡ b → Option DecimalLiteral
checked units scale true h = Some record { units = units; scale = scale; short = h }
checked units scale false h = None

-- the decimal with these units and this scale, if it has no more than 18 digits
abbrev pub decimal_of : ℤ → ℕ → Option DecimalLiteral
decimal_of units scale = checked units scale (is_short units scale) refl
