-- Cells in a scale, and the first of two that is not NULL.
use Rattle.std.specs.Prelude.{ℕ, ◌-◌, ◌≤◌, ◌==◌, if◌then◌else◌}
use Rattle.rj_columns.specs.Numbers.{finer}
use Rattle.rj_columns.specs.Contents.{Content, nothing, whole, decimal, word}

-- the same number with this many digits after the point; a whole number stays one if there are none
abbrev pub in_scale : ℕ → Content → Content
in_scale scale nothing = nothing
in_scale scale (whole n) = if scale == 0 then whole n else decimal (finer n scale) scale
in_scale scale (decimal units own) = decimal (finer units (scale - own)) scale
in_scale scale (word s) = word s

-- a decimal has at most this many digits after the point
abbrev pub HasScaleWithin : ℕ → Content → Type 0
HasScaleWithin scale nothing = Unit {0}
HasScaleWithin scale (whole n) = Unit {0}
HasScaleWithin scale (decimal units own) = own ≤ scale
HasScaleWithin scale (word s) = Unit {0}

-- the first cell, or the second if the first is NULL (SQL-92 6.9, COALESCE)
abbrev pub coalesced : Content → Content → Content
coalesced nothing y = y
coalesced (whole n) y = whole n
coalesced (decimal units scale) y = decimal units scale
coalesced (word s) y = word s
