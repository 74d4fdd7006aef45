-- The text of a number in a scale.
use Rattle.std.specs.Prelude.{ℕ, zero, suc, ℤ, pos, negsuc, ◌+◌, ◌/◌, ◌%◌, ◌^◌, ◌==◌, if◌then◌else◌, List, [], ◌∷◌, ◌++◌}
use Rattle.std.specs.Fmt.{decimal}

-- the last digits of a number, this many
unfoldable pub last_digits : ℕ → ℕ → List ℕ
last_digits zero n = []
last_digits (suc count) n = last_digits count (n / 10) ++ (48 + n % 10) ∷ []

-- a point and the digits after it, of which there are none where the scale is 0
abbrev pub fraction_text : ℕ → ℕ → List ℕ
fraction_text scale n = if scale == 0 then [] else 46 ∷ last_digits scale n

-- the whole part without leading zeros, the point, and exactly `scale` digits after it
abbrev pub size_text : ℕ → ℕ → List ℕ
size_text scale n = decimal (n / 10 ^ scale) ++ fraction_text scale (n % 10 ^ scale)

-- the text of the number units / 10^scale: a minus sign where it is below zero, and its size
abbrev pub text_of : ℕ → ℤ → List ℕ
text_of scale (pos n) = size_text scale n
text_of scale (negsuc n) = 45 ∷ size_text scale (suc n)
