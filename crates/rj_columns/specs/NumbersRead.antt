-- The reading of a text as a value of a numeric type.
use Rattle.std.specs.Prelude.{◌≡◌, ◌<◌, ℕ, ℤ, pos, neg_ℤ, ◌*◌, ◌-◌, ◌^◌, ◌==◌, nat_lt, Bool, true, false, ◌&&◌, if◌then◌else◌, List, [], ◌∷◌, ◌++◌, length, take, drop, Option, Some, None}
use Rattle.std.specs.Str.{all_ascii_digits}
use Rattle.rj_columns.specs.Numbers.{Number}
use Rattle.std.specs.Str.Parse.{starts_with_minus, without_leading_sign, digits_value}

-- what is before the first point, or all if there is none
abbrev pub before_point : List ℕ → List ℕ
before_point [] = []
before_point (c ∷ cs) = if c == 46 then [] else c ∷ before_point cs

-- what is after the first point, or nothing if there is none
abbrev pub after_point : List ℕ → List ℕ
after_point [] = []
after_point (c ∷ cs) = if c == 46 then cs else after_point cs

-- whether there is a point
abbrev pub has_point : List ℕ → Bool
has_point [] = false
has_point (c ∷ cs) = if c == 46 then true else has_point cs

-- digits that write a number below 10^18
abbrev pub AreSmallDigits : List ℕ → Type 0
AreSmallDigits text = (all_ascii_digits text ≡ true) × (digits_value 10 text < 10 ^ 18)

-- one or more digits
abbrev pub are_digits : List ℕ → Bool
are_digits text = nat_lt 0 (length text) && all_ascii_digits text

-- digits, and perhaps a point and digits
abbrev pub is_unsigned_text : List ℕ → Bool
is_unsigned_text text = are_digits (before_point text) && (if has_point text then are_digits (after_point text) else true)

-- zeros alone
abbrev pub are_zeros : List ℕ → Bool
are_zeros [] = true
are_zeros (c ∷ cs) = c == 48 && are_zeros cs

-- the value times 10^scale, by the digits before the point and the first `scale` after it
abbrev pub size_at : ℕ → List ℕ → List ℕ → ℕ
size_at scale before after = digits_value 10 (before ++ take scale after) * 10 ^ (scale - length after)

-- only zeros past the first `scale` digits after the point, and a value times 10^scale below 10^precision
abbrev pub fits : ℕ → ℕ → List ℕ → List ℕ → Bool
fits precision scale before after = are_zeros (drop scale after) && nat_lt (size_at scale before after) (10 ^ precision)

-- digits before and after the point, of a size that fits
abbrev pub IsSize : ℕ → ℕ → List ℕ → List ℕ → Type 0
IsSize precision scale before after = (all_ascii_digits before ≡ true) × (all_ascii_digits after ≡ true) × (fits precision scale before after ≡ true)

-- digits, and perhaps a point and digits, of a size that fits
abbrev pub IsUnsigned : ℕ → ℕ → List ℕ → Type 0
IsUnsigned precision scale text = (is_unsigned_text text ≡ true) × (fits precision scale (before_point text) (after_point text) ≡ true)

-- an optional sign, one or more digits, and perhaps a point and one or more digits, of a value that fits
abbrev pub is_numeric_text : ℕ → ℕ → List ℕ → Bool
is_numeric_text precision scale text =
    is_unsigned_text (without_leading_sign text) && fits precision scale (before_point (without_leading_sign text)) (after_point (without_leading_sign text))

-- a size with a text's sign
abbrev pub signed_size : List ℕ → ℕ → ℤ
signed_size text size = if starts_with_minus text then neg_ℤ (pos size) else pos size

-- the value that a text writes times 10^scale
abbrev pub units_in : ℕ → List ℕ → ℤ
units_in scale text = signed_size text (size_at scale (before_point (without_leading_sign text)) (after_point (without_leading_sign text)))

-- the units of a text's reading, if it is a value of the numeric type with this precision and this scale
abbrev pub numeric_of : ℕ → ℕ → List ℕ → Option ℤ
numeric_of precision scale text = if is_numeric_text precision scale text then Some (units_in scale text) else None

-- the number that a text writes: all its digits are units, and as many come after the point as the scale says
abbrev pub number_in : List ℕ → Number
number_in text = record {
  units = signed_size text (digits_value 10 (before_point (without_leading_sign text) ++ after_point (without_leading_sign text)));
  scale = length (after_point (without_leading_sign text));
}
