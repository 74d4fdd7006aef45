-- What the functions of the lexer find, on lists of bytes. Internal, but for `quoted`.
use Rattle.std.specs.Prelude.{ℕ, ℤ, pos, negsuc, ◌^◌, ◌==◌, ◌||◌, ◌+◌, ◌&&◌, not, Bool, nat_lt, List, [], ◌∷◌, ◌++◌, Option, Some, None, take, drop, length, if◌then◌else◌, true, false}
use Rattle.std.specs.Char.{is_ascii_alphabetic, is_ascii_digit}
use Rattle.std.specs.List.{prefix_len, find}
use Rattle.std.specs.Borrow.{Bor}
use Rattle.std.specs.Str.{all_ascii_digits}
use Rattle.std.specs.Str.Parse.{without_leading_sign, signed_digits_value}
use Rattle.rj_condition.specs.declared.token.Keyword.{Keyword}
use Rattle.rj_condition.specs.declared.token.Keyword.TheVariants as keyword
use Rattle.rj_condition.specs.declared.token.Sign.{Sign}
use Rattle.rj_condition.specs.declared.token.Sign.TheVariants as sign
use Rattle.rj_condition.specs.declared.token.Token.{Token}
use Rattle.rj_condition.specs.declared.token.Token.TheVariants as token
use Rattle.rj_condition.specs.Tokens.{is_name_byte, spells, begins, begins_fraction}
use Rattle.rj_condition.specs.Internal.Decimals.{decimal_of}
use Rattle.rj_condition.specs.declared.decimal.DecimalLiteral.{DecimalLiteral}

-- a value found and what comes after it
abbrev pub view : {A : Type 0} → Option (A × Bor (List ℕ)) → Option (A × List ℕ)
view (Some p) = Some (p.0, p.1.now)
view None = None

abbrev pub all_keywords : List Keyword
all_keywords =
    keyword.And ∷ keyword.Between ∷ keyword.Cross ∷ keyword.False ∷ keyword.Full ∷ keyword.In ∷ keyword.Inner ∷ keyword.Is ∷ keyword.Join ∷ keyword.Left
    ∷ keyword.Natural ∷ keyword.Not ∷ keyword.Null ∷ keyword.On ∷ keyword.Or ∷ keyword.Outer ∷ keyword.Right ∷ keyword.True
    ∷ keyword.Unknown ∷ keyword.Using ∷ []

-- the keyword that a word is
unfoldable pub keyword_of : List ℕ → Option Keyword
keyword_of w = find (spells w) all_keywords

abbrev pub named : Bool → List ℕ → Token
named delimited text = token.Name record { text = text; delimited = delimited }

abbrev pub word_or_name : Option Keyword → List ℕ → Token
word_or_name (Some k) w = token.Keyword k
word_or_name None w = named false w

abbrev pub word_at : List ℕ → Token × List ℕ
word_at bs = (word_or_name (keyword_of (take (prefix_len is_name_byte bs) bs)) (take (prefix_len is_name_byte bs) bs), drop (prefix_len is_name_byte bs) bs)

abbrev pub in_front : List ℕ → Option (List ℕ × List ℕ) → Option (List ℕ × List ℕ)
in_front found (Some p) = Some (found ++ p.0, p.1)
in_front found None = None

abbrev pub is_other : ℕ → ℕ → Bool
is_other q b = not (b == q)

-- a text after its first quote, and what comes after its last
unfoldable mutual
  pub quoted : ℕ → List ℕ → Option (List ℕ × List ℕ)
  quoted q [] = None
  quoted q (b ∷ bs) = if b == q then after_quote q bs else in_front (b ∷ []) (quoted q bs)

  pub after_quote : ℕ → List ℕ → Option (List ℕ × List ℕ)
  after_quote q [] = Some ([], [])
  after_quote q (b ∷ bs) = if b == q then in_front (q ∷ []) (quoted q bs) else Some ([], b ∷ bs)

abbrev pub text_at : Option (List ℕ × List ℕ) → Option (Token × List ℕ)
text_at (Some p) = Some (token.Text p.0, p.1)
text_at None = None

abbrev pub delimited_at : Option (List ℕ × List ℕ) → Option (Token × List ℕ)
delimited_at (Some p) = if nat_lt 0 (length p.0) then Some (named true p.0, p.1) else None
delimited_at None = None

abbrev pub is_sign_of_number : ℕ → Bool
is_sign_of_number b = b == 43 || b == 45

-- the bytes of a sign and of the digits after it
unfoldable pub number_len : List ℕ → ℕ
number_len [] = 0
number_len (b ∷ bs) = if is_sign_of_number b then 1 + prefix_len is_ascii_digit bs else prefix_len is_ascii_digit (b ∷ bs)

-- a number of 64 bits with a sign
abbrev pub fits_word : ℤ → Bool
fits_word (pos n) = nat_lt n (2 ^ 63)
fits_word (negsuc n) = nat_lt n (2 ^ 63)

-- an optional sign and one or more digits, in range
unfoldable pub is_integer : List ℕ → Bool
is_integer w = nat_lt 0 (length (without_leading_sign w)) && all_ascii_digits (without_leading_sign w) && fits_word (signed_digits_value 10 w)

-- an integer, if it is in range and does not run into a word
abbrev pub judged : List ℕ → List ℕ → Option (ℤ × List ℕ)
judged w rest = if begins is_name_byte rest then None else if is_integer w then Some (signed_digits_value 10 w, rest) else None

abbrev pub as_integer : Option (ℤ × List ℕ) → Option (Token × List ℕ)
as_integer (Some p) = Some (token.Integer p.0, p.1)
as_integer None = None

-- a decimal, of the digits before and after its point
abbrev pub decimal_parts : List ℕ → List ℕ → Option DecimalLiteral
decimal_parts before after =
    if is_integer (before ++ after) && nat_lt 0 (length (without_leading_sign before)) && nat_lt (length (without_leading_sign before) + length after) 19
    then decimal_of (signed_digits_value 10 (before ++ after)) (length after) else None

abbrev pub with_rest : {A : Type 0} → Option A → List ℕ → Option (A × List ℕ)
with_rest (Some x) rest = Some (x, rest)
with_rest None rest = None

-- what comes before a point, and a text after it
abbrev pub judged_decimal : List ℕ → List ℕ → List ℕ → Option (DecimalLiteral × List ℕ)
judged_decimal before after rest = if begins is_name_byte rest then None else with_rest (decimal_parts before after) rest

unfoldable pub fraction_at : List ℕ → List ℕ → Option (DecimalLiteral × List ℕ)
fraction_at before bs = judged_decimal before (take (prefix_len is_ascii_digit bs) bs) (drop (prefix_len is_ascii_digit bs) bs)

abbrev pub as_decimal : Option (DecimalLiteral × List ℕ) → Option (Token × List ℕ)
as_decimal (Some p) = Some (token.Decimal p.0, p.1)
as_decimal None = None

-- a number, by what comes after its first digits
abbrev pub number_behind : List ℕ → List ℕ → Option (Token × List ℕ)
number_behind w rest = if begins_fraction rest then as_decimal (fraction_at w (drop 1 rest)) else as_integer (judged w rest)

unfoldable pub number_at : List ℕ → Option (Token × List ℕ)
number_at bs = number_behind (take (number_len bs) bs) (drop (number_len bs) bs)

-- the sign that comes after `<`, and after `>`
unfoldable pub less_at : List ℕ → Sign × List ℕ
less_at [] = (sign.Less, [])
less_at (b ∷ bs) = if b == 62 then (sign.NotEqual, bs) else if b == 61 then (sign.LessOrEqual, bs) else (sign.Less, b ∷ bs)

unfoldable pub greater_at : List ℕ → Sign × List ℕ
greater_at [] = (sign.Greater, [])
greater_at (b ∷ bs) = if b == 61 then (sign.GreaterOrEqual, bs) else (sign.Greater, b ∷ bs)

-- the sign that comes after `!`: no sign is `!` alone
unfoldable pub not_equal_at : List ℕ → Option (Sign × List ℕ)
not_equal_at [] = None
not_equal_at (b ∷ bs) = if b == 61 then Some (sign.NotEqual, bs) else None

-- a sign of one byte that no longer sign begins with
unfoldable pub mark_of : ℕ → Option Sign
mark_of b =
    if b == 61 then Some sign.Equal
    else if b == 40 then Some sign.Open
    else if b == 41 then Some sign.Close
    else if b == 44 then Some sign.Comma
    else if b == 46 then Some sign.Point
    else None

abbrev pub as_mark : Option Sign → List ℕ → Option (Sign × List ℕ)
as_mark (Some s) rest = Some (s, rest)
as_mark None rest = None

-- the sign that the bytes begin with
unfoldable pub sign_at : List ℕ → Option (Sign × List ℕ)
sign_at [] = None
sign_at (b ∷ bs) =
    if b == 60 then Some (less_at bs)
    else if b == 62 then Some (greater_at bs)
    else if b == 33 then not_equal_at bs
    else as_mark (mark_of b) bs

abbrev pub as_sign : Option (Sign × List ℕ) → Option (Token × List ℕ)
as_sign (Some p) = Some (token.Sign p.0, p.1)
as_sign None = None

abbrev pub begins_number : ℕ → Bool
begins_number b = b == 43 || b == 45 || is_ascii_digit b

-- the token that the bytes begin with
unfoldable pub token_at : List ℕ → Option (Token × List ℕ)
token_at [] = None
token_at (b ∷ bs) =
    if is_ascii_alphabetic b then Some (word_at (b ∷ bs))
    else if b == 39 then text_at (quoted 39 bs)
    else if b == 34 then delimited_at (quoted 34 bs)
    else if begins_number b then number_at (b ∷ bs)
    else as_sign (sign_at (b ∷ bs))
