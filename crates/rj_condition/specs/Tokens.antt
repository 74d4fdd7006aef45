-- The form of each token (SQL-92, 5.2 to 5.4).
use Rattle.std.specs.Prelude.{◌≡◌, ◌≢◌, ◌⊎◌, ℕ, ◌==◌, ◌||◌, ◌&&◌, ◌+◌, ◌≤◌, length, Bool, true, false, List, [], ◌∷◌, ◌++◌, codes, if◌then◌else◌, FitsSigned}
use Rattle.std.specs.Int.{w64}
use Rattle.std.specs.Char.{is_ascii_alphabetic, is_ascii_alphanumeric, is_ascii_digit}
use Rattle.std.specs.List.{list_all}
use Rattle.std.specs.Str.{str_eq_ignore_ascii_case}
use Rattle.std.specs.Str.Parse.{IsNumeral, without_leading_sign, signed_digits_value}
use Rattle.rj_condition.specs.declared.decimal.DecimalLiteral.{DecimalLiteral}
use Rattle.rj_condition.specs.declared.token.Keyword.{Keyword}
use Rattle.rj_condition.specs.declared.token.Keyword.TheVariants as keyword
use Rattle.rj_condition.specs.declared.token.Sign.{Sign}
use Rattle.rj_condition.specs.declared.token.Sign.TheVariants as sign
use Rattle.rj_condition.specs.declared.token.Token.{Token}
use Rattle.rj_condition.specs.declared.token.Token.TheVariants as token

-- a keyword in capital letters
abbrev pub spelling_of : Keyword → List ℕ
spelling_of keyword.And = codes "AND"
spelling_of keyword.Between = codes "BETWEEN"
spelling_of keyword.Cross = codes "CROSS"
spelling_of keyword.False = codes "FALSE"
spelling_of keyword.Full = codes "FULL"
spelling_of keyword.In = codes "IN"
spelling_of keyword.Inner = codes "INNER"
spelling_of keyword.Is = codes "IS"
spelling_of keyword.Join = codes "JOIN"
spelling_of keyword.Left = codes "LEFT"
spelling_of keyword.Natural = codes "NATURAL"
spelling_of keyword.Not = codes "NOT"
spelling_of keyword.Null = codes "NULL"
spelling_of keyword.On = codes "ON"
spelling_of keyword.Or = codes "OR"
spelling_of keyword.Outer = codes "OUTER"
spelling_of keyword.Right = codes "RIGHT"
spelling_of keyword.True = codes "TRUE"
spelling_of keyword.Unknown = codes "UNKNOWN"
spelling_of keyword.Using = codes "USING"

abbrev pub sign_text : Sign → List ℕ
sign_text sign.Equal = codes "="
sign_text sign.NotEqual = codes "<>"
sign_text sign.Less = codes "<"
sign_text sign.Greater = codes ">"
sign_text sign.LessOrEqual = codes "<="
sign_text sign.GreaterOrEqual = codes ">="
sign_text sign.Open = codes "("
sign_text sign.Close = codes ")"
sign_text sign.Comma = codes ","
sign_text sign.Point = codes "."

-- a sign is written as its text, and `<>` is also written `!=`
abbrev pub IsSign : Sign → List ℕ → Type 0
IsSign s w = (w ≡ sign_text s) ⊎ ((s ≡ sign.NotEqual) × (w ≡ codes "!="))

-- space, tab, LF and CR
abbrev pub is_blank : ℕ → Bool
is_blank b = b == 32 || b == 9 || b == 10 || b == 13

-- an ASCII letter, a digit or an underscore
abbrev pub is_name_byte : ℕ → Bool
is_name_byte b = is_ascii_alphanumeric b || b == 95

-- an ASCII letter, and then letters, digits and underscores
abbrev pub IsIdentifier : List ℕ → Type 0
IsIdentifier [] = ⊥
IsIdentifier (b ∷ bs) = (is_ascii_alphabetic b ≡ true) × (list_all is_name_byte bs ≡ true)

-- the word is the keyword when ASCII case is ignored
abbrev pub spells : List ℕ → Keyword → Bool
spells w k = str_eq_ignore_ascii_case w (spelling_of k)

-- a text with each quote doubled
abbrev pub doubled : ℕ → List ℕ → List ℕ
doubled q [] = []
doubled q (b ∷ bs) = if b == q then q ∷ q ∷ doubled q bs else b ∷ doubled q bs

-- a text between quotes
abbrev pub in_quotes : ℕ → List ℕ → List ℕ
in_quotes q t = q ∷ (doubled q t ++ q ∷ [])

-- a delimited name is between double quotes and is not empty; any other is an identifier and no
-- keyword
abbrev pub IsNamed : Bool → List ℕ → List ℕ → Type 0
IsNamed true t w = (w ≡ in_quotes 34 t) × (t ≢ [])
IsNamed false t w = (w ≡ t) × IsIdentifier w × ((k : Keyword) → spells w k ≡ false)

-- An optional sign, digits, a point and digits, at most 18 digits in all. The scale is the count of
-- those after the point; the units are the number that the digits write without it.
abbrev pub IsDecimal : DecimalLiteral → List ℕ → Type 0
IsDecimal d w =
    (before after : List ℕ) × (w ≡ before ++ 46 ∷ after) × IsNumeral 10 (without_leading_sign before) × IsNumeral 10 after
    × (length (without_leading_sign before) + length after ≤ 18) × (d.scale ≡ length after) × (d.units ≡ signed_digits_value 10 (before ++ after))

-- the form of a token
abbrev pub IsSpelled : Token → List ℕ → Type 0
IsSpelled (token.Keyword k) w = IsIdentifier w × (spells w k ≡ true)
IsSpelled (token.Name n) w = IsNamed n.delimited n.text w
IsSpelled (token.Integer z) w = IsNumeral 10 (without_leading_sign w) × FitsSigned w64 z × (z ≡ signed_digits_value 10 w)
IsSpelled (token.Decimal d) w = IsDecimal d w
IsSpelled (token.Text t) w = w ≡ in_quotes 39 t
IsSpelled (token.Sign s) w = IsSign s w
IsSpelled token.Unreadable w = ⊥

abbrev pub begins : (ℕ → Bool) → List ℕ → Bool
begins p [] = false
begins p (b ∷ bs) = p b

-- a point and a digit
abbrev pub begins_fraction : List ℕ → Bool
begins_fraction [] = false
begins_fraction (b ∷ bs) = b == 46 && begins is_ascii_digit bs

-- no longer sign is there
abbrev pub EndsSign : Sign → List ℕ → Type 0
EndsSign sign.Less rest = begins (λ b. b == 61 || b == 62) rest ≡ false
EndsSign sign.Greater rest = begins (λ b. b == 61) rest ≡ false
EndsSign _ rest = Unit {0}

-- Longest match: what comes after a token doesn't continue it. A number doesn't run into a letter
-- or an underscore, and an integer not into a point and a digit.
abbrev pub Ends : Token → List ℕ → Type 0
Ends (token.Keyword k) rest = begins is_name_byte rest ≡ false
Ends (token.Name n) rest = begins (if n.delimited then (λ b. b == 34) else is_name_byte) rest ≡ false
Ends (token.Integer z) rest = (begins is_name_byte rest ≡ false) × (begins_fraction rest ≡ false)
Ends (token.Decimal d) rest = begins is_name_byte rest ≡ false
Ends (token.Text t) rest = begins (λ b. b == 39) rest ≡ false
Ends (token.Sign s) rest = EndsSign s rest
Ends token.Unreadable rest = Unit {0}

-- the bytes begin with the token, and the rest comes after it
abbrev pub IsToken : List ℕ → Token → List ℕ → Type 0
IsToken bytes t rest = (w : List ℕ) × (bytes ≡ w ++ rest) × IsSpelled t w × Ends t rest
