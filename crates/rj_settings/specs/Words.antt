-- The words of types, and what comes after a word of a list.
use Rattle.std.specs.Prelude.{◌≡◌, ◌⊎◌, ◌==◌, not, Bool, ℕ, Option, None, Some, List, ◌∷◌, ◌++◌, codes}
use Rattle.std.specs.Borrow.{Bor}
use Rattle.std.specs.Fmt.{decimal}
use Rattle.std.specs.List.{list_all}
use Rattle.rj_columns.specs.declared.cell.ColumnType.{ColumnType}
use Rattle.rj_columns.specs.declared.cell.ColumnType.TheVariants as kind

-- what comes before the comma of a numeric type's word
abbrev pub begin_word : ℕ → List ℕ
begin_word precision = codes "num(" ++ decimal precision

-- what comes after it
abbrev pub end_word : ℕ → List ℕ
end_word scale = decimal scale ++ codes ")"

-- a numeric type's other word, which a shell takes without quotes
abbrev pub colon_word : ℕ → ℕ → List ℕ
colon_word precision scale = codes "num:" ++ (decimal precision ++ 58 ∷ decimal scale)

-- a word of a type: `int`, `num(9,2)` or `num:9:2`, `text`
abbrev pub IsTypeWord : ColumnType → List ℕ → Type 0
IsTypeWord kind.Int word = word ≡ codes "int"
IsTypeWord (kind.Num t) word = (word ≡ begin_word t.precision ++ 44 ∷ end_word t.scale) ⊎ (word ≡ colon_word t.precision t.scale)
IsTypeWord kind.Text word = word ≡ codes "text"

-- a text, and after a comma what is left of the list, if anything is
abbrev pub before : List ℕ → Option (List ℕ) → List ℕ
before first None = first
before first (Some rest) = first ++ 44 ∷ rest

-- what an optional text is
abbrev pub text_of : Option (Bor (List ℕ)) → Option (List ℕ)
text_of None = None
text_of (Some text) = Some text.now

-- no comma is among the bytes
abbrev pub has_no_comma : List ℕ → Bool
has_no_comma text = list_all (λ b. not (b == 44)) text

-- a list begins with the word of this type, and this much of it is left
abbrev pub BeginsType : ColumnType → List ℕ → Option (List ℕ) → Type 0
BeginsType t text rest = (word : List ℕ) × IsTypeWord t word × (text ≡ before word rest)
