-- What comes before a type in a list: nothing, a name or `*`, and then `=`.
use Rattle.std.specs.Prelude.{◌≡◌, ◌≢◌, ℕ, Bool, true, false, ◌&&◌, not, List, [], ◌∷◌, ◌++◌, codes}
use Rattle.std.specs.Char.{is_ascii_digit}
use Rattle.std.specs.List.{list_all}
use Rattle.rj_condition.specs.Tokens.{in_quotes, is_name_byte}
use Rattle.rj_settings.specs.declared.types.entry.Label.{Label}
use Rattle.rj_settings.specs.declared.types.entry.Label.TheVariants.{Place, Name, Rest, Shared}

-- letters, digits and underscores, the first not a digit: an identifier of a clause, or one that
-- begins with an underscore, since nothing else could be there
abbrev pub is_regular : List ℕ → Bool
is_regular [] = false
is_regular (b ∷ bs) = not (is_ascii_digit b) && list_all is_name_byte (b ∷ bs)

-- a delimited name is between double quotes, with each quote in it doubled, and is not empty; any
-- other is regular
abbrev pub IsNameWord : Bool → List ℕ → List ℕ → Type 0
IsNameWord true name word = (word ≡ in_quotes 34 name) × (name ≢ [])
IsNameWord false name word = (word ≡ name) × (is_regular name ≡ true)

-- what comes before the type; that it is of a list for both tables isn't written
abbrev pub IsLabelText : Label → List ℕ → Type 0
IsLabelText Place text = text ≡ []
IsLabelText (Name n) text = (word : List ℕ) × IsNameWord n.delimited n.text word × (text ≡ word ++ codes "=")
IsLabelText (Shared n) text = ⊥
IsLabelText Rest text = text ≡ codes "*="
