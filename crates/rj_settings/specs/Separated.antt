-- Lists of entries with commas between them.
use Rattle.std.specs.Prelude.{◌≡◌, ℕ, Option, None, Some, List, [], ◌∷◌}
use Rattle.rj_settings.specs.Words.{before}

-- a text begins with an entry of this form, and this much of it is left
abbrev pub Begins : {E : Type 0} → (E → List ℕ → Type 0) → E → List ℕ → Option (List ℕ) → Type 0
Begins IsOne e text rest = (first : List ℕ) × IsOne e first × (text ≡ before first rest)

-- the entries of what is left of a list; nothing is left after the last one
abbrev pub AreSeparated : {E : Type 0} → (E → List ℕ → Type 0) → List E → Option (List ℕ) → Type 0
AreSeparated IsOne [] None = Unit {0}
AreSeparated IsOne [] (Some text) = ⊥
AreSeparated IsOne (e ∷ es) None = ⊥
AreSeparated IsOne (e ∷ es) (Some text) = (rest : Option (List ℕ)) × Begins IsOne e text rest × AreSeparated IsOne es rest
