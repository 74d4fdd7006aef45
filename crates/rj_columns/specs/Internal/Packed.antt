-- Texts one after another in a buffer of bytes, by the places where they end. Internal: no public
-- contract uses it.
use Rattle.std.specs.Prelude.{ℕ, zero, suc, ◌≡◌, ◌+◌, ◌≤◌, List, [], ◌∷◌, Bool, length, All, slice_range, IsUtf8}
use Rattle.std.specs.List.{concat}
use Rattle.rj_columns.specs.declared.ends.Places.{Places}
use Rattle.rj_columns.specs.declared.ends.Places.TheVariants.{Narrow, Wide}

-- the ends, whatever their width
abbrev pub ends_in : Places → List ℕ
ends_in (Narrow v) = v.items
ends_in (Wide v) = v.items

-- where a text starts: where the one before it ends
abbrev pub start_at : ℕ → List ℕ → ℕ → ℕ
start_at first ends zero = first
start_at first [] (suc i) = first
start_at first (e ∷ ends) (suc i) = start_at e ends i

-- the texts from a place on
unfoldable pub texts_from : ℕ → List ℕ → List ℕ → List (List ℕ)
texts_from start bytes [] = []
texts_from start bytes (e ∷ ends) = slice_range bytes start e ∷ texts_from e bytes ends

-- where texts end that are one after another from a place on
unfoldable pub ends_from : ℕ → List (List ℕ) → List ℕ
ends_from start [] = []
ends_from start (t ∷ texts) = (start + length t) ∷ ends_from (start + length t) texts

-- a buffer that has these texts, one after another, and nothing else
pub record Packs (buffer places : List ℕ) (texts : List (List ℕ)) : Type 0 where
  pub bytes : buffer ≡ concat texts
  pub ends : places ≡ ends_from 0 texts
  pub utf8 : All IsUtf8 texts

-- texts in a buffer, and no more marks of NULLs than there are texts
pub record ArePacked (buffer places : List ℕ) (marks : List Bool) : Type 0 where
  pub texts : Packs buffer places (texts_from 0 buffer places)
  pub nulls : length marks ≤ length places
