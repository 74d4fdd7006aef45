-- The nearest name, name by name.
use Rattle.std.proofs.Common.{◌≡◌, ◌+◌, ◌<◌, ◌≤◌, List, ℕ, Option, None, Some}
use Rattle.std.specs.Prelude.{slice_get}
use Rattle.rj_explain.specs.Names.{AreEdits, AreFar, lowered, most_edits}

-- what is known of the name that was found among the first ones
abbrev pub IsFound : List ℕ → List (List ℕ) → ℕ → ℕ → Option (List ℕ) → Type 0
IsFound wanted names end least None = least ≡ most_edits wanted + 1
IsFound wanted names end least (Some name) =
    (at : ℕ) × (at < end) × (slice_get names at ≡ Some name) × AreEdits (lowered wanted) (lowered name) least × (least ≤ most_edits wanted)
    × AreFar wanted names at (least + 1)
