-- Rows in parts that follow each other, and the texts of the parts. Internal: no public contract uses it.
use Rattle.std.specs.Prelude.{ℕ, ◌≡◌, ◌<◌, ◌+◌, ◌*◌, ◌/◌, ◌%◌, min, map, List, length, slice_index_or, Result, Ok, Err}
use Rattle.std.specs.List.{concat}
use Rattle.std.specs.declared.alloc.Global.{Global}
use Rattle.std.specs.declared.vec.Vec.{Vec}
use Rattle.rj_columns.specs.Contents.{Content}
use Rattle.rj_csv_io.specs.Shown.{range_text}

-- the first row of a part, where the first parts have one row more than the others
abbrev pub part_start : ℕ → ℕ → ℕ → ℕ
part_start rows parts part = rows / parts * part + min part (rows % parts)

-- the text of a part of the rows, in texts that follow each other, if there is one
abbrev pub IsPartText : {E : Type 0} → ℕ → List ℕ → List (List Content) → ℕ → ℕ → Result (Vec (Vec ℕ Global) Global) E → Type 0
IsPartText d null rows parts part (Ok v) =
    concat (map (λ (t : Vec ℕ Global). t.items) v.items)
    ≡ range_text d null rows (part_start (length rows) parts part) (part_start (length rows) parts (part + 1))
IsPartText d null rows parts part (Err e) = Unit {0}

-- the texts of this many parts, in order; after the last part there are no rows
abbrev pub ArePartTexts : {E : Type 0} → ℕ → List ℕ → List (List Content) → ℕ → List (Result (Vec (Vec ℕ Global) Global) E) → Type 0
ArePartTexts {E} d null rows parts texts =
    (i : ℕ) (r : Result (Vec (Vec ℕ Global) Global) E) → i < length texts → IsPartText d null rows parts i (slice_index_or texts i r)
