-- The last columns that are shown, and the right rows of members.
use Rattle.std.proofs.Common.{◌≡◌, ℕ, ◌+◌, ◌-◌, ◌<◌, ◌≤◌, List, [], ◌∷◌, ◌++◌, Some, ap, ◌∙◌, arith, length, map, take, drop, get_or}
use Rattle.std.specs.Prelude.{slice_get}
use Rattle.std.proofs.lemmas.List.{get_or-drop, length-drop, map-append, take_more}
use Rattle.std.proofs.lemmas.Option.{get_or_from_slice_get}
use Rattle.rj_engine.specs.declared.joined.JoinedRow.{JoinedRow}
use Rattle.rj_engine.specs.Ends.{right_row}
use Rattle.rj_engine.specs.Shown.{rows_between}

-- the right rows of one member more
pub right-more : (none : ℕ) (rows : List JoinedRow) (from place : ℕ) (m : JoinedRow) → from ≤ place → place < length rows → slice_get rows place ≡ Some m
    → map (right_row none) (rows_between from (place + 1) rows) ≡ map (right_row none) (rows_between from place rows) ++ right_row none m ∷ []
right-more none rows from place m low inside is =
    let size = length-drop from rows in
    let here : place - from < length (drop from rows) = omega arith in
    let next : place + 1 - from ≡ place - from + 1 = omega arith in
    let back : from + (place - from) ≡ place = omega arith in
    let at : get_or (drop from rows) (place - from) m ≡ m = get_or-drop from rows (place - from) m ∙ (ap (λ k. get_or rows k m) back ∙ get_or_from_slice_get rows place m m is) in
    ap (λ n. map (right_row none) (take n (drop from rows))) next
    ∙ (ap (map (right_row none)) (take_more (drop from rows) (place - from) m here ∙ ap (λ x. take (place - from) (drop from rows) ++ x ∷ []) at)
    ∙ map-append (right_row none) (take (place - from) (drop from rows)) (m ∷ []))
