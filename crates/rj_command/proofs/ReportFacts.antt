-- The lines of a report, cell by cell.
use Rattle.std.proofs.Common.{◌≡◌, ◌∙◌, ℕ, ◌+◌, ◌<◌, List, [], ◌∷◌, ◌++◌, length, take, get_or, ap, sym, append_assoc, append-nil}
use Rattle.std.specs.List.{flat_map}
use Rattle.std.proofs.lemmas.Grind.{flat_map-append}
use Rattle.std.proofs.lemmas.List.{take_more}
use Rattle.rj_columns.specs.Tables.{TableValue}
use Rattle.rj_command.specs.Reported.{cell_part}

-- one more column
pub cells-more : (t : TableValue) (row : ℕ) (columns : List ℕ) (i : ℕ) (base before after part : List ℕ) → i < length columns
    → before ≡ base ++ flat_map (λ c. cell_part t row c) (take i columns) → after ≡ before ++ part → part ≡ cell_part t row (get_or columns i 0)
    → after ≡ base ++ flat_map (λ c. cell_part t row c) (take (i + 1) columns)
cells-more t row columns i base before after part low is more told =
    let f : ℕ → List ℕ = λ c. cell_part t row c in
    let last = get_or columns i 0 in
    let whole : flat_map f (take (i + 1) columns) ≡ flat_map f (take i columns) ++ f last =
    ap (flat_map f) (take_more columns i 0 low) ∙ (flat_map-append f (take i columns) (last ∷ []) ∙ ap (λ xs. flat_map f (take i columns) ++ xs) (append-nil (f last))) in
    more ∙ (ap (λ xs. xs ++ part) is ∙ (append_assoc base (flat_map f (take i columns)) part
    ∙ (ap (λ xs. base ++ (flat_map f (take i columns) ++ xs)) told ∙ ap (λ xs. base ++ xs) (sym whole))))
