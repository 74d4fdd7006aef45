-- Names and types of columns, one more at a time.
use Rattle.std.proofs.Common.{◌≡◌, ◌+◌, ℕ, List, [], ◌∷◌, ◌++◌, Some, ap, ◌∙◌, take, slice_get}
use Rattle.std.proofs.lemmas.List.{append-nil, take_more}
use Rattle.std.proofs.lemmas.Option.{get_or_from_slice_get, slice_get_within}
use Rattle.csv.specs.Writing.{row_text}
use Rattle.rj_columns.specs.Contents.{Content}
use Rattle.rj_csv_io.specs.Shown.{rows_text, table_text, writer_of}
use Rattle.rj_csv_io.specs.Grammar.{comma}

pub one-more : {X : Type 0} (xs : List X) (i : ℕ) (x : X) → slice_get xs i ≡ Some x → take (i + 1) xs ≡ take i xs ++ x ∷ []
one-more xs i x h = take_more xs i x (slice_get_within xs i x h) ∙ ap (λ y. take i xs ++ y ∷ []) (get_or_from_slice_get xs i x x h)

-- a header without rows
pub header-only : (null : List ℕ) (names : List (List ℕ)) (rows : List (List Content)) (old new all : List ℕ) → rows ≡ [] → old ≡ [] → new ≡ old ++ table_text comma null names rows → all ≡ new
    → all ≡ row_text (writer_of comma) names
unfolding rows_text
header-only null names rows old new all none start got same =
    same ∙ (got ∙ (λ i. start i ++ table_text comma null names (none i)) ∙ append-nil (row_text (writer_of comma) names))
