-- Numbers from 0 on, and what is listed place by place.
use Rattle.std.proofs.Common.{◌≡◌, ◌<◌, ℕ, ◌+◌, List, ◌∷◌, ◌++◌, [], map, take, length, get_or, ap, sym, ◌∙◌, arith, map-id}
use Rattle.std.specs.List.{range_with_len}
use Rattle.std.proofs.lemmas.List.{map-append, take_more}
use Rattle.std.proofs.lemmas.List.FromFn.{map-range_with_len_more}
use Rattle.rj_command.specs.declared.join.stats.PartitionRows.{PartitionRows}

listed_more : (f : PartitionRows → ℕ) (new rows : List PartitionRows) (p : PartitionRows) (xs : List ℕ) (k : ℕ) → new ≡ rows ++ p ∷ [] → f p ≡ k → map f rows ≡ xs → map f new ≡ xs ++ k ∷ []
listed_more f new rows p xs k is value e = ap (map f) is ∙ (map-append f rows (p ∷ []) ∙ (ap (λ ys. ys ++ f p ∷ []) e ∙ ap (λ j. xs ++ j ∷ []) value))

-- the numbers below one more
numbers_more : (n : ℕ) → range_with_len 0 (n + 1) ≡ range_with_len 0 n ++ n ∷ []
numbers_more n = sym (map-id (range_with_len 0 (n + 1))) ∙ (map-range_with_len_more (λ x. x) 0 n n (omega arith) ∙ ap (λ xs. xs ++ n ∷ []) (map-id (range_with_len 0 n)))

-- one partition more has the next number
pub numbered : (f : PartitionRows → ℕ) (new rows : List PartitionRows) (p : PartitionRows) (n : ℕ) → new ≡ rows ++ p ∷ [] → f p ≡ n → map f rows ≡ range_with_len 0 n → map f new ≡ range_with_len 0 (n + 1)
numbered f new rows p n is value e = listed_more f new rows p (range_with_len 0 n) n is value e ∙ sym (numbers_more n)

-- one partition more has the next number of a list
pub counted : (f : PartitionRows → ℕ) (new rows : List PartitionRows) (p : PartitionRows) (xs : List ℕ) (n : ℕ) → n < length xs
    → new ≡ rows ++ p ∷ [] → f p ≡ get_or xs n 0 → map f rows ≡ take n xs → map f new ≡ take (n + 1) xs
counted f new rows p xs n low is value e = listed_more f new rows p (take n xs) (get_or xs n 0) is value e ∙ sym (take_more xs n 0 low)
