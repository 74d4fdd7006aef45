-- The columns of a header, one by one.
use Rattle.std.proofs.Common.{◌≡◌, ◌∙◌, ◌<◌, ◌≤◌, ◌+◌, ℕ, zero, suc, List, [], ◌∷◌, ◌++◌, length, take, get_or, refl, sym, ap, subst, arith}
use Rattle.std.proofs.lemmas.List.{length-append, length-map, take-append-le}
use Rattle.rj_csv_io.specs.Named.{Column, column_of, columns_after, columns_of, completed_names}

module _ (fields : List (List ℕ)) where
  columns-count : (done : List Column) (rest : List (List ℕ)) → length (columns_after fields done rest) ≡ length done + length rest
  unfolding columns_after
  columns-count done [] = omega arith
  columns-count done (f ∷ rest) = let more = columns-count (done ++ column_of fields done f ∷ []) rest in omega (arith, more, length-append done (column_of fields done f ∷ []))

  -- the columns that were there stay
  columns-front : (done : List Column) (rest : List (List ℕ)) → take (length done) (columns_after fields done rest) ≡ done
  unfolding columns_after
  columns-front done [] = whole done
    where
      whole : (xs : List Column) → take (length xs) xs ≡ xs
      whole [] = refl
      whole (x ∷ xs) = ap (λ t. x ∷ t) (whole xs)
  columns-front done (f ∷ rest) =
      let c = column_of fields done f in
      let next = done ++ c ∷ [] in
      let more = columns-front next rest in
      let size = length-append done (c ∷ []) in
      let all = columns-count next rest in
      let cut = shorter (length done) (length next) (columns_after fields next rest) (omega (arith, size)) in
      sym cut ∙ (ap (take (length done)) more ∙ (take-append-le (length done) done (c ∷ []) (omega arith) ∙ whole done))
    where
      whole : (xs : List Column) → take (length xs) xs ≡ xs
      whole [] = refl
      whole (x ∷ xs) = ap (λ t. x ∷ t) (whole xs)

      shorter : (n m : ℕ) (xs : List Column) → n ≤ m → take n (take m xs) ≡ take n xs
      shorter zero m xs h = refl
      shorter (suc n) zero xs h = absurd (omega arith)
      shorter (suc n) (suc m) [] h = refl
      shorter (suc n) (suc m) (x ∷ xs) h = ap (λ t. x ∷ t) (shorter n m xs (omega arith))

  -- the column at a place is made of the field there and of the columns before it
  columns-at : (done : List Column) (rest : List (List ℕ)) (k : ℕ) (c : Column) → k < length rest
      → get_or (columns_after fields done rest) (length done + k) c ≡ column_of fields (take (length done + k) (columns_after fields done rest)) (get_or rest k [])
  unfolding columns_after
  columns-at done [] k c h = absurd (omega arith)
  columns-at done (f ∷ rest) zero c h =
      let new = column_of fields done f in
      let next = done ++ new ∷ [] in
      let all = columns_after fields next rest in
      let front = columns-front next rest in
      let size = length-append done (new ∷ []) in
      let before = columns-front done (f ∷ rest) in
      let here : get_or all (length done) c ≡ new = at-front (length done) (length next) all c (omega (arith, size)) ∙ (ap (λ xs. get_or xs (length done) c) front ∙ last done new c) in
      rw (add-zero (length done)) (here ∙ ap (λ xs. column_of fields xs f) (sym before))
    where
      add-zero : (n : ℕ) → n + 0 ≡ n
      add-zero n = omega arith

      at-front : (i m : ℕ) (xs : List Column) (c : Column) → i < m → get_or xs i c ≡ get_or (take m xs) i c
      at-front i zero xs c h = absurd (omega arith)
      at-front i (suc m) [] c h = refl
      at-front zero (suc m) (x ∷ xs) c h = refl
      at-front (suc i) (suc m) (x ∷ xs) c h = at-front i m xs c (omega arith)

      last : (xs : List Column) (x c : Column) → get_or (xs ++ x ∷ []) (length xs) c ≡ x
      last [] x c = refl
      last (y ∷ xs) x c = last xs x c
  columns-at done (f ∷ rest) (suc k) c h =
      let new = column_of fields done f in
      let next = done ++ new ∷ [] in
      let size : length next + k ≡ length done + suc k = omega (arith, length-append done (new ∷ [])) in
      let more = columns-at next rest k c (omega arith) in
      rw (← size) more

  pub column-at : (i : ℕ) (c : Column) → i < length fields → get_or (columns_of fields) i c ≡ column_of fields (take i (columns_of fields)) (get_or fields i [])
  column-at i c h =
      let same : 0 + i ≡ i = omega arith in
      subst (λ (n : ℕ). get_or (columns_after fields [] fields) n c ≡ column_of fields (take n (columns_after fields [] fields)) (get_or fields i [])) same (columns-at [] fields i c h)

  pub columns-size : length (columns_of fields) ≡ length fields
  columns-size = omega (arith, columns-count [] fields)

pub names-count : (fields : List (List ℕ)) → length (completed_names fields) ≡ length fields
names-count fields = length-map (columns_of fields) (λ (c : Column). c.name) ∙ columns-size fields
