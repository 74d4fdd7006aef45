-- A whole row of cells that is pushed on columns, and taken back.
use Rattle.std.proofs.Common.{◌≡◌, ◌≤◌, ◌<◌, ◌+◌, ◌-◌, ℕ, zero, suc, List, [], ◌∷◌, ◌++◌, map, length, take, refl, ap, arith, ◌∙◌, add-one}
use Rattle.std.specs.Prelude.{All, slice_set, slice_index_or}
use Rattle.std.specs.List.{remove}
use Rattle.std.proofs.lemmas.List.{length-append, get_or_push}
use Rattle.std.proofs.Math.ListN.{get_or-append}
use Rattle.std.proofs.Math.Seq.{take-append_seam}
use Rattle.std.proofs.lemmas.List.Elements.{All-head, All-tail, All-cons, All-push}
use Rattle.rj_columns.specs.Contents.{Content, nothing, FitsType}
use Rattle.rj_columns.specs.Internal.Columns.{ColumnValue, row_at, rows_of, Filling, IsTyped, cut, changed, without_last, without, grown_by}
use Rattle.rj_columns.specs.Tables.{FitsTypes}
use Rattle.rj_columns.proofs.RowFacts.{grown}

-- columns that are changed one by one
pub changed-none : (f : ColumnValue → ColumnValue) (columns : List ColumnValue) → changed f 0 columns ≡ columns
unfolding changed
changed-none f columns = refl

changed-next : (f : ColumnValue → ColumnValue) (i : ℕ) (columns : List ColumnValue) (d : ColumnValue) → i < length columns
    → slice_set (changed f i columns) i (f (slice_index_or (changed f i columns) i d)) ≡ changed f (suc i) columns
unfolding changed
changed-next f i [] d h = absurd (omega arith)
changed-next f zero (c ∷ columns) d h = refl
changed-next f (suc i) (c ∷ columns) d h = ap (λ t. f c ∷ t) (changed-next f i columns d (omega arith))

pub changed-step : (f : ColumnValue → ColumnValue) (i : ℕ) (columns now : List ColumnValue) (c new : ColumnValue) → i < length columns → now ≡ changed f i columns → c ≡ slice_index_or now i c → new ≡ f c
    → slice_set now i new ≡ changed f (i + 1) columns
changed-step f i columns now c new h state at made =
    let whole : new ≡ f (slice_index_or (changed f i columns) i c) = made ∙ ap f (at ∙ ap (λ l. slice_index_or l i c) state) in
    rw (state, whole, add-one) (changed-next f i columns c h)

-- columns that get one cell each
pub length-grown_by : (xs : List Content) (columns : List ColumnValue) → length (grown_by xs columns) ≡ length columns
unfolding grown_by
length-grown_by [] columns = refl
length-grown_by (x ∷ xs) [] = refl
length-grown_by (x ∷ xs) (c ∷ columns) = ap suc (length-grown_by xs columns)

pub grown_by-kinds : (xs : List Content) (columns : List ColumnValue) → map (λ (c : ColumnValue). c.kind) (grown_by xs columns) ≡ map (λ (c : ColumnValue). c.kind) columns
unfolding grown_by
grown_by-kinds [] columns = refl
grown_by-kinds (x ∷ xs) [] = refl
grown_by-kinds (x ∷ xs) (c ∷ columns) = ap (λ t. c.kind ∷ t) (grown_by-kinds xs columns)

pub grown_by-none : (columns : List ColumnValue) → grown_by [] columns ≡ columns
unfolding grown_by
grown_by-none columns = refl

grown_by-next : (xs : List Content) (columns : List ColumnValue) (x : Content) (d : ColumnValue) → length xs < length columns
    → slice_set (grown_by xs columns) (length xs) (grown (slice_index_or (grown_by xs columns) (length xs) d) x) ≡ grown_by (xs ++ x ∷ []) columns
unfolding grown_by
grown_by-next xs [] x d h = absurd (omega arith)
grown_by-next [] (c ∷ columns) x d h = refl
grown_by-next (y ∷ xs) (c ∷ columns) x d h = ap (λ t. grown c y ∷ t) (grown_by-next xs columns x d (omega arith))

pub grown_by-step : (xs : List Content) (columns now : List ColumnValue) (x : Content) (c new : ColumnValue) (i : ℕ) → length xs ≡ i → i < length columns → now ≡ grown_by xs columns
    → c ≡ slice_index_or now i c → new ≡ grown c x → slice_set now i new ≡ grown_by (xs ++ x ∷ []) columns
grown_by-step xs columns now x c new i e h state at made =
    let whole : new ≡ grown (slice_index_or (grown_by xs columns) i c) x = made ∙ ap (λ (v : ColumnValue). grown v x) (at ∙ ap (λ l. slice_index_or l i c) state) in
    rw (state, whole, ← e) (grown_by-next xs columns x c (rw (← e) at h))

-- the cells that were pushed are taken back
without_last-one : (c : ColumnValue) (x : Content) → without_last (grown c x) ≡ c
without_last-one c x =
    let size : length (c.cells ++ x ∷ []) - 1 ≡ length c.cells = omega (arith, length-append c.cells (x ∷ [])) in
    rw (size, take-append_seam c.cells (x ∷ [])) refl

pub without_last-grown : (xs : List Content) (columns : List ColumnValue) → length xs ≤ length columns → changed without_last (length xs) (grown_by xs columns) ≡ columns
unfolding changed grown_by
without_last-grown [] columns h = refl
without_last-grown (x ∷ xs) [] h = absurd (omega arith)
without_last-grown (x ∷ xs) (c ∷ columns) h = rw (without_last-one c x, without_last-grown xs columns (omega arith)) refl

-- the cells before the ones that were pushed are dropped
removed-one : (cells : List Content) (n : ℕ) (x : Content) → length cells ≡ suc n → remove (cells ++ x ∷ []) n ≡ take n cells ++ x ∷ []
removed-one [] n x e = absurd (omega arith)
removed-one (y ∷ []) zero x e = refl
removed-one (y ∷ z ∷ cells) zero x e = absurd (omega arith)
removed-one (y ∷ cells) (suc n) x e = ap (λ t. y ∷ t) (removed-one cells n x (omega arith))

pub removed-grown : (columns : List ColumnValue) (k n : ℕ) (xs : List Content) → Filling columns k n → length xs ≡ length columns
    → changed (without n) k (grown_by xs columns) ≡ grown_by xs (cut n k columns)
unfolding Filling changed grown_by cut
removed-grown columns zero n xs h e = refl
removed-grown [] (suc k) n xs h e = absurd h
removed-grown (c ∷ columns) (suc k) n [] h e = absurd (omega arith)
removed-grown (c ∷ columns) (suc k) n (x ∷ xs) h e = rw (removed-one c.cells n x h.0, removed-grown columns k n xs h.1 (omega arith)) refl

-- columns of one length that get one cell each
pub grown_by-fills : (xs : List Content) (columns : List ColumnValue) (n : ℕ) → Filling columns 0 n → length xs ≡ length columns → Filling (grown_by xs columns) 0 (n + 1)
unfolding Filling grown_by
grown_by-fills [] [] n h e = tt
grown_by-fills [] (c ∷ columns) n h e = absurd (omega arith)
grown_by-fills (x ∷ xs) [] n h e = absurd (omega arith)
grown_by-fills (x ∷ xs) (c ∷ columns) n h e = (omega (arith, h.0, length-append c.cells (x ∷ [])), grown_by-fills xs columns n h.1 (omega arith))

grown_by-row : (xs : List Content) (columns : List ColumnValue) (n i : ℕ) → Filling columns 0 n → i < n → row_at (grown_by xs columns) i ≡ row_at columns i
unfolding Filling grown_by
grown_by-row [] columns n i h l = refl
grown_by-row (x ∷ xs) [] n i h l = refl
grown_by-row (x ∷ xs) (c ∷ columns) n i h l =
    let size : length c.cells ≡ n = h.0 in
    let low : i < length c.cells = omega arith in
    rw (get_or-append c.cells (x ∷ []) nothing i low, grown_by-row xs columns n i h.1 l) refl

grown_by-rows_to : (xs : List Content) (columns : List ColumnValue) (n m : ℕ) → Filling columns 0 n → m ≤ n → rows_of (grown_by xs columns) m ≡ rows_of columns m
unfolding rows_of
grown_by-rows_to xs columns n zero h l = refl
grown_by-rows_to xs columns n (suc m) h l = rw (grown_by-rows_to xs columns n m h (omega arith), grown_by-row xs columns n m h (omega arith)) refl

grown_by-hand : (xs : List Content) (columns : List ColumnValue) (n : ℕ) → Filling columns 0 n → length xs ≡ length columns → row_at (grown_by xs columns) n ≡ xs
unfolding Filling grown_by
grown_by-hand [] [] n h e = refl
grown_by-hand [] (c ∷ columns) n h e = absurd (omega arith)
grown_by-hand (x ∷ xs) [] n h e = absurd (omega arith)
grown_by-hand (x ∷ xs) (c ∷ columns) n h e = rw (get_or_push c.cells x nothing n h.0, grown_by-hand xs columns n h.1 (omega arith)) refl

pub grown_by-rows : (xs : List Content) (columns : List ColumnValue) (n : ℕ) → Filling columns 0 n → length xs ≡ length columns → rows_of (grown_by xs columns) (n + 1) ≡ rows_of columns n ++ xs ∷ []
unfolding rows_of
grown_by-rows xs columns n h e = rw (add-one, grown_by-rows_to xs columns n n h (omega arith), grown_by-hand xs columns n h e) refl

pub grown_by-typed : (xs : List Content) (columns : List ColumnValue) → All IsTyped columns → FitsTypes (map (λ (c : ColumnValue). c.kind) columns) xs → All IsTyped (grown_by xs columns)
unfolding FitsTypes grown_by
grown_by-typed [] columns h f = h
grown_by-typed (x ∷ xs) [] h f = h
grown_by-typed (x ∷ xs) (c ∷ columns) h f =
    All-cons IsTyped (grown c x) (grown_by xs columns) (All-push (FitsType c.kind) c.cells x (All-head IsTyped c columns h) f.0) (grown_by-typed xs columns (All-tail IsTyped c columns h) f.1)
