-- The rows of records in parts.
use Rattle.std.proofs.Common.{◌≡◌, ◌<◌, ◌≤◌, ◌+◌, ◌-◌, ◌^◌, ℕ, List, [], ◌∷◌, ◌++◌, length, true, false, Bool}
use Rattle.std.proofs.Common.{Option, Some, None, Result, Ok, Err, refl, sym, ap, ◌∙◌, arith, append_assoc}
use Rattle.std.specs.Prelude.{if◌then◌else◌, nat_le, ◌==◌}
use Rattle.std.proofs.lemmas.Bool.{le-leb, lt-leb}
use Rattle.std.proofs.lemmas.List.{length-append, length_push, append-nil}
use native.Mathlib.Decide.{dec_lt}
use Rattle.rj_columns.specs.declared.cell.ColumnType.{ColumnType}
use Rattle.rj_columns.specs.declared.cell.ColumnType.TheVariants as kind
use Rattle.rj_columns.specs.Contents.{Content}
use Rattle.rj_csv_io.specs.declared.refused.ReadRefused.{ReadRefused}
use Rattle.rj_csv_io.specs.declared.refused.ReadRefused.TheVariants as refused
use Rattle.rj_csv_io.specs.Typed.{read_cell, read_cells, bad_cell}
use Rattle.rj_csv_io.specs.Rows.{read_row, read_rows, reading_then}
use Rattle.rj_csv_io.specs.Parts.{moved}

abbrev Rows : Type 0
Rows = Result (List (List Content)) ReadRefused

-- a fault of a cell in this row
abbrev IsAt : ℕ → ReadRefused → Type 0
IsAt row refused.NoHeader = ⊥
IsAt row (refused.BadName c) = ⊥
IsAt row (refused.RepeatedName c) = ⊥
IsAt row refused.TypeCount = ⊥
IsAt row (refused.RaggedRow r) = ⊥
IsAt row (refused.BadInteger r c) = r ≡ row
IsAt row (refused.BadText r c) = r ≡ row
IsAt row refused.TooManyRows = ⊥
IsAt row refused.TooManyColumns = ⊥
IsAt row refused.BadNull = ⊥
IsAt row refused.ReadDevice = ⊥
IsAt row refused.Memory = ⊥

-- a fault past this many rows
abbrev IsAfter : ℕ → ReadRefused → Type 0
IsAfter n refused.NoHeader = ⊥
IsAfter n (refused.BadName c) = ⊥
IsAfter n (refused.RepeatedName c) = ⊥
IsAfter n refused.TypeCount = ⊥
IsAfter n (refused.RaggedRow r) = n < r
IsAfter n (refused.BadInteger r c) = n < r
IsAfter n (refused.BadText r c) = n < r
IsAfter n refused.TooManyRows = Unit {0}
IsAfter n refused.TooManyColumns = ⊥
IsAfter n refused.BadNull = ⊥
IsAfter n refused.ReadDevice = ⊥
IsAfter n refused.Memory = ⊥

at-after : (n : ℕ) (e : ReadRefused) → IsAt (n + 1) e → IsAfter n e
at-after n refused.NoHeader h = absurd h
at-after n (refused.BadName c) h = absurd h
at-after n (refused.RepeatedName c) h = absurd h
at-after n refused.TypeCount h = absurd h
at-after n (refused.RaggedRow r) h = absurd h
at-after n (refused.BadInteger r c) h = omega (arith, h)
at-after n (refused.BadText r c) h = omega (arith, h)
at-after n refused.TooManyRows h = absurd h
at-after n refused.TooManyColumns h = absurd h
at-after n refused.BadNull h = absurd h
at-after n refused.ReadDevice h = absurd h
at-after n refused.Memory h = absurd h

after-less : (m n : ℕ) (e : ReadRefused) → m ≤ n → IsAfter n e → IsAfter m e
after-less m n refused.NoHeader l h = absurd h
after-less m n (refused.BadName c) l h = absurd h
after-less m n (refused.RepeatedName c) l h = absurd h
after-less m n refused.TypeCount l h = absurd h
after-less m n (refused.RaggedRow r) l h = omega (arith, l, h)
after-less m n (refused.BadInteger r c) l h = omega (arith, l, h)
after-less m n (refused.BadText r c) l h = omega (arith, l, h)
after-less m n refused.TooManyRows l h = tt
after-less m n refused.TooManyColumns l h = absurd h
after-less m n refused.BadNull l h = absurd h
after-less m n refused.ReadDevice l h = absurd h
after-less m n refused.Memory l h = absurd h

-- a fault past the last row is one too many
past : (n k : ℕ) (e : ReadRefused) → 2 ^ 31 - 1 ≤ n + k → IsAfter k e → moved n e ≡ refused.TooManyRows
past n k refused.NoHeader l h = absurd h
past n k (refused.BadName c) l h = absurd h
past n k (refused.RepeatedName c) l h = absurd h
past n k refused.TypeCount l h = absurd h
past n k (refused.RaggedRow r) l h = rw (lt-leb (n + r) (2 ^ 31 - 1) (omega (arith, l, h))) refl
past n k (refused.BadInteger r c) l h = rw (lt-leb (n + r) (2 ^ 31 - 1) (omega (arith, l, h))) refl
past n k (refused.BadText r c) l h = rw (lt-leb (n + r) (2 ^ 31 - 1) (omega (arith, l, h))) refl
past n k refused.TooManyRows l h = refl
past n k refused.TooManyColumns l h = absurd h
past n k refused.BadNull l h = absurd h
past n k refused.ReadDevice l h = absurd h
past n k refused.Memory l h = absurd h

-- the faults of cells
abbrev CellsAt : ℕ → Result (List Content) ReadRefused → Type 0
CellsAt row (Ok cells) = Unit {0}
CellsAt row (Err e) = IsAt row e

bad-at : (k : ColumnType) (row column : ℕ) → IsAt row (bad_cell k row column)
bad-at kind.Int row column = refl
bad-at (kind.Num t) row column = refl
bad-at kind.Text row column = refl

module _ (nulls : List (List ℕ)) where
  cells-at : (types : List ColumnType) (fields : List (List ℕ)) (row : ℕ) (done : List Content) → CellsAt row (read_cells nulls row done types fields)
  unfolding read_cells
  cells-at [] fields row done = tt
  cells-at (t ∷ types) [] row done = tt
  cells-at (t ∷ types) (f ∷ fields) row done = go (read_cell nulls t f) refl (λ x. cells-at types fields row (done ++ x ∷ []))
    where
      go : (o : Option Content) → read_cell nulls t f ≡ o → ((x : Content) → CellsAt row (read_cells nulls row (done ++ x ∷ []) types fields)) → CellsAt row (read_cells nulls row done (t ∷ types) (f ∷ fields))
      go None e again = rw e (bad-at t row (length done + 1))
      go (Some x) e again = rw e (again x)

  abbrev MovedCells : ℕ → Result (List Content) ReadRefused → Result (List Content) ReadRefused → Type 0
  MovedCells n (Ok cells) r = r ≡ Ok cells
  MovedCells n (Err e) r = r ≡ Err (moved n e)

  bad-moved : (k : ColumnType) (n row column : ℕ) → n + row ≤ 2 ^ 31 - 1 → bad_cell k (n + row) column ≡ moved n (bad_cell k row column)
  bad-moved kind.Int n row column h = rw (le-leb (n + row) (2 ^ 31 - 1) h) refl
  bad-moved (kind.Num t) n row column h = rw (le-leb (n + row) (2 ^ 31 - 1) h) refl
  bad-moved kind.Text n row column h = rw (le-leb (n + row) (2 ^ 31 - 1) h) refl

  cells-moved : (types : List ColumnType) (fields : List (List ℕ)) (n row : ℕ) (done : List Content) → n + row ≤ 2 ^ 31 - 1
      → MovedCells n (read_cells nulls row done types fields) (read_cells nulls (n + row) done types fields)
  unfolding read_cells
  cells-moved [] fields n row done h = refl
  cells-moved (t ∷ types) [] n row done h = refl
  cells-moved (t ∷ types) (f ∷ fields) n row done h = go (read_cell nulls t f) refl (λ x. cells-moved types fields n row (done ++ x ∷ []) h)
    where
      go : (o : Option Content) → read_cell nulls t f ≡ o
          → ((x : Content) → MovedCells n (read_cells nulls row (done ++ x ∷ []) types fields) (read_cells nulls (n + row) (done ++ x ∷ []) types fields))
          → MovedCells n (read_cells nulls row done (t ∷ types) (f ∷ fields)) (read_cells nulls (n + row) done (t ∷ types) (f ∷ fields))
      go None e again = rw e (ap Err (bad-moved t n row (length done + 1) h))
      go (Some x) e again = rw e (again x)

  module _ (types : List ColumnType) where
    -- the faults of a row
    abbrev RowAfter : ℕ → Result (List Content) ReadRefused → Type 0
    RowAfter n (Ok cells) = Unit {0}
    RowAfter n (Err e) = IsAfter n e

    cells-after : (n : ℕ) (r : Result (List Content) ReadRefused) → CellsAt (n + 1) r → RowAfter n r
    cells-after n (Ok cells) h = tt
    cells-after n (Err e) h = at-after n e h

    row-after : (n : ℕ) (f : List (List ℕ)) → RowAfter n (read_row nulls types n f)
    row-after n f = go (nat_le (2 ^ 31 - 1) n) (length f == length types)
      where
        go : (a b : Bool) → RowAfter n (if a then Err refused.TooManyRows else if b then read_cells nulls (n + 1) [] types f else Err (refused.RaggedRow (n + 1)))
        go true b = tt
        go false true = cells-after n _ (cells-at types f (n + 1) [])
        go false false = omega arith

    -- a row below the limit
    row-moved : (n k : ℕ) (f : List (List ℕ)) → n + k < 2 ^ 31 - 1 → MovedCells n (read_row nulls types k f) (read_row nulls types (n + k) f)
    row-moved n k f h =
        let a = lt-leb (2 ^ 31 - 1) k (omega (arith, h)) in
        let b = lt-leb (2 ^ 31 - 1) (n + k) h in
        let e : n + (k + 1) ≡ n + k + 1 = omega arith in
        rw (a, b) (go (length f == length types) (rw e at (cells-moved types f n (k + 1) [] (omega (arith, h)))))
      where
        go : (x : Bool) → MovedCells n (read_cells nulls (k + 1) [] types f) (read_cells nulls (n + k + 1) [] types f)
            → MovedCells n (if x then read_cells nulls (k + 1) [] types f else Err (refused.RaggedRow (k + 1))) (if x then read_cells nulls (n + k + 1) [] types f else Err (refused.RaggedRow (n + k + 1)))
        go true same = same
        go false same =
            let e : n + (k + 1) ≡ n + k + 1 = omega arith in
            rw (e, le-leb (n + k + 1) (2 ^ 31 - 1) (omega (arith, h))) refl

    -- rows only grow, and a fault is past those before it
    abbrev Grows : ℕ → Rows → Type 0
    Grows n (Ok rows) = n ≤ length rows
    Grows n (Err e) = IsAfter n e

    grows-less : (m n : ℕ) (r : Rows) → m ≤ n → Grows n r → Grows m r
    grows-less m n (Ok rows) l h = omega (arith, l, h)
    grows-less m n (Err e) l h = after-less m n e l h

    grows : (xs : List (List (List ℕ))) (acc : List (List Content)) → Grows (length acc) (read_rows nulls types acc xs)
    unfolding read_rows
    grows [] acc = omega arith
    grows (f ∷ xs) acc = go (read_row nulls types (length acc) f) (row-after (length acc) f) (λ cells. grows xs (acc ++ cells ∷ []))
      where
        go : (r : Result (List Content) ReadRefused) → RowAfter (length acc) r
            → ((cells : List Content) → Grows (length (acc ++ cells ∷ [])) (read_rows nulls types (acc ++ cells ∷ []) xs))
            → Grows (length acc) (reading_then r (λ cells. read_rows nulls types (acc ++ cells ∷ []) xs))
        go (Ok cells) h again = let size = length_push acc cells in grows-less (length acc) (length (acc ++ cells ∷ [])) _ (omega (arith, size)) (again cells)
        go (Err e) h again = h

    -- what a part reads as, after the rows before it
    abbrev pub Later : List (List Content) → Rows → Rows → Type 0
    Later done (Ok rows) r = (length done + length rows ≤ 2 ^ 31 - 1 → r ≡ Ok (done ++ rows)) × (2 ^ 31 - 1 < length done + length rows → r ≡ Err refused.TooManyRows)
    Later done (Err e) r = r ≡ Err (moved (length done) e)

    -- one row more, or a fault
    abbrev Adds : ℕ → Rows → Type 0
    Adds k (Ok rows) = k + 1 ≤ length rows
    Adds k (Err e) = IsAfter k e

    adds-from : (k : ℕ) (r : Rows) → Grows (k + 1) r → Adds k r
    adds-from k (Ok rows) h = h
    adds-from k (Err e) h = after-less k (k + 1) e (omega arith) h

    adds : (f : List (List ℕ)) (xs : List (List (List ℕ))) (acc : List (List Content)) → Adds (length acc) (read_rows nulls types acc (f ∷ xs))
    unfolding read_rows
    adds f xs acc = go (read_row nulls types (length acc) f) (row-after (length acc) f) (λ cells. grows xs (acc ++ cells ∷ []))
      where
        go : (r : Result (List Content) ReadRefused) → RowAfter (length acc) r
            → ((cells : List Content) → Grows (length (acc ++ cells ∷ [])) (read_rows nulls types (acc ++ cells ∷ []) xs))
            → Adds (length acc) (reading_then r (λ cells. read_rows nulls types (acc ++ cells ∷ []) xs))
        go (Ok cells) h again = adds-from (length acc) _ (rw (length_push acc cells) at (again cells))
        go (Err e) h again = h

    too-many : (done : List (List Content)) (k : ℕ) (r s : Rows) → 2 ^ 31 - 1 ≤ length done + k → Adds k r → s ≡ Err refused.TooManyRows → Later done r s
    too-many done k (Ok rows) s l g e = ((λ few. absurd (omega (arith, l, g, few))), (λ many. e))
    too-many done k (Err x) s l g e = e ∙ ap Err (sym (past (length done) k x l g))

    full : (f : List (List ℕ)) (xs : List (List (List ℕ))) (acc : List (List Content)) → 2 ^ 31 - 1 ≤ length acc → read_rows nulls types acc (f ∷ xs) ≡ Err refused.TooManyRows
    unfolding read_rows
    full f xs acc h = rw (le-leb (2 ^ 31 - 1) (length acc) h) refl

    pub later : (xs : List (List (List ℕ))) (done acc : List (List Content)) → length done + length acc ≤ 2 ^ 31 - 1
        → Later done (read_rows nulls types acc xs) (read_rows nulls types (done ++ acc) xs)
    unfolding read_rows
    later [] done acc h = ((λ few. refl), (λ many. absurd (omega (arith, h, many))))
    later (f ∷ xs) done acc h =
        let size = length-append done acc in
        elim (dec_lt (length done + length acc) (2 ^ 31 - 1)) [
          | yes below ↦
              let moved = row-moved (length done) (length acc) f below in
              go (read_row nulls types (length acc) f) (read_row nulls types (length (done ++ acc)) f) (rw size moved)
              (λ cells. let one = length_push acc cells in rw (← append_assoc done acc (cells ∷ [])) at (later xs done (acc ++ cells ∷ []) (omega (arith, one, below))))
          | no above ↦ too-many done (length acc) _ _ (omega (arith, above)) (adds f xs acc) (full f xs (done ++ acc) (omega (arith, size, above)))
        ]
      where
        go : (r s : Result (List Content) ReadRefused) → MovedCells (length done) r s
            → ((cells : List Content) → Later done (read_rows nulls types (acc ++ cells ∷ []) xs) (read_rows nulls types ((done ++ acc) ++ cells ∷ []) xs))
            → Later done (reading_then r (λ cells. read_rows nulls types (acc ++ cells ∷ []) xs)) (reading_then s (λ cells. read_rows nulls types ((done ++ acc) ++ cells ∷ []) xs))
        go (Ok cells) s m again = rw m (again cells)
        go (Err e) s m again = rw m refl

    -- the rows of records in two parts
    pub in-parts : (xs ys : List (List (List ℕ))) (done : List (List Content)) → read_rows nulls types done (xs ++ ys) ≡ reading_then (read_rows nulls types done xs) (λ d. read_rows nulls types d ys)
    unfolding read_rows
    in-parts [] ys done = refl
    in-parts (f ∷ xs) ys done = go (read_row nulls types (length done) f) (λ cells. in-parts xs ys (done ++ cells ∷ []))
      where
        go : (r : Result (List Content) ReadRefused)
            → ((cells : List Content) → read_rows nulls types (done ++ cells ∷ []) (xs ++ ys) ≡ reading_then (read_rows nulls types (done ++ cells ∷ []) xs) (λ d. read_rows nulls types d ys))
            → reading_then r (λ cells. read_rows nulls types (done ++ cells ∷ []) (xs ++ ys)) ≡ reading_then (reading_then r (λ cells. read_rows nulls types (done ++ cells ∷ []) xs)) (λ d. read_rows nulls types d ys)
        go (Ok cells) again = again cells
        go (Err e) again = refl

    -- a part that is read by itself, after parts that were read
    pub part-rows : (xs ys : List (List (List ℕ))) (done rows : List (List Content)) → read_rows nulls types [] xs ≡ Ok done → read_rows nulls types [] ys ≡ Ok rows
        → length done + length rows ≤ 2 ^ 31 - 1 → read_rows nulls types [] (xs ++ ys) ≡ Ok (done ++ rows)
    part-rows xs ys done rows ex ey few =
        let small : length done + length {A = List Content} [] ≤ 2 ^ 31 - 1 = omega (arith, few) in
        let l = later ys done [] small in
        let m = rw (append-nil done, ey) at l in
        in-parts xs ys [] ∙ (ap (λ r. reading_then r (λ d. read_rows nulls types d ys)) ex ∙ m.0 few)

    pub part-many : (xs ys : List (List (List ℕ))) (done rows : List (List Content)) → read_rows nulls types [] xs ≡ Ok done → read_rows nulls types [] ys ≡ Ok rows
        → length done ≤ 2 ^ 31 - 1 → 2 ^ 31 - 1 < length done + length rows → read_rows nulls types [] (xs ++ ys) ≡ Err refused.TooManyRows
    part-many xs ys done rows ex ey few many =
        let small : length done + length {A = List Content} [] ≤ 2 ^ 31 - 1 = omega (arith, few) in
        let l = later ys done [] small in
        let m = rw (append-nil done, ey) at l in
        in-parts xs ys [] ∙ (ap (λ r. reading_then r (λ d. read_rows nulls types d ys)) ex ∙ m.1 many)

    pub part-fault : (xs ys : List (List (List ℕ))) (done : List (List Content)) (e : ReadRefused) → read_rows nulls types [] xs ≡ Ok done → read_rows nulls types [] ys ≡ Err e
        → length done ≤ 2 ^ 31 - 1 → read_rows nulls types [] (xs ++ ys) ≡ Err (moved (length done) e)
    part-fault xs ys done e ex ey few =
        let small : length done + length {A = List Content} [] ≤ 2 ^ 31 - 1 = omega (arith, few) in
        let l = later ys done [] small in
        let m = rw (append-nil done, ey) at l in
        in-parts xs ys [] ∙ (ap (λ r. reading_then r (λ d. read_rows nulls types d ys)) ex ∙ m)

    -- a fault stands before all that follows
    pub fault-first : (xs ys : List (List (List ℕ))) (e : ReadRefused) → read_rows nulls types [] xs ≡ Err e → read_rows nulls types [] (xs ++ ys) ≡ Err e
    fault-first xs ys e h = in-parts xs ys [] ∙ ap (λ r. reading_then r (λ d. read_rows nulls types d ys)) h
