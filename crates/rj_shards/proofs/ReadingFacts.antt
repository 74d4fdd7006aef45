-- What records read as, whatever number their rows have.
use Rattle.std.proofs.Common.{◌≡◌, ◌≢◌, ◌<◌, ◌≤◌, ◌+◌, ◌-◌, ◌^◌, ◌⊎◌, inl, inr, ℕ, List, [], ◌∷◌, ◌++◌, length, suc, true, false, Bool, Option, Some, None, Result, Ok, Err, refl, sym, ap, ◌∙◌, subst, arith, append_assoc, lit<}
use Rattle.std.specs.Prelude.{if◌then◌else◌, ◌==◌}
use Rattle.std.proofs.lemmas.Bool.{cases_lt, lt-leb}
use Rattle.std.proofs.lemmas.List.{append-nil, length-append}
use Rattle.rj_columns.specs.declared.cell.ColumnType.{ColumnType}
use Rattle.rj_columns.specs.declared.cell.ColumnType.TheVariants as kind
use Rattle.rj_columns.specs.declared.refused.BuildRefused.{BuildRefused}
use Rattle.rj_columns.specs.declared.refused.BuildRefused.TheVariants as build
use Rattle.rj_columns.specs.Contents.{Content}
use Rattle.rj_columns.specs.Names.{empty_table}
use Rattle.rj_columns.specs.Tables.{TableValue}
use Rattle.rj_csv_io.specs.declared.refused.ReadRefused.{ReadRefused}
use Rattle.rj_csv_io.specs.declared.refused.ReadRefused.TheVariants as read
use Rattle.rj_csv_io.specs.Pieces.{AreRows}
use Rattle.rj_csv_io.specs.Rows.{read_row, read_rows}
use Rattle.rj_csv_io.specs.Tables.{of_begun, read_records}
use Rattle.rj_csv_io.specs.Typed.{bad_cell, read_cell, read_cells}
use Rattle.rj_csv_io.proofs.RowsFacts.{row-too_many, rows-end, rows-fault, rows-step}
use Rattle.rj_csv_io.proofs.TableFacts.{header_fault, rows_fault}
use Rattle.rj_shards.specs.declared.division.refused.DivideRefused.{DivideRefused}
use Rattle.rj_shards.specs.declared.division.refused.DivideRefused.TheVariants as refused
use Rattle.rj_shards.specs.Divisions.{Dividing}
use Rattle.rj_shards.specs.Readings.{IsFaultBehind, IsFirstFault, IsHeaderRefusal, IsInputFault, fault_behind, numbered_row, row_told}

abbrev Row : Type 0
Row = Result (List Content) ReadRefused

abbrev IsMemory : ReadRefused → Type 0
IsMemory e = (e ≡ read.Memory) ⊎ (e ≢ read.Memory)

memory-or : (e : ReadRefused) → IsMemory e
memory-or read.Memory = inl refl
memory-or e = inr (λ h. cc)

-- what a header is refused for has no row
refusal-behind : (b : BuildRefused) (n : ℕ) → (row_told (of_begun b) < 2 ^ 63) × IsHeaderRefusal b (fault_behind n (of_begun b))
refusal-behind build.TooManyColumns n = (lit< tt, refl)
refusal-behind (build.BadName c) n = (lit< tt, refl)
refusal-behind (build.RepeatedName c) n = (lit< tt, refl)
refusal-behind build.TypeCount n = (lit< tt, refl)
refusal-behind build.Memory n = (lit< tt, tt)

-- a fault behind so many rows that memory didn't make
unless-memory : (P : DivideRefused → Type 0) (n : ℕ) (e : ReadRefused) (r : DivideRefused) → (row_told e < 2 ^ 63 → r ≡ fault_behind n e) → P refused.Memory
    → (e ≢ read.Memory → (row_told e < 2 ^ 63) × P (fault_behind n e)) → P r
unless-memory P n e r is memory other = elim (memory-or e) [
  | inl m ↦ (
      let small : row_told e < 2 ^ 63 = rw m (lit< tt) in
      subst P (sym (is small ∙ ap (fault_behind n) m)) memory)
  | inr o ↦ (let h = other o in subst P (sym (is h.0)) h.1)
]

-- a piece under a header that makes no table
pub refusal-of : (nulls : List (List ℕ)) (types : List ColumnType) (names : List (List ℕ)) (xs : List (List (List ℕ))) (n : ℕ) (e : ReadRefused) (r : DivideRefused) (b : BuildRefused)
    → (row_told e < 2 ^ 63 → r ≡ fault_behind n e) → (e ≢ read.Memory → read_records nulls types (names ∷ xs) ≡ Err e) → empty_table names types ≡ Err b → IsHeaderRefusal b r
refusal-of nulls types names xs n e r b is reading begins = unless-memory (IsHeaderRefusal b) n e r is tt (λ other.
    let P : ReadRefused → Type 0 = λ x. (row_told x < 2 ^ 63) × IsHeaderRefusal b (fault_behind n x) in
    subst P (sym (header_fault nulls types names xs b e begins (reading other))) (refusal-behind b n))

-- the device that gives bytes failed, or memory was refused
pub input-fault : (P : DivideRefused → Type 0) → P refused.ReadDevice → P refused.Memory → (e : DivideRefused) → IsInputFault e → P e
input-fault P device memory refused.ReadDevice h = device
input-fault P device memory refused.Memory h = memory
input-fault P device memory e h = absurd h

-- what the row of a number reads as, and behind so many rows more
abbrev IsLater : ℕ → ℕ → Row → Row → Type 0
IsLater n row (Ok cells) r = r ≡ Ok cells
IsLater n row (Err e) r = (x : ReadRefused) × (r ≡ Err x) × (fault_behind n e ≡ refused.Read x) × (row_told x ≡ n + row)

bad-later : (k : ColumnType) (n row column : ℕ) → IsLater n row (Err (bad_cell k row column)) (Err (bad_cell k (n + row) column))
bad-later kind.Int n row column = (read.BadInteger (n + row) column, refl, refl, refl)
bad-later (kind.Num t) n row column = (read.BadInteger (n + row) column, refl, refl, refl)
bad-later kind.Text n row column = (read.BadText (n + row) column, refl, refl, refl)

module _ (nulls : List (List ℕ)) where
  cells-later : (types : List ColumnType) (fields : List (List ℕ)) (n row : ℕ) (done : List Content) → IsLater n row (read_cells nulls row done types fields) (read_cells nulls (n + row) done types fields)
  unfolding read_cells
  cells-later [] fields n row done = refl
  cells-later (t ∷ types) [] n row done = refl
  cells-later (t ∷ types) (f ∷ fields) n row done = go (read_cell nulls t f) refl (λ x. cells-later types fields n row (done ++ x ∷ []))
    where
      go : (o : Option Content) → read_cell nulls t f ≡ o → ((x : Content) → IsLater n row (read_cells nulls row (done ++ x ∷ []) types fields) (read_cells nulls (n + row) (done ++ x ∷ []) types fields))
          → IsLater n row (read_cells nulls row done (t ∷ types) (f ∷ fields)) (read_cells nulls (n + row) done (t ∷ types) (f ∷ fields))
      go None e again = rw e (bad-later t n row (length done + 1))
      go (Some x) e again = rw e (again x)

  module _ (types : List ColumnType) where
    row-later : (n row : ℕ) (f : List (List ℕ)) → IsLater n row (numbered_row nulls types row f) (numbered_row nulls types (n + row) f)
    row-later n row f = go (length f == length types)
      where
        go : (b : Bool) → IsLater n row (if b then read_cells nulls row [] types f else Err (read.RaggedRow row)) (if b then read_cells nulls (n + row) [] types f else Err (read.RaggedRow (n + row)))
        go true = cells-later types f n row []
        go false = (read.RaggedRow (n + row), refl, refl, refl)

    later : (n row : ℕ) (f : List (List ℕ)) (r : Row) → numbered_row nulls types row f ≡ r → IsLater n row r (numbered_row nulls types (n + row) f)
    later n row f r h = let P : Row → Type 0 = λ x. IsLater n row x (numbered_row nulls types (n + row) f) in subst P h (row-later n row f)

    -- a row below the limit
    row-is : (n : ℕ) (f : List (List ℕ)) → n < 2 ^ 31 - 1 → read_row nulls types n f ≡ numbered_row nulls types (n + 1) f
    row-is n f h = rw (lt-leb (2 ^ 31 - 1) n h) refl

    -- what records read as behind some rows
    record HasRows (acc : List (List Content)) (xs : List (List (List ℕ))) (rows : List (List Content)) : Type 0 where
      more : List (List Content)
      all : rows ≡ acc ++ more
      read : AreRows nulls types xs more

    record HasFault (acc : List (List Content)) (xs : List (List (List ℕ))) (e : ReadRefused) : Type 0 where
      first : IsFirstFault nulls types (length acc) xs e
      low : row_told e ≤ 2 ^ 31

    abbrev Outcome : List (List Content) → List (List (List ℕ)) → Result (List (List Content)) ReadRefused → Type 0
    Outcome acc xs (Ok rows) = HasRows acc xs rows
    Outcome acc xs (Err e) = ((e ≡ read.TooManyRows) × (2 ^ 31 - 1 < length acc + length xs)) ⊎ HasFault acc xs e

    more-outcome : (acc : List (List Content)) (f : List (List ℕ)) (xs : List (List (List ℕ))) (cells : List Content) → read_row nulls types 0 f ≡ Ok cells
        → (r : Result (List (List Content)) ReadRefused) → Outcome (acc ++ cells ∷ []) xs r → Outcome acc (f ∷ xs) r
    more-outcome acc f xs cells is (Ok rows) h = record { more = cells ∷ h.more; all = h.all ∙ append_assoc acc (cells ∷ []) h.more; read = (is, h.read) }
    more-outcome acc f xs cells is (Err e) h = elim h [
      | inl many ↦ (let size = length-append acc (cells ∷ []) in inl (many.0, omega (arith, size, many.1)))
      | inr fault ↦ (
          let size = length-append acc (cells ∷ []) in let x = fault.first in
          let n : length (acc ++ cells ∷ []) + length x.good + 1 ≡ length acc + length (f ∷ x.good) + 1 = omega (arith, size) in
          inr (record {
            first = record { good = f ∷ x.good; rows = cells ∷ x.rows; bad = x.bad; rest = x.rest; order = ap (λ l. f ∷ l) x.order; read = (is, x.read); is = ap (λ k. numbered_row nulls types k x.bad) (sym n) ∙ x.is };
            low = fault.low;
          }))
    ]

    outcome : (xs : List (List (List ℕ))) (acc : List (List Content)) → Outcome acc xs (read_rows nulls types acc xs)
    outcome [] acc = rw (rows-end nulls types acc) (record { more = []; all = sym (append-nil acc); read = tt })
    outcome (f ∷ xs) acc = elim (cases_lt (length acc) (2 ^ 31 - 1)) [
      | inl low ↦ go low (numbered_row nulls types 1 f) refl (λ cells. outcome xs (acc ++ cells ∷ []))
      | inr high ↦ rw (rows-fault nulls types acc (length acc) f xs read.TooManyRows refl (row-too_many nulls types (length acc) f high)) (inl (refl, omega (arith, high)))
    ]
      where
        go : length acc < 2 ^ 31 - 1 → (r : Row) → numbered_row nulls types 1 f ≡ r → ((cells : List Content) → Outcome (acc ++ cells ∷ []) xs (read_rows nulls types (acc ++ cells ∷ []) xs))
            → Outcome acc (f ∷ xs) (read_rows nulls types acc (f ∷ xs))
        go low (Ok cells) e again =
            rw (rows-step nulls types acc (length acc) f xs cells refl (row-is (length acc) f low ∙ later (length acc) 1 f (Ok cells) e)) (more-outcome acc f xs cells e _ (again cells))
        go low (Err x) e again =
            let here = later (length acc) 1 f (Err x) e in
            let zero_more : length acc + 0 + 1 ≡ length acc + 1 = omega arith in
            rw (rows-fault nulls types acc (length acc) f xs here.0 refl (row-is (length acc) f low ∙ here.1))
            (inr (record {
              first = record { good = []; rows = []; bad = f; rest = xs; order = refl; read = tt; is = ap (λ k. numbered_row nulls types k f) zero_more ∙ here.1 };
              low = omega (arith, here.3, low);
            }))

    -- records that were read are rows
    pub read-rows : (xs : List (List (List ℕ))) (rows : List (List Content)) → read_rows nulls types [] xs ≡ Ok rows → AreRows nulls types xs rows
    read-rows xs rows h =
        let P : Result (List (List Content)) ReadRefused → Type 0 = Outcome [] xs in
        let got : HasRows [] xs rows = subst P h (outcome xs []) in
        let Q : List (List Content) → Type 0 = AreRows nulls types xs in
        subst Q (sym got.all) got.read

    pub rows-append : (xs ys : List (List (List ℕ))) (rows more : List (List Content)) → AreRows nulls types xs rows → AreRows nulls types ys more → AreRows nulls types (xs ++ ys) (rows ++ more)
    rows-append [] ys [] more a b = b
    rows-append [] ys (r ∷ rows) more a b = absurd a
    rows-append (x ∷ xs) ys [] more a b = absurd a
    rows-append (x ∷ xs) ys (r ∷ rows) more a b = (a.0, rows-append xs ys rows more a.1 b)

    pub rows-many : (xs : List (List (List ℕ))) (rows : List (List Content)) → AreRows nulls types xs rows → length xs ≡ length rows
    rows-many [] [] a = refl
    rows-many [] (r ∷ rows) a = absurd a
    rows-many (x ∷ xs) [] a = absurd a
    rows-many (x ∷ xs) (r ∷ rows) a = ap suc (rows-many xs rows a.1)

    -- a fault behind rows that were read is the first fault of all
    pub first-behind : (xs ys : List (List (List ℕ))) (rows : List (List Content)) (n : ℕ) (e : ReadRefused) → AreRows nulls types xs rows → n ≡ length rows
        → IsFirstFault nulls types n ys e → IsFirstFault nulls types 0 (xs ++ ys) e
    first-behind xs ys rows n e a many x =
        let size = length-append xs x.good in let same = rows-many xs rows a in
        let k : 0 + length (xs ++ x.good) + 1 ≡ n + length x.good + 1 = omega (arith, size, same, many) in
        record {
          good = xs ++ x.good;
          rows = rows ++ x.rows;
          bad = x.bad;
          rest = x.rest;
          order = ap (λ l. xs ++ l) x.order ∙ sym (append_assoc xs x.good (x.bad ∷ x.rest));
          read = rows-append xs x.good rows x.rows a x.read;
          is = ap (λ j. numbered_row nulls types j x.bad) k ∙ x.is;
        }

module _ (d : Dividing) where
  -- the first fault of a piece, behind so many rows
  fault-of : (before : ℕ) (xs : List (List (List ℕ))) (e : ReadRefused) (outputs : ℕ) → Outcome d.nulls d.types [] xs (Err e)
      → (row_told e < 2 ^ 63) × IsFaultBehind d before outputs xs (fault_behind before e)
  fault-of before xs e outputs h = elim h [
    | inl many ↦ (
        let P : ReadRefused → Type 0 = λ x. (row_told x < 2 ^ 63) × IsFaultBehind d before outputs xs (fault_behind before x) in
        subst P (sym many.0) (lit< tt, inl (omega (arith, many.1))))
    | inr fault ↦ (
        let x = fault.first in
        let at = later d.nulls d.types before (0 + length x.good + 1) x.bad (Err e) x.is in
        let n : before + length x.good + 1 ≡ before + (0 + length x.good + 1) = omega arith in
        let P : DivideRefused → Type 0 = IsFaultBehind d before outputs xs in (
          omega (arith, fault.low),
          subst P (sym at.2) (record {
            good = x.good;
            rows = x.rows;
            bad = x.bad;
            rest = x.rest;
            order = x.order;
            read = x.read;
            is = ap (λ k. numbered_row d.nulls d.types k x.bad) n ∙ at.1;
          }),
        ))
  ]

  pub piece-fault : (before : ℕ) (xs : List (List (List ℕ))) (e : ReadRefused) (r : DivideRefused) (names : List (List ℕ)) (outputs : ℕ) → (row_told e < 2 ^ 63 → r ≡ fault_behind before e)
      → (e ≢ read.Memory → read_records d.nulls d.types (names ∷ xs) ≡ Err e) → (t : TableValue) → empty_table names d.types ≡ Ok t → IsFaultBehind d before outputs xs r
  piece-fault before xs e r names outputs is reading t b = unless-memory (IsFaultBehind d before outputs xs) before e r is tt (λ other.
      let P : Result (List (List Content)) ReadRefused → Type 0 = Outcome d.nulls d.types [] xs in
      fault-of before xs e outputs (subst P (rows_fault d.nulls d.types names xs t e b (reading other)) (outcome d.nulls d.types xs [])))
