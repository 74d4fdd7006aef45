-- The rows of records, one more at a time.
use Rattle.std.proofs.Common.{◌≡◌, ◌<◌, ◌≤◌, ◌+◌, ◌-◌, ◌^◌, ℕ, List, [], ◌∷◌, ◌++◌, length, true, false, Bool, Some, None, Ok, Err, refl, ap, sym, ◌∙◌, arith, drop, subst, zero, suc, Bor, inl, inr}
use Rattle.std.specs.Prelude.{if◌then◌else◌, nat_lt, ℤ, pos, neg_ℤ, Option, option_map, slice_index_or, unsigned_abs}
use Rattle.std.specs.Str.{is_utf8}
use Rattle.std.specs.Str.Parse.{signed_digits_value, starts_with_minus, without_leading_sign}
use Rattle.std.proofs.lemmas.Bool.{and_parts, cases_lt, le-leb, lt-leb, ltb-true, eq-eqb, ne_eqb}
use Rattle.std.proofs.lemmas.List.{length_push}
use Rattle.csv.specs.declared.reader.Reader.{Reader}
use Rattle.rj_columns.specs.NumbersRead.{after_point, are_zeros, before_point, fits, is_numeric_text, is_unsigned_text, numeric_of, signed_size, size_at, units_in}
use Rattle.rj_columns.specs.declared.cell.ColumnType.{ColumnType}
use Rattle.rj_columns.specs.declared.cell.ColumnType.TheVariants as kind
use Rattle.rj_columns.specs.Contents.{Content, nothing, whole, decimal, word, FitsType}
use Rattle.rj_columns.specs.Tables.{FitsAt, BuilderValue, TableValue}
use Rattle.rj_csv_io.specs.declared.refused.ReadRefused.{ReadRefused}
use Rattle.rj_csv_io.specs.declared.refused.ReadRefused.TheVariants as refused
use Rattle.rj_csv_io.specs.Typed.{is_null_field, read_cell, typed_cell, read_cells, is_int_text}
use Rattle.rj_csv_io.specs.Remaining.{rows_from}
use Rattle.rj_csv_io.specs.Internal.RowReading.{HasReadRow}
use Rattle.rj_csv_io.specs.Rows.{read_row, read_rows}

-- a sign leaves the size
size-signed : (f : List ℕ) (n : ℕ) → unsigned_abs (signed_size f n) ≡ n
size-signed f n = go (starts_with_minus f) n
  where
    go : (b : Bool) (n : ℕ) → unsigned_abs (if b then neg_ℤ (pos n) else pos n) ≡ n
    go true zero = refl
    go true (suc n) = refl
    go false n = refl

-- the units of a numeric type's value are below 10^precision in size
numeric-below : (p s : ℕ) (f : List ℕ) (u : ℤ) → numeric_of p s f ≡ Some u → unsigned_abs u < 10 ^ p
numeric-below p s f u e = go (is_numeric_text p s f) refl e
  where
    size : ℕ
    size = size_at s (before_point (without_leading_sign f)) (after_point (without_leading_sign f))

    go : (b : Bool) → is_numeric_text p s f ≡ b → (if b then Some (units_in s f) else None) ≡ Some u → unsigned_abs u < 10 ^ p
    go true holds e =
        let q : units_in s f ≡ u = cc in
        let text = without_leading_sign f in
        let fit = and_parts (is_unsigned_text text) (fits p s (before_point text) (after_point text)) holds in
        let small = and_parts (are_zeros (drop s (after_point text))) (nat_lt size (10 ^ p)) fit.1 in
        let below : size < 10 ^ p = ltb-true size (10 ^ p) small.1 in
        let same : unsigned_abs u ≡ size = ap unsigned_abs (sym q) ∙ size-signed f size in
        omega (arith, below, same)
    go false holds e = absurd (cc)

-- a field's reading has its column's type
typed-fits : (k : ColumnType) (f : List ℕ) (x : Content) → typed_cell k f ≡ Some x → FitsType k x
typed-fits kind.Int f x e = go (is_int_text f) e
  where
    go : (b : Bool) → (if b then Some (whole (signed_digits_value 10 f)) else None) ≡ Some x → FitsType kind.Int x
    go true e = let q : whole (signed_digits_value 10 f) ≡ x = cc in let P : Content → Type 0 = FitsType kind.Int in subst P q tt
    go false e = absurd (cc)
typed-fits (kind.Num t) f x e = go (numeric_of t.precision t.scale f) refl e
  where
    go : (r : Option ℤ) → numeric_of t.precision t.scale f ≡ r → option_map (λ units. decimal units t.scale) r ≡ Some x → FitsType (kind.Num t) x
    go (Some u) h e = let q : decimal u t.scale ≡ x = cc in let P : Content → Type 0 = FitsType (kind.Num t) in subst P q (refl, numeric-below t.precision t.scale f u h)
    go None h e = absurd (cc)
typed-fits kind.Text f x e = go (is_utf8 f) e
  where
    go : (b : Bool) → (if b then Some (word f) else None) ≡ Some x → FitsType kind.Text x
    go true e = let q : word f ≡ x = cc in let P : Content → Type 0 = FitsType kind.Text in subst P q tt
    go false e = absurd (cc)

nothing-fits : (k : ColumnType) → FitsType k nothing
nothing-fits kind.Int = tt
nothing-fits (kind.Num t) = tt
nothing-fits kind.Text = tt

pub cell-fits : (nulls : List (List ℕ)) (k : ColumnType) (f : List ℕ) (x : Content) → read_cell nulls k f ≡ Some x → FitsType k x
cell-fits nulls k f x e = go (is_null_field nulls f) e
  where
    go : (b : Bool) → (if b then Some nothing else typed_cell k f) ≡ Some x → FitsType k x
    go true e = let q : nothing ≡ x = cc in let P : Content → Type 0 = FitsType k in subst P q (nothing-fits k)
    go false e = typed-fits k f x e

pub FitsAt-from : (types : List ColumnType) (i : ℕ) (d k : ColumnType) (x : Content) → i < length types → slice_index_or types i d ≡ k → FitsType k x → FitsAt types i x
unfolding FitsAt
FitsAt-from [] i d k x h e f = absurd (omega arith)
FitsAt-from (t ∷ types) zero d k x h e f = let P : ColumnType → Type 0 = λ k. FitsType k x in subst P (sym e) f
FitsAt-from (t ∷ types) (suc i) d k x h e f = FitsAt-from types i d k x (omega arith) e f

-- one more record
pub rows-step : (nulls : List (List ℕ)) (types : List ColumnType) (done : List (List Content)) (n : ℕ) (f : List (List ℕ)) (rest : List (List (List ℕ))) (cells : List Content)
    → length done ≡ n → read_row nulls types n f ≡ Ok cells → read_rows nulls types done (f ∷ rest) ≡ read_rows nulls types (done ++ cells ∷ []) rest
unfolding read_rows
rows-step nulls types done n f rest cells size e = rw (size, e) refl

pub rows-fault : (nulls : List (List ℕ)) (types : List ColumnType) (done : List (List Content)) (n : ℕ) (f : List (List ℕ)) (rest : List (List (List ℕ))) (x : ReadRefused)
    → length done ≡ n → read_row nulls types n f ≡ Err x → read_rows nulls types done (f ∷ rest) ≡ Err x
unfolding read_rows
rows-fault nulls types done n f rest x size e = rw (size, e) refl

pub rows-end : (nulls : List (List ℕ)) (types : List ColumnType) (done : List (List Content)) → read_rows nulls types done [] ≡ Ok done
unfolding read_rows
rows-end nulls types done = refl

-- what the reading of a record tests in turn
pub row-too_many : (nulls : List (List ℕ)) (types : List ColumnType) (n : ℕ) (f : List (List ℕ)) → 2 ^ 31 - 1 ≤ n → read_row nulls types n f ≡ Err refused.TooManyRows
row-too_many nulls types n f h = rw (le-leb (2 ^ 31 - 1) n h) refl

pub row-ragged : (nulls : List (List ℕ)) (types : List ColumnType) (n : ℕ) (f : List (List ℕ)) → n < 2 ^ 31 - 1 → (length f ≡ length types → ⊥) → read_row nulls types n f ≡ Err (refused.RaggedRow (n + 1))
row-ragged nulls types n f h ne = rw (lt-leb (2 ^ 31 - 1) n h, ne_eqb (length f) (length types) ne) refl

pub row-cells : (nulls : List (List ℕ)) (types : List ColumnType) (n : ℕ) (f : List (List ℕ)) → n < 2 ^ 31 - 1 → length f ≡ length types → read_row nulls types n f ≡ read_cells nulls (n + 1) [] types f
row-cells nulls types n f h same = rw (lt-leb (2 ^ 31 - 1) n h, eq-eqb (length f) (length types) same) refl

-- the builder after one more cell, and after the end of a row
pub grows-same : (start now next : BuilderValue) (row : List Content) → now ≡ record start { row = now.row } → next ≡ record now { row = row } → next ≡ record start { row = next.row }
grows-same start now next row e h = let t : now.table ≡ start.table = ap (λ (v : BuilderValue). v.table) e in rw (h, t) refl

pub ended : (start full next : BuilderValue) → full ≡ record start { row = full.row } → next ≡ record { table = record full.table { rows = full.table.rows ++ full.row ∷ [] }; row = [] }
    → next ≡ record { table = record start.table { rows = start.table.rows ++ full.row ∷ [] }; row = [] }
ended start full next e h =
    let same : full.table ≡ start.table = ap (λ (v : BuilderValue). v.table) e in
    h ∙ ap (λ (t : TableValue). record { table = record t { rows = t.rows ++ full.row ∷ [] }; row = [] }) same

-- a row that was read had room
pub row-room : (nulls : List (List ℕ)) (types : List ColumnType) (n : ℕ) (f : List (List ℕ)) (cells : List Content) → read_row nulls types n f ≡ Ok cells → n < 2 ^ 31 - 1
row-room nulls types n f cells e = elim (cases_lt n (2 ^ 31 - 1)) [
  | inl room ↦ room
  | inr full ↦ let no : Err refused.TooManyRows ≡ Ok cells = sym (row-too_many nulls types n f full) ∙ e in absurd (cc)
]

-- one more row of a reader
module _ (nulls : List (List ℕ)) (types : List ColumnType) (reader rest : Reader (Bor (List ℕ))) (before after : BuilderValue) (read : HasReadRow nulls types reader rest before after) where
  pub read-rows : after.table.rows ≡ before.table.rows ++ read.cells ∷ []
  read-rows = ap (λ (v : BuilderValue). v.table.rows) read.added

  pub read-size : length after.table.rows ≡ length before.table.rows + 1
  read-size = ap length read-rows ∙ length_push before.table.rows read.cells

  pub read-same : after ≡ record { table = record before.table { rows = after.table.rows }; row = [] }
  read-same = read.added ∙ ap (λ (rows : List (List Content)). record { table = record before.table { rows = rows }; row = [] }) (sym read-rows)

  pub read-on : rows_from nulls types before.table.rows reader ≡ rows_from nulls types after.table.rows rest
  read-on = rw (read.next, read-rows) (rows-step nulls types before.table.rows (length before.table.rows) read.fields _ read.cells refl read.row)
