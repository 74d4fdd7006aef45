-- Cells that are read are none of the null texts.
use Rattle.std.proofs.Common.{◌≡◌, ◌≢◌, ◌∙◌, ◌+◌, ℕ, ℤ, List, [], ◌∷◌, ◌++◌, length, Bool, true, false, Option, Some, None, Result, Ok, Err, refl, sym, ap, subst, inl, inr}
use Rattle.std.specs.Prelude.{All, ◌==◌, ◌-◌, ◌^◌, nat_le, if◌then◌else◌, option_map, slice_index_or}
use Rattle.std.specs.Str.{bytes_eq, is_utf8}
use Rattle.std.specs.Str.Parse.{signed_digits_value}
use Rattle.std.proofs.lemmas.Bool.{cases_Bool, cases_lt, false_from_ne_true, false≢true}
use Rattle.std.proofs.lemmas.List.{get_or_past}
use Rattle.std.proofs.lemmas.List.Elements.{All-nil, All-push}
use Rattle.std.proofs.lemmas.Slice.Eq.{bytes_eq-Decides}
use Rattle.rj_columns.specs.NumbersRead.{numeric_of}
use Rattle.rj_columns.specs.declared.cell.ColumnType.{ColumnType}
use Rattle.rj_columns.specs.declared.cell.ColumnType.TheVariants as kind
use Rattle.rj_columns.specs.declared.refused.BuildRefused.{BuildRefused}
use Rattle.rj_columns.specs.Contents.{Content, nothing, whole, decimal, word}
use Rattle.rj_columns.specs.Names.{empty_table}
use Rattle.rj_columns.specs.Tables.{TableValue, cell_in}
use Rattle.rj_csv_io.specs.declared.refused.ReadRefused.{ReadRefused}
use Rattle.rj_csv_io.specs.declared.refused.ReadRefused.TheVariants as refused
use Rattle.rj_csv_io.specs.Ambiguous.{AreApart, AreClear, is_ambiguous}
use Rattle.rj_csv_io.specs.Rows.{read_row, read_rows, reading_then}
use Rattle.rj_csv_io.specs.Tables.{are_null_texts, is_null_text, of_begun, read_records, records_read}
use Rattle.rj_csv_io.specs.Typed.{bad_cell, is_int_text, is_null_field, read_cell, read_cells, typed_cell}
use Rattle.rj_csv_io.proofs.NullFacts.{decimal-apart, whole-apart}

abbrev Row : Type 0
Row = Result (List Content) ReadRefused

module _ (nulls : List (List ℕ)) (null : List ℕ) (among : is_null_field nulls null ≡ true) where
  abbrev Apart : Content → Type 0
  Apart x = x ≢ word null

  abbrev ApartRow : List Content → Type 0
  ApartRow cells = All Apart cells

  typed-apart : (k : ColumnType) (f : List ℕ) (x : Content) → is_null_field nulls f ≡ false → typed_cell k f ≡ Some x → Apart x
  typed-apart kind.Int f x not e = go (is_int_text f) e
    where
      go : (b : Bool) → (if b then Some (whole (signed_digits_value 10 f)) else None) ≡ Some x → Apart x
      go true e = λ is. cc
      go false e = absurd (cc)
  typed-apart (kind.Num t) f x not e = go (numeric_of t.precision t.scale f) e
    where
      go : (r : Option ℤ) → option_map (λ units. decimal units t.scale) r ≡ Some x → Apart x
      go (Some u) e = λ is. cc
      go None e = absurd (cc)
  typed-apart kind.Text f x not e = go (is_utf8 f) e
    where
      go : (b : Bool) → (if b then Some (word f) else None) ≡ Some x → Apart x
      go true e = λ is.
          let same : f ≡ null = cc in
          false≢true (sym not ∙ (ap (is_null_field nulls) same ∙ among))
      go false e = absurd (cc)

  pub cell-apart : (k : ColumnType) (f : List ℕ) (x : Content) → read_cell nulls k f ≡ Some x → Apart x
  cell-apart k f x e = elim (cases_Bool (is_null_field nulls f)) [
    | inl among ↦ let q : Some nothing ≡ Some x = rw among at e in λ is. cc
    | inr other ↦ let q : typed_cell k f ≡ Some x = rw other at e in typed-apart k f x other q
  ]

  cells-apart : (types : List ColumnType) (fields : List (List ℕ)) (row : ℕ) (done cells : List Content) → ApartRow done → read_cells nulls row done types fields ≡ Ok cells → ApartRow cells
  unfolding read_cells
  cells-apart [] fields row done cells all e = let q : done ≡ cells = cc in subst ApartRow q all
  cells-apart (t ∷ types) [] row done cells all e = let q : done ≡ cells = cc in subst ApartRow q all
  cells-apart (t ∷ types) (f ∷ fields) row done cells all e = go (read_cell nulls t f) refl e (λ x more. cells-apart types fields row (done ++ x ∷ []) cells more)
    where
      go : (o : Option Content) → read_cell nulls t f ≡ o → read_cells nulls row done (t ∷ types) (f ∷ fields) ≡ Ok cells
          → ((x : Content) → ApartRow (done ++ x ∷ []) → read_cells nulls row (done ++ x ∷ []) types fields ≡ Ok cells → ApartRow cells) → ApartRow cells
      go None is e more = let no : Err (bad_cell t row (length done + 1)) ≡ Ok cells = rw is at e in absurd (cc)
      go (Some x) is e more = more x (All-push Apart done x all (cell-apart t f x is)) (rw is at e)

  row-apart : (types : List ColumnType) (n : ℕ) (fields : List (List ℕ)) (cells : List Content) → read_row nulls types n fields ≡ Ok cells → ApartRow cells
  row-apart types n fields cells e = go (nat_le (2 ^ 31 - 1) n) (length fields == length types) e
    where
      go : (a b : Bool) → (if a then Err refused.TooManyRows else if b then read_cells nulls (n + 1) [] types fields else Err (refused.RaggedRow (n + 1))) ≡ Ok cells → ApartRow cells
      go true b e = absurd (cc)
      go false true e = cells-apart types fields (n + 1) [] cells (All-nil Apart) e
      go false false e = absurd (cc)

  rows-apart : (types : List ColumnType) (records : List (List (List ℕ))) (done rows : List (List Content)) → All ApartRow done → read_rows nulls types done records ≡ Ok rows → All ApartRow rows
  unfolding read_rows
  rows-apart types [] done rows all e = let q : done ≡ rows = cc in subst (All ApartRow) q all
  rows-apart types (r ∷ records) done rows all e = go (read_row nulls types (length done) r) refl e (λ cells more. rows-apart types records (done ++ cells ∷ []) rows more)
    where
      go : (o : Row) → read_row nulls types (length done) r ≡ o → reading_then o (λ cells. read_rows nulls types (done ++ cells ∷ []) records) ≡ Ok rows
          → ((cells : List Content) → All ApartRow (done ++ cells ∷ []) → read_rows nulls types (done ++ cells ∷ []) records ≡ Ok rows → All ApartRow rows) → All ApartRow rows
      go (Ok cells) is e more = more cells (All-push ApartRow done cells all (row-apart types (length done) r cells is)) e
      go (Err x) is e more = absurd (cc)

  apart-at : (rows : List (List Content)) → All ApartRow rows → AreApart null rows
  apart-at rows all row col is = elim (cases_lt row (length rows)) [
    | inl here ↦ elim (cases_lt col (length (slice_index_or rows row []))) [
      | inl there ↦ all row [] here col nothing there is
      | inr past ↦ let none : nothing ≡ word null = sym (get_or_past (slice_index_or rows row []) col nothing past) ∙ is in cc
    ]
    | inr past ↦
        let none : nothing ≡ word null = sym (ap (λ (cells : List Content). slice_index_or cells col nothing) (get_or_past rows row [] past)) ∙ is in
        cc
  ]

  pub read-apart : (records : List (List (List ℕ))) (types : List ColumnType) (t : TableValue) → records_read records types nulls ≡ Ok t → AreApart null t.rows
  read-apart records types t e = elim (cases_Bool (are_null_texts nulls)) [
    | inl lawful ↦ let read : read_records nulls types records ≡ Ok t = rw lawful at e in with_header records read
    | inr unlawful ↦ let no : Err refused.BadNull ≡ Ok t = rw unlawful at e in absurd (cc)
  ]
    where
      under : (header : List (List ℕ)) (rest : List (List (List ℕ))) (begins : Result TableValue BuildRefused) → empty_table header types ≡ begins → read_records nulls types (header ∷ rest) ≡ Ok t → AreApart null t.rows
      under header rest (Err f) b e = let no : Err (of_begun f) ≡ Ok t = rw b at e in absurd (cc)
      under header rest (Ok start) b e = go (read_rows nulls types [] rest) refl
        where
          go : (r : Result (List (List Content)) ReadRefused) → read_rows nulls types [] rest ≡ r → AreApart null t.rows
          go (Err x) is = let no : Err x ≡ Ok t = rw (b, is) at e in absurd (cc)
          go (Ok rows) is =
              let made : Ok record start { rows = rows } ≡ Ok t = rw (b, is) at e in
              let q : record start { rows = rows } ≡ t = cc in
              let same : rows ≡ t.rows = ap (λ (v : TableValue). v.rows) q in
              subst (AreApart null) same (apart-at rows (rows-apart types rest [] rows (All-nil ApartRow) is))

      with_header : (records : List (List (List ℕ))) → read_records nulls types records ≡ Ok t → AreApart null t.rows
      with_header [] e = absurd (cc)
      with_header (header ∷ rest) e = under header rest (empty_table header types) refl e

-- and then each cell that isn't null is told from null
pub told_apart : (null : List ℕ) (rows : List (List Content)) → is_null_text null ≡ true → AreApart null rows → AreClear null rows
told_apart null rows lawful apart row col = go (cell_in rows row col) (apart row col)
  where
    go : (x : Content) → x ≢ word null → is_ambiguous null x ≡ false
    go nothing other = refl
    go (whole n) other = whole-apart n null lawful
    go (decimal units scale) other = decimal-apart scale units null lawful
    go (word s) other = false_from_ne_true (bytes_eq s null) (λ same. other (ap word ((bytes_eq-Decides s null).0 same)))
