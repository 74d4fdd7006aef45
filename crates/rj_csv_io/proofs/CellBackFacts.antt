-- The text of a cell reads back as the cell.
use Rattle.std.proofs.Common.{◌≡◌, ◌∙◌, ℕ, ℤ, List, [], ◌∷◌, ◌++◌, map, get_or, true, false, Result, Some, Ok, Err, All, refl, sym, ap, append_assoc, append-nil, inl, inr, w64, FitsSigned}
use Rattle.std.specs.Fmt.{signed_decimal}
use Rattle.std.specs.Str.{bytes_eq}
use Rattle.std.specs.Str.Parse.{signed_digits_value}
use Rattle.std.proofs.lemmas.Bool.{and_parts, cases_Bool, false≢true, or_from}
use Rattle.std.proofs.lemmas.Fmt.{parse-signed_decimal}
use Rattle.std.proofs.lemmas.List.Elements.{All-from_get_or, All-head, All-tail}
use Rattle.std.proofs.lemmas.Str.{is_utf8-from_IsUtf8}
use Rattle.rj_columns.proofs.NumbersReadBack.{written_back}
use Rattle.rj_columns.specs.declared.cell.ColumnType.{ColumnType}
use Rattle.rj_columns.specs.declared.cell.ColumnType.TheVariants as kind
use Rattle.rj_columns.specs.Contents.{Content, nothing, whole, decimal, word, FitsType}
use Rattle.rj_columns.specs.Tables.{FitsTypes}
use Rattle.rj_csv_io.specs.Ambiguous.{AreApart}
use Rattle.rj_csv_io.specs.RoundTrips.{IsHeld, IsNoneOf}
use Rattle.rj_csv_io.specs.Shown.{shown}
use Rattle.rj_csv_io.specs.Tables.{are_null_texts, is_null_text}
use Rattle.rj_csv_io.specs.Typed.{is_int_text, is_null_field, read_cell, read_cells}
use Rattle.rj_csv_io.proofs.NullFacts.{decimal-apart, whole-apart}
use Rattle.rj_csv_io.proofs.TypedFacts.{int-Decides}

-- the text of a whole number of 64 bits is an integer, with this value
int-back : (n : ℤ) → FitsSigned w64 n → (is_int_text (signed_decimal n) ≡ true) × (signed_digits_value 10 (signed_decimal n) ≡ n)
int-back n fits = elim (cases_Bool (is_int_text (signed_decimal n))) [
  | inl is ↦
      let read : Result ℤ ℕ = Ok (signed_digits_value 10 (signed_decimal n)) in
      let back : read ≡ Ok n = parse-signed_decimal w64 n (signed_decimal n) read fits fits.sfits refl ((int-Decides (signed_decimal n)).0 is, refl) in
      let same : signed_digits_value 10 (signed_decimal n) ≡ n = cc in
      (is, same)
  | inr not ↦
      let read : Result ℤ ℕ = Err 0 in
      let back : read ≡ Ok n = parse-signed_decimal w64 n (signed_decimal n) read fits fits.sfits refl (λ p. false≢true (sym not ∙ (int-Decides (signed_decimal n)).1 p)) in
      absurd (cc)
]

-- a text that is none of the lawful null texts is none of these
none-null : (nulls : List (List ℕ)) (text : List ℕ) → ((null : List ℕ) → is_null_text null ≡ true → bytes_eq text null ≡ false)
    → are_null_texts nulls ≡ true → is_null_field nulls text ≡ false
none-null [] text apart lawful = refl
none-null (null ∷ nulls) text apart lawful =
    let parts = and_parts (is_null_text null) (are_null_texts nulls) lawful in
    or_from (bytes_eq text null) (is_null_field nulls text) (apart null parts.0) (none-null nulls text apart parts.1)

module _ (nulls : List (List ℕ)) (null : List ℕ) (lawful : are_null_texts nulls ≡ true) (among : is_null_field nulls null ≡ true) where
  pub cell-back : (k : ColumnType) (x : Content) → FitsType k x → IsHeld x → IsNoneOf nulls x → read_cell nulls k (shown null x) ≡ Some x
  cell-back k nothing fits held apart = rw among refl
  cell-back kind.Int (whole n) fits held apart =
      let back = int-back n held in
      rw (none-null nulls (signed_decimal n) (whole-apart n) lawful, back.0, back.1) refl
  cell-back (kind.Num t) (whole n) fits held apart = absurd fits
  cell-back kind.Text (whole n) fits held apart = absurd fits
  cell-back kind.Int (decimal units scale) fits held apart = absurd fits
  cell-back (kind.Num t) (decimal units scale) fits held apart =
      rw (none-null nulls (shown null (decimal units scale)) (decimal-apart scale units) lawful, fits.0, written_back t.precision t.scale units t.limits.1 fits.1) refl
  cell-back kind.Text (decimal units scale) fits held apart = absurd fits
  cell-back kind.Int (word s) fits held apart = absurd fits
  cell-back (kind.Num t) (word s) fits held apart = absurd fits
  cell-back kind.Text (word s) fits held apart = elim (cases_Bool (is_null_field nulls s)) [
    | inl is ↦ absurd (apart s is refl)
    | inr other ↦ rw (other, is_utf8-from_IsUtf8 s held) refl
  ]

  -- and so do the texts of a row's cells
  pub cells-back : (types : List ColumnType) (cells : List Content) (row : ℕ) (done : List Content) → FitsTypes types cells → All IsHeld cells → All (IsNoneOf nulls) cells
      → read_cells nulls row done types (map (shown null) cells) ≡ Ok (done ++ cells)
  unfolding read_cells FitsTypes
  cells-back [] [] row done fits held apart = ap Ok (sym (append-nil done))
  cells-back [] (x ∷ cells) row done fits held apart = absurd fits
  cells-back (t ∷ types) [] row done fits held apart = absurd fits
  cells-back (t ∷ types) (x ∷ cells) row done fits held apart =
      let here = cell-back t x fits.0 (All-head IsHeld x cells held) (All-head (IsNoneOf nulls) x cells apart) in
      let more = cells-back types cells row (done ++ x ∷ []) fits.1 (All-tail IsHeld x cells held) (All-tail (IsNoneOf nulls) x cells apart) in
      rw here (more ∙ ap Ok (append_assoc done (x ∷ []) cells))

-- no cell of rows is one of the null texts
pub none-of : (nulls : List (List ℕ)) (rows : List (List Content)) → ((text : List ℕ) → is_null_field nulls text ≡ true → AreApart text rows) → All (All (IsNoneOf nulls)) rows
none-of nulls rows apart =
    All-from_get_or (All (IsNoneOf nulls)) rows [] (λ row _. All-from_get_or (IsNoneOf nulls) (get_or rows row []) nothing (λ col _ text is. apart text is row col))
