-- What the cells seen so far say of whether a column can be a key.
use Rattle.std.proofs.Common.{◌≡◌, ◌∙◌, ◌<◌, ◌+◌, ℕ, ℤ, Bool, true, false, List, Some, None, [], ◌∷◌, ◌++◌, append_assoc, drop, get_or, cond, inl, inr, refl, sym, ap, subst, arith, length}
use Rattle.std.specs.Prelude.{◌↔◌, nat_eq, slice_index_or}
use Rattle.std.specs.List.{All, slice_get}
use Rattle.std.specs.Borrow.{Bor}
use Rattle.std.specs.Cmp.Lexicographic.{pointwise}
use Rattle.std.specs.Ordering.{int_eq}
use Rattle.std.proofs.lemmas.Bool.{cases_Bool, cases_lt}
use Rattle.std.proofs.lemmas.Bool.Decides.{Decides-int_eq}
use Rattle.std.proofs.lemmas.List.{drop_more}
use Rattle.std.proofs.lemmas.Option.{get_or_from_slice_get}
use Rattle.rj_columns.specs.Numbers.{Number, finer}
use Rattle.rj_columns.specs.NumberOrder.{are_same}
use Rattle.rj_columns.proofs.NumberLaws.{same-whole}
use Rattle.rj_columns.proofs.NumberOrders.{same-from, same-units}
use Rattle.rj_columns.proofs.Shifts.{finer-injective}
use Rattle.rj_columns.specs.Compare.{are_equal, is_null}
use Rattle.rj_columns.specs.Contents.{Content, FitsType, nothing, whole, decimal, word}
use Rattle.rj_columns.specs.Tables.{FitsTypes, TableValue, cell_of}
use Rattle.rj_columns.proofs.RowFacts.{FitsTypes-at, fits_kind}
use Rattle.rj_columns.specs.declared.cell.ColumnType.{ColumnType}
use Rattle.rj_columns.specs.declared.cell.ColumnType.TheVariants as kind
use Rattle.rj_line.specs.Keys.{IsKeyAbove, IsKeyColumn, key_lines, units_in}
use Rattle.rj_line.specs.Suggested.{column_line, text_in}

-- whether a cell has these units, and whether it has this text
abbrev pub has_units : ℤ → Content → Bool
has_units v nothing = false
has_units v (whole n) = int_eq n v
has_units v (decimal units scale) = int_eq units v
has_units v (word s) = false

abbrev pub has_text : Bor (List ℕ) → Content → Bool
has_text v nothing = false
has_text v (whole n) = false
has_text v (decimal units scale) = false
has_text v (word s) = pointwise nat_eq s v.now

same_bits : (b c : Bool) → (b ≡ true → c ≡ true) → (c ≡ true → b ≡ true) → b ≡ c
same_bits true c f g = sym (f refl)
same_bits false true f g = g refl
same_bits false false f g = refl

-- units of one scale tell numbers apart
same-scale : (a b : ℤ) (s r : ℕ) → s ≡ r → int_eq a b ≡ are_same (record { units = a; scale = s }) (record { units = b; scale = r })
same-scale a b s r e =
    let x : Number = record { units = a; scale = s } in
    let y : Number = record { units = b; scale = r } in
    same_bits (int_eq a b) (are_same x y)
    (λ h. same-from x y (ap (λ n. finer n r) ((Decides-int_eq a b).0 h) ∙ ap (finer b) (sym e)))
    (λ h. (Decides-int_eq a b).1 (finer-injective a b r (same-units x y h ∙ ap (finer b) e)))

-- another cell of the column has these units exactly if it is equal
pub units-equal : (k : ColumnType) (x y : Content) (v : ℤ) → FitsType k x → FitsType k y → Some v ≡ units_in x → has_units v y ≡ are_equal y x
units-equal kind.Int nothing y v fx fy e = absurd cc
units-equal kind.Int (whole m) nothing v fx fy e = refl
units-equal kind.Int (whole m) (whole n) v fx fy e = let is : v ≡ m = cc in ap (int_eq n) is ∙ sym (same-whole n m)
units-equal kind.Int (whole m) (decimal b r) v fx fy e = absurd fy
units-equal kind.Int (whole m) (word t) v fx fy e = absurd fy
units-equal kind.Int (decimal a s) y v fx fy e = absurd fx
units-equal kind.Int (word w) y v fx fy e = absurd fx
units-equal (kind.Num t) nothing y v fx fy e = absurd cc
units-equal (kind.Num t) (whole m) y v fx fy e = absurd fx
units-equal (kind.Num t) (decimal a s) nothing v fx fy e = refl
units-equal (kind.Num t) (decimal a s) (whole n) v fx fy e = absurd fy
units-equal (kind.Num t) (decimal a s) (decimal b r) v fx fy e = let is : v ≡ a = cc in ap (int_eq b) is ∙ same-scale b a r s (fy.0 ∙ sym fx.0)
units-equal (kind.Num t) (decimal a s) (word w) v fx fy e = absurd fy
units-equal (kind.Num t) (word w) y v fx fy e = absurd fx
units-equal kind.Text nothing y v fx fy e = absurd cc
units-equal kind.Text (whole m) y v fx fy e = absurd fx
units-equal kind.Text (decimal a s) y v fx fy e = absurd fx
units-equal kind.Text (word w) y v fx fy e = absurd cc

-- the same of texts
pub text-equal : (x y : Content) (v : Bor (List ℕ)) → Some v.now ≡ text_in x → has_text v y ≡ are_equal y x
text-equal nothing y v e = absurd cc
text-equal (whole m) y v e = absurd cc
text-equal (decimal a s) y v e = absurd cc
text-equal (word w) nothing v e = refl
text-equal (word w) (whole n) v e = refl
text-equal (word w) (decimal b r) v e = refl
text-equal (word w) (word t) v e = let is : v.now ≡ w = cc in ap (pointwise nat_eq t) is

-- a cell has the units, or the text, that are its own
pub units-own : (x : Content) (v q : ℤ) → Some v ≡ units_in x → int_eq v q ≡ has_units q x
units-own nothing v q e = absurd cc
units-own (whole m) v q e = let is : v ≡ m = cc in ap (λ n. int_eq n q) is
units-own (decimal a s) v q e = let is : v ≡ a = cc in ap (λ n. int_eq n q) is
units-own (word w) v q e = absurd cc

pub text-own : (x : Content) (v q : Bor (List ℕ)) → Some v.now ≡ text_in x → pointwise nat_eq v.now q.now ≡ has_text q x
text-own nothing v q e = absurd cc
text-own (whole m) v q e = absurd cc
text-own (decimal a s) v q e = absurd cc
text-own (word w) v q e = let is : v.now ≡ w = cc in ap (λ t. pointwise nat_eq t q.now) is

-- a cell with units, or with a text, isn't NULL, and one of a column of numbers without units is
pub units-present : (x : Content) (v : ℤ) → Some v ≡ units_in x → is_null x ≡ false
units-present nothing v e = absurd cc
units-present (whole m) v e = refl
units-present (decimal a s) v e = refl
units-present (word w) v e = refl

pub text-present : (x : Content) (v : List ℕ) → Some v ≡ text_in x → is_null x ≡ false
text-present nothing v e = absurd cc
text-present (whole m) v e = refl
text-present (decimal a s) v e = refl
text-present (word w) v e = refl

pub no-units : (k : ColumnType) (x : Content) → FitsType k x → (k ≡ kind.Text → ⊥) → None ≡ units_in x → is_null x ≡ true
no-units k nothing fits other e = refl
no-units k (whole m) fits other e = absurd cc
no-units k (decimal a s) fits other e = absurd cc
no-units kind.Int (word w) fits other e = absurd fits
no-units (kind.Num t) (word w) fits other e = absurd fits
no-units kind.Text (word w) fits other e = absurd (other refl)

pub no-text : (x : Content) → FitsType kind.Text x → None ≡ text_in x → is_null x ≡ true
no-text nothing fits e = refl
no-text (whole m) fits e = absurd fits
no-text (decimal a s) fits e = absurd fits
no-text (word w) fits e = absurd cc

module _ {K : Type 0} (holds : K → Content → Bool) (t : TableValue) (col : ℕ) where
  -- a set has exactly what the cells above a row hold
  abbrev pub AreSeen : ℕ → (K → Bool) → Type 0
  AreSeen row has = (q : K) → (has q ≡ true) ↔ ((i : ℕ) × (i < row) × (holds q (cell_of t i col) ≡ true))

  -- one cell more
  pub one-more : (row : ℕ) (old new : K → Bool) (eq : K → Bool) → AreSeen row old → ((q : K) → eq q ≡ holds q (cell_of t row col)) → ((q : K) → new q ≡ cond (eq q) true (old q))
      → AreSeen (row + 1) new
  one-more row old new eq seen own is q = (there, back)
    where
      there : new q ≡ true → (i : ℕ) × (i < row + 1) × (holds q (cell_of t i col) ≡ true)
      there h = elim (cases_Bool (eq q)) [
        | inl here ↦ (row, omega arith, sym (own q) ∙ here)
        | inr other ↦
            let (i, inside, at) = (seen q).0 (sym (is q ∙ ap (λ b. cond b true (old q)) other) ∙ h) in
            (i, omega (arith, inside), at)
      ]

      back : (i : ℕ) × (i < row + 1) × (holds q (cell_of t i col) ≡ true) → new q ≡ true
      back (i, inside, at) = elim (cases_Bool (eq q)) [
        | inl here ↦ is q ∙ ap (λ b. cond b true (old q)) here
        | inr other ↦ elim (cases_lt i row) [
          | inl above ↦ is q ∙ (ap (λ b. cond b true (old q)) other ∙ (seen q).1 (i, above, at))
          | inr below ↦
              let last : row ≡ i = omega (arith, inside, below) in
              let no : eq q ≡ true = own q ∙ (ap (λ k. holds q (cell_of t k col)) last ∙ at) in
              let bad : false ≡ true = sym other ∙ no in
              absurd cc
        ]
      ]

  -- a cell that holds what none above it does
  pub key-more : (row : ℕ) (has : K → Bool) (v : K) → AreSeen row has → has v ≡ false → is_null (cell_of t row col) ≡ false
      → ((i : ℕ) → i < row → holds v (cell_of t i col) ≡ are_equal (cell_of t i col) (cell_of t row col)) → IsKeyAbove t col row → IsKeyAbove t col (row + 1)
  key-more row has v seen new some same above = record { present = present; apart = apart }
    where
      present : (i : ℕ) → i < row + 1 → is_null (cell_of t i col) ≡ false
      present i inside = elim (cases_lt i row) [
        | inl before ↦ above.present i before
        | inr last ↦
            let is : row ≡ i = omega (arith, inside, last) in
            subst (λ k. is_null (cell_of t k col) ≡ false) is some
      ]

      here : (i : ℕ) → i < row → are_equal (cell_of t i col) (cell_of t row col) ≡ false
      here i inside = sym (same i inside) ∙ elim (cases_Bool (holds v (cell_of t i col))) [
        | inl known ↦ let no : false ≡ true = sym new ∙ (seen v).1 (i, inside, known) in absurd cc
        | inr other ↦ other
      ]

      apart : (i j : ℕ) → i < j → j < row + 1 → are_equal (cell_of t i col) (cell_of t j col) ≡ false
      apart i j less inside = elim (cases_lt j row) [
        | inl before ↦ above.apart i j less before
        | inr last ↦
            let is : row ≡ j = omega (arith, inside, last) in
            subst (λ k. are_equal (cell_of t i col) (cell_of t k col) ≡ false) is (here i (omega (arith, less, inside, last)))
      ]

  -- a cell that holds what one above it does
  pub repeated : (row : ℕ) (has : K → Bool) (v : K) → AreSeen row has → has v ≡ true → row < length t.rows
      → ((i : ℕ) → i < row → holds v (cell_of t i col) ≡ are_equal (cell_of t i col) (cell_of t row col)) → IsKeyColumn t col → ⊥
  repeated row has v seen old inside same key =
      let (i, above, at) = (seen v).0 old in
      let no : false ≡ true = sym (key.apart i row above inside) ∙ (sym (same i above) ∙ at) in
      absurd cc

-- a cell fits the type of its column
pub cell-fits : (t : TableValue) (row col : ℕ) (k : ColumnType) → All (FitsTypes t.types) t.rows → row < length t.rows → col < length t.types → slice_get t.types col ≡ Some k
    → FitsType k (cell_of t row col)
cell-fits t row col k typed inside column is =
    fits_kind t.types col (cell_of t row col) k is (FitsTypes-at t.types (slice_index_or t.rows row []) col (typed row [] inside) column)

-- a NULL
pub null-no_key : (t : TableValue) (col row : ℕ) → row < length t.rows → is_null (cell_of t row col) ≡ true → IsKeyColumn t col → ⊥
null-no_key t col row inside null key = let no : false ≡ true = sym (key.present row inside) ∙ null in absurd cc

-- the line of one column more, if it is a key
line-first : (key : Bool) (keys : List Bool) (name : List ℕ) (names : List (List ℕ)) (k : ColumnType) (kinds : List ColumnType)
    → key_lines (key ∷ keys) (name ∷ names) (k ∷ kinds) ≡ cond key (column_line name k) [] ++ key_lines keys names kinds
line-first true keys name names k kinds = refl
line-first false keys name names k kinds = refl

pub key-lines-step : (keys : List Bool) (names : List (List ℕ)) (kinds : List ColumnType) (col : ℕ) (key : Bool) (name : List ℕ) (k : ColumnType) (out new : List ℕ)
    → col < length keys → col < length names → col < length kinds → drop col keys ≡ key ∷ drop (col + 1) keys → slice_get names col ≡ Some name → k ≡ get_or kinds col k
    → new ≡ out ++ cond key (column_line name k) []
    → new ++ key_lines (drop (col + 1) keys) (drop (col + 1) names) (drop (col + 1) kinds) ≡ out ++ key_lines (drop col keys) (drop col names) (drop col kinds)
key-lines-step keys names kinds col key name k out new hb hn hk eb named typed is =
    let line = cond key (column_line name k) [] in
    let rest = key_lines (drop (col + 1) keys) (drop (col + 1) names) (drop (col + 1) kinds) in
    let en : drop col names ≡ name ∷ drop (col + 1) names =
    drop_more names col name hn ∙ ap (λ (x : List ℕ). x ∷ drop (col + 1) names) (get_or_from_slice_get names col name name named) in
    let ek : drop col kinds ≡ k ∷ drop (col + 1) kinds = drop_more kinds col k hk ∙ ap (λ (x : ColumnType). x ∷ drop (col + 1) kinds) (sym typed) in
    let step : key_lines (drop col keys) (drop col names) (drop col kinds) ≡ line ++ rest =
    ap (λ (l : List Bool). key_lines l (drop col names) (drop col kinds)) eb
    ∙ (ap (λ (l : List (List ℕ)). key_lines (key ∷ drop (col + 1) keys) l (drop col kinds)) en
    ∙ (ap (λ (l : List ColumnType). key_lines (key ∷ drop (col + 1) keys) (name ∷ drop (col + 1) names) l) ek
    ∙ line-first key (drop (col + 1) keys) name (drop (col + 1) names) k (drop (col + 1) kinds))) in
    ap (λ (l : List ℕ). l ++ rest) is ∙ (append_assoc out line rest ∙ ap (λ (l : List ℕ). out ++ l) (sym step))
