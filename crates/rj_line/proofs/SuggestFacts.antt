-- What a suggested type reads: each number of its column.
use Rattle.std.proofs.Common.{◌≡◌, ◌∙◌, ℕ, ◌+◌, ◌-◌, ◌*◌, ◌^◌, ◌<◌, ◌≤◌, Bool, true, false, List, [], ◌∷◌, ◌++◌, length, take, drop, Option, Some, None, is_some, refl, ap, sym, subst, lit<, inl, inr, ◌⊎◌, zero, suc, get_or, append_assoc, below_more, arith}
use Rattle.std.specs.Prelude.{◌==◌, if◌then◌else◌, max, not, IfSome}
use Rattle.std.specs.Option.{IsSomeAnd}
use Rattle.std.specs.Str.{all_ascii_digits}
use Rattle.std.specs.Str.Parse.{digits_value, without_leading_sign}
use Rattle.std.proofs.lemmas.Bool.{and_parts, cases_lt, lt-ltb}
use Rattle.std.specs.List.{slice_get}
use Rattle.std.proofs.lemmas.List.{drop_all, drop_more, length-append, take_all}
use Rattle.std.proofs.lemmas.Option.{get_or_from_slice_get}
use Rattle.std.proofs.lemmas.Nat.{pow-add}
use Rattle.std.proofs.lemmas.Str.Parse.{numerals_by_value, tells_all_ascii_digits, digits_value_short}
use Rattle.std.proofs.Math.Nat.{pow-le-pow_right, mul-lt-mul_of_pos_right}
use Rattle.rj_columns.proofs.Shifts.{ten_pow_pos}
use Rattle.rj_columns.proofs.NumberSizes.{and, digits-append}
use Rattle.rj_columns.specs.NumbersRead.{after_point, are_digits, are_zeros, before_point, fits, has_point, is_numeric_text, is_unsigned_text, size_at}
use Rattle.rj_columns.specs.declared.decimal.numeric.NumericType.{NumericType}
use Rattle.rj_columns.specs.declared.cell.ColumnType.TheVariants as kind
use Rattle.rj_columns.specs.declared.cell.ColumnType.{ColumnType}
use Rattle.rj_columns.specs.Tables.{TableValue, cell_of}
use Rattle.rj_csv_io.specs.Typed.{is_int_text, typed_cell}
use Rattle.rj_line.proofs.RetypedFacts.{ReadColumns, ReadsText}
use Rattle.rj_line.specs.Suggested.{AreSuggested, IsFirstNotOf, IsMostAbove, IsSuggested, SomeText, column_line, column_lines, digits_of, is_of, most_with, text_in}
use Rattle.rj_line.specs.declared.suggest.number.Form.{Form}
use Rattle.rj_line.specs.declared.suggest.number.Form.TheVariants as form
use Rattle.rj_line.specs.declared.suggest.number.Part.{Part}
use Rattle.rj_line.specs.declared.suggest.number.Part.TheVariants as part

-- nothing stands after a point that isn't there
no-point : (text : List ℕ) → has_point text ≡ false → after_point text ≡ []
no-point [] e = refl
no-point (c ∷ cs) e = go (c == 46) (no-point cs) e
  where
    go : (b : Bool) → (has_point cs ≡ false → after_point cs ≡ []) → (if b then true else has_point cs) ≡ false → (if b then cs else after_point cs) ≡ []
    go true rest e = cc
    go false rest e = rest e

-- the digits of an unsigned number
before-digits : (text : List ℕ) → is_unsigned_text text ≡ true → all_ascii_digits (before_point text) ≡ true
before-digits text h = (and_parts _ _ (and_parts _ _ h).0).1

after-digits : (text : List ℕ) → is_unsigned_text text ≡ true → all_ascii_digits (after_point text) ≡ true
after-digits text h = go (has_point text) refl (and_parts _ _ h).1
  where
    go : (b : Bool) → has_point text ≡ b → (if b then are_digits (after_point text) else true) ≡ true → all_ascii_digits (after_point text) ≡ true
    go true is e = (and_parts _ _ e).1
    go false is e = ap all_ascii_digits (no-point text is)

-- digits, so many before the point and after it, write a number of a type with as many
size-below : (p a : ℕ) (xs ys : List ℕ) → all_ascii_digits xs ≡ true → all_ascii_digits ys ≡ true → length ys ≤ a → length xs + a ≤ p → size_at a xs ys < 10 ^ p
size-below p a xs ys dx dy short long =
    let own = numerals_by_value _ tells_all_ascii_digits in
    let k = a - length ys in
    let kept : take a ys ≡ ys = take_all a ys short in
    let digits : all_ascii_digits (xs ++ ys) ≡ true = digits-append xs ys ∙ and _ _ dx dy in
    let m = length (xs ++ ys) in
    let small : digits_value 10 (xs ++ ys) < 10 ^ m = digits_value_short own (xs ++ ys) m digits (omega arith) in
    let product : digits_value 10 (xs ++ ys) * 10 ^ k < 10 ^ m * 10 ^ k = mul-lt-mul_of_pos_right small (ten_pow_pos k) in
    let joined : 10 ^ (m + k) ≡ 10 ^ m * 10 ^ k = pow-add 10 m k in
    let most : 10 ^ (m + k) ≤ 10 ^ p = pow-le-pow_right (lit< tt) (omega (arith, length-append xs ys)) in
    rw kept (omega (arith, product, joined, most))

pub number-fits : (p a : ℕ) (xs ys : List ℕ) → all_ascii_digits xs ≡ true → all_ascii_digits ys ≡ true → length ys ≤ a → length xs + a ≤ p → fits p a xs ys ≡ true
number-fits p a xs ys dx dy short long =
    and _ _ (ap are_zeros (drop_all a ys short)) (lt-ltb _ _ (size-below p a xs ys dx dy short long))

-- a number with no more digits than a numeric type has is a value of it
pub number-reads : (s : List ℕ) (n : NumericType) → is_of form.Number s ≡ true → length (digits_of part.After s) ≤ n.scale
    → length (digits_of part.Before s) + n.scale ≤ n.precision → is_some (typed_cell (kind.Num n) s) ≡ true
number-reads s n holds after before =
    let text = without_leading_sign s in
    let unsigned : is_unsigned_text text ≡ true = (and_parts _ _ holds).0 in
    let fit = number-fits n.precision n.scale (before_point text) (after_point text) (before-digits text unsigned) (after-digits text unsigned) after before in
    let numeric : is_numeric_text n.precision n.scale s ≡ true = and _ _ unsigned fit in
    rw numeric refl

pub int-reads : (s : List ℕ) → is_of form.Int s ≡ true → is_some (typed_cell kind.Int s) ≡ true
int-reads s holds = let int : is_int_text s ≡ true = (and_parts _ _ holds).0 in rw int refl

any-text : (o : Option (List ℕ)) → IfSome o (λ _. Unit {0})
any-text None = tt
any-text (Some s) = tt

int-texts : (o : Option (List ℕ)) → IfSome o (λ s. is_of form.Int s ≡ true) → IfSome o (ReadsText kind.Int)
int-texts None h = tt
int-texts (Some s) h = int-reads s h

number-texts : (n : NumericType) (before after : ℕ) (o : Option (List ℕ)) → before + after ≤ n.precision → n.scale ≡ after → IfSome o (λ s. is_of form.Number s ≡ true)
    → IfSome o (λ s. length (digits_of part.Before s) ≤ before) → IfSome o (λ s. length (digits_of part.After s) ≤ after) → IfSome o (ReadsText (kind.Num n))
number-texts n before after None precision scale holds b a = tt
number-texts n before after (Some s) precision scale holds b a = number-reads s n holds (omega (arith, a, scale)) (omega (arith, b, precision, scale))

-- a suggested type reads each text of its column
kind-reads : (t : TableValue) (row col : ℕ) (k : ColumnType) → row < length t.rows → IsSuggested t col k → IfSome (text_in (cell_of t row col)) (ReadsText k)
kind-reads t row col kind.Int inside h = int-texts (text_in (cell_of t row col)) (h.1 row inside)
kind-reads t row col (kind.Num n) inside h =
    let enough : h.2.before + h.2.after ≤ n.precision = omega (arith, h.2.type.0, h.2.type.1) in
    number-texts n h.2.before h.2.after (text_in (cell_of t row col)) enough h.2.type.2 (h.1 row inside) (h.2.most_before.bound row inside) (h.2.most_after.bound row inside)
kind-reads t row col kind.Text inside h = any-text (text_in (cell_of t row col))

pub suggested-read : (t : TableValue) (kinds : List ColumnType) → AreSuggested t kinds → ReadColumns kinds t.rows
suggested-read t kinds are row col k inside is = kind-reads t row col k inside (are.each col k is)

-- a column with a first text that isn't of a form has one
pub has-other : (form : Form) (t : TableValue) (col : ℕ) (o : Option ℕ) (b : Bool) → is_some o ≡ not b → IfSome o (IsFirstNotOf form t col) → b ≡ false
    → SomeText t col (λ s. is_of form s ≡ false)
has-other form t col (Some row) b is first none = (row, first.inside, first.other)
has-other form t col None b is first none = let no : false ≡ true = rw none at is in absurd cc

-- the most digits, one row on
bound-step : (t : TableValue) (col row : ℕ) (p : Part) (most new : ℕ) → most ≤ new → IfSome (text_in (cell_of t row col)) (λ s. length (digits_of p s) ≤ new)
    → ((k : ℕ) → k < row → IfSome (text_in (cell_of t k col)) (λ s. length (digits_of p s) ≤ most))
    → (k : ℕ) → k < row + 1 → IfSome (text_in (cell_of t k col)) (λ s. length (digits_of p s) ≤ new)
bound-step t col row p most new above here before =
    below_more (λ k. IfSome (text_in (cell_of t k col)) (λ s. length (digits_of p s) ≤ new)) row (λ k inside. weaker (text_in (cell_of t k col)) (before k inside)) here
  where
    weaker : (o : Option (List ℕ)) → IfSome o (λ s. length (digits_of p s) ≤ most) → IfSome o (λ s. length (digits_of p s) ≤ new)
    weaker None h = tt
    weaker (Some s) h = omega (arith, h, above)

met-step : (t : TableValue) (col row : ℕ) (p : Part) (least most : ℕ)
    → (most ≡ least) ⊎ ((k : ℕ) × (k < row) × IsSomeAnd (text_in (cell_of t k col)) (λ s. length (digits_of p s) ≡ most))
    → (most ≡ least) ⊎ ((k : ℕ) × (k < row + 1) × IsSomeAnd (text_in (cell_of t k col)) (λ s. length (digits_of p s) ≡ most))
met-step t col row p least most (inl is) = inl is
met-step t col row p least most (inr (k, inside, at)) = inr (k, omega arith, at)

most-none : (t : TableValue) (col row : ℕ) (p : Part) (least most : ℕ) → text_in (cell_of t row col) ≡ None
    → IsMostAbove t col row p least most → IsMostAbove t col (row + 1) p least most
most-none t col row p least most none h =
    let P : Option (List ℕ) → Type 0 = λ o. IfSome o (λ s. length (digits_of p s) ≤ most) in
    record {
      enough = h.enough;
      bound = bound-step t col row p most most (omega arith) (subst P (sym none) tt) h.bound;
      met = met-step t col row p least most h.met;
    }

most-some : (t : TableValue) (col row : ℕ) (p : Part) (least most new : ℕ) (s : List ℕ) → text_in (cell_of t row col) ≡ Some s → new ≡ max most (length (digits_of p s))
    → IsMostAbove t col row p least most → IsMostAbove t col (row + 1) p least new
most-some t col row p least most new s some is h =
    let P : Option (List ℕ) → Type 0 = λ o. IfSome o (λ s. length (digits_of p s) ≤ new) in
    let Q : Option (List ℕ) → Type 0 = λ o. IsSomeAnd o (λ s. length (digits_of p s) ≡ new) in
    let M : ℕ → Type 0 = λ m. (m ≡ least) ⊎ ((k : ℕ) × (k < row + 1) × IsSomeAnd (text_in (cell_of t k col)) (λ s. length (digits_of p s) ≡ m)) in
    record {
      enough = omega (arith, is, h.enough);
      bound = bound-step t col row p most new (omega (arith, is)) (subst P (sym some) (omega (arith, is))) h.bound;
      met = elim (cases_lt (length (digits_of p s)) most) [
        | inl small ↦
            let same : new ≡ most = omega (arith, is, small) in
            subst M (sym same) (met-step t col row p least most h.met)
        | inr large ↦
            let same : length (digits_of p s) ≡ new = omega (arith, is, large) in
            inr (row, omega arith, subst Q (sym some) same)
      ];
    }

pub most-step : (t : TableValue) (col row : ℕ) (p : Part) (least most new : ℕ) (o : Option (List ℕ)) → o ≡ text_in (cell_of t row col) → new ≡ most_with p most o
    → IsMostAbove t col row p least most → IsMostAbove t col (row + 1) p least new
most-step t col row p least most new None at is h = let P : ℕ → Type 0 = IsMostAbove t col (row + 1) p least in subst P (sym is) (most-none t col row p least most (sym at) h)
most-step t col row p least most new (Some s) at is h = most-some t col row p least most new s (sym at) is h

-- one item more
get-pushed : {A : Type 0} (xs : List A) (new : A) (i : ℕ) (x : A) → slice_get (xs ++ new ∷ []) i ≡ Some x → (slice_get xs i ≡ Some x) ⊎ ((i ≡ length xs) × (new ≡ x))
get-pushed [] new zero x e = inr (refl, cc)
get-pushed [] new (suc i) x e = absurd cc
get-pushed (y ∷ ys) new zero x e = inl e
get-pushed (y ∷ ys) new (suc i) x e = elim (get-pushed ys new i x e) [ inl before ↦ inl before | inr last ↦ inr (ap suc last.0, last.1) ]

pub each-pushed : {A : Type 0} (P : ℕ → A → Type 0) (xs : List A) (n : ℕ) (new : A) → length xs ≡ n → P n new
    → ((i : ℕ) (x : A) → slice_get xs i ≡ Some x → P i x)
    → (i : ℕ) (x : A) → slice_get (xs ++ new ∷ []) i ≡ Some x → P i x
each-pushed P xs n new size here before i x is = elim (get-pushed xs new i x is) [
  | inl at ↦ before i x at
  | inr last ↦ subst (P i) last.1 (subst (λ k. P k new) (sym (last.0 ∙ size)) here)
]

-- one line more
pub lines-step : (names : List (List ℕ)) (kinds : List ColumnType) (col : ℕ) (name : List ℕ) (kind : ColumnType) (out new : List ℕ)
    → col < length names → col < length kinds → slice_get names col ≡ Some name → kind ≡ get_or kinds col kind → new ≡ out ++ column_line name kind
    → new ++ column_lines (drop (col + 1) names) (drop (col + 1) kinds) ≡ out ++ column_lines (drop col names) (drop col kinds)
lines-step names kinds col name kind out new hn hk named typed is =
    let rest = column_lines (drop (col + 1) names) (drop (col + 1) kinds) in
    let en : drop col names ≡ name ∷ drop (col + 1) names =
    drop_more names col name hn ∙ ap (λ (x : List ℕ). x ∷ drop (col + 1) names) (get_or_from_slice_get names col name name named) in
    let ek : drop col kinds ≡ kind ∷ drop (col + 1) kinds = drop_more kinds col kind hk ∙ ap (λ (x : ColumnType). x ∷ drop (col + 1) kinds) (sym typed) in
    let step : column_lines (drop col names) (drop col kinds) ≡ column_line name kind ++ rest =
    ap (λ (l : List (List ℕ)). column_lines l (drop col kinds)) en ∙ ap (λ (l : List ColumnType). column_lines (name ∷ drop (col + 1) names) l) ek in
    ap (λ (l : List ℕ). l ++ rest) is ∙ (append_assoc out (column_line name kind) rest ∙ ap (λ (l : List ℕ). out ++ l) (sym step))
