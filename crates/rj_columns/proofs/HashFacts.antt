-- Hashes that take up the cells at rows one by one.
use Rattle.std.proofs.Common.{◌≡◌, ◌<◌, ◌≤◌, ◌+◌, ◌-◌, ◌⊎◌, inl, inr, ℕ, List, [], Option, None, Some, ◌++◌, length, map, take, drop, set, get_or, refl, sym, ap, subst, ◌∙◌, arith}
use Rattle.std.specs.Prelude.{All, slice_get, slice_range}
use Rattle.std.proofs.lemmas.List.{length-append, length-drop, length-set, length-take-le, get_or-append_right, get_or-drop, get_or-map, get_or-set_same, get_or-set_other, get_or-take}
use Rattle.std.proofs.lemmas.Option.{get_or_from_slice_get}
use Rattle.std.proofs.Math.ListN.{get_or-append}
use Rattle.rj_columns.specs.declared.cell.ColumnType.{ColumnType}
use Rattle.rj_columns.specs.Contents.{Content, nothing, FitsType, IsInLimits}
use Rattle.rj_columns.specs.Hashed.{HaveTaken}
use Rattle.rj_columns.specs.Tables.{TableValue, cell_of, column_in}
use Rattle.rj_columns.proofs.LimitFacts.{FitsType-limits}

-- the first hashes have taken up their cells, and the others are as before
pub record Taking (added : Option ℕ → Content → Option ℕ) (cell : ℕ → Content) (rows : List ℕ) (before now : List (Option ℕ)) (i : ℕ) : Type 0 where
  pub len : length now ≡ length before
  pub done : (k : ℕ) → k < i → get_or now k None ≡ added (get_or before k None) (cell (get_or rows k 0))
  pub rest : (k : ℕ) → i ≤ k → get_or now k None ≡ get_or before k None

pub Taking-none : (added : Option ℕ → Content → Option ℕ) (cell : ℕ → Content) (rows : List ℕ) (before : List (Option ℕ)) → Taking added cell rows before before 0
Taking-none added cell rows before = record {
  len = refl;
  done = λ k h. absurd (omega arith);
  rest = λ k h. refl;
}

-- one more hash
pub Taking-more : (added : Option ℕ → Content → Option ℕ) (cell : ℕ → Content) (rows : List ℕ) (before now : List (Option ℕ)) (i : ℕ) (x : Option ℕ) → i < length before → Taking added cell rows before now i
    → x ≡ added (get_or now i None) (cell (get_or rows i 0)) → Taking added cell rows before (set now i x) (i + 1)
Taking-more added cell rows before now i x h z e = record {
  len = length-set now i x ∙ z.len;
  done = λ k l. elim (last k i l) [
    | inl low ↦ get_or-set_other now i k x None (λ s. absurd (omega arith)) ∙ z.done k low
    | inr same ↦ subst (λ n. get_or (set now i x) n None ≡ added (get_or before n None) (cell (get_or rows n 0))) (sym same)
        (get_or-set_same now i x None (let n = z.len in omega arith) ∙ (e ∙ ap (λ v. added v (cell (get_or rows i 0))) (z.rest i (omega arith))))
  ];
  rest = λ k l. get_or-set_other now i k x None (λ s. absurd (omega arith)) ∙ z.rest k (omega arith);
}
  where
    last : (k i : ℕ) → k < i + 1 → (k < i) ⊎ (k ≡ i)
    last k i h = grind arith

pub Taking-all : (added : Option ℕ → Content → Option ℕ) (cell : ℕ → Content) (rows : List ℕ) (before now : List (Option ℕ)) (i : ℕ) → length rows ≤ i → Taking added cell rows before now i → HaveTaken added cell rows before now
Taking-all added cell rows before now i h z = record {
  len = z.len;
  each = λ k l. z.done k (omega arith);
}

-- a row that is counted from one on
pub inside : {from row size : ℕ} → (from ≤ row) × (row < from + size) → row - from < size
inside h = omega (arith, h.0, h.1)

-- the content at a place of values, which were shown as contents
pub shown-at : {A : Type 0} (f : A → Content) (values : List A) (i : ℕ) (x : A) → i < length values → slice_get values i ≡ Some x → get_or (map f values) i nothing ≡ f x
shown-at f values i x h e = get_or-map f values i x nothing h ∙ ap f (get_or_from_slice_get values i x x e)

-- a table's column at a row
pub column-cell : (t : TableValue) (col : ℕ) (cells : List Content) (row : ℕ) → cells ≡ column_in t.rows col → row < length t.rows → get_or cells row nothing ≡ cell_of t row col
column-cell t col cells row e h = ap (λ l. get_or l row nothing) e ∙ get_or-map (λ r. get_or r col nothing) t.rows row [] nothing h

-- the cells of a column are within their limits
pub column-limits : (kind : ColumnType) (cells : List Content) → All (FitsType kind) cells → All IsInLimits cells
column-limits kind cells typed = λ k d h. FitsType-limits kind (get_or cells k d) (typed k d h)

-- the element of a part
range-at : {A : Type 0} (l : List A) (i j k : ℕ) (d : A) → i ≤ k → k < j → get_or (slice_range l i j) (k - i) d ≡ get_or l k d
range-at l i j k d low high =
    let place : i + (k - i) ≡ k = omega arith in
    get_or-take (j - i) (drop i l) (k - i) d (omega arith) ∙ (get_or-drop i l (k - i) d ∙ ap (λ n. get_or l n d) place)

range-size : {A : Type 0} (l : List A) (i j : ℕ) → i ≤ j → j ≤ length l → length (slice_range l i j) ≡ j - i
range-size l i j low high = let size = length-drop i l in length-take-le (j - i) (drop i l) (omega arith)

-- what stands at a place after a part was written
written-before : {A : Type 0} (now part : List A) (i j k : ℕ) (d : A) → i ≤ length now → k < i → get_or (take i now ++ (part ++ drop j now)) k d ≡ get_or now k d
written-before now part i j k d all low =
    let size = length-take-le i now all in
    get_or-append (take i now) (part ++ drop j now) d k (omega arith) ∙ get_or-take i now k d low

written-within : {A : Type 0} (now part : List A) (i j k : ℕ) (d : A) → i ≤ length now → i ≤ k → k - i < length part → get_or (take i now ++ (part ++ drop j now)) k d ≡ get_or part (k - i) d
written-within now part i j k d all low high =
    get_or-append_right (take i now) (part ++ drop j now) i k d (length-take-le i now all) low ∙ get_or-append part (drop j now) d (k - i) high

written-behind : {A : Type 0} (now part : List A) (i j k : ℕ) (d : A) → i ≤ length now → i ≤ j → length part ≡ j - i → j ≤ k → get_or (take i now ++ (part ++ drop j now)) k d ≡ get_or now k d
written-behind now part i j k d all order size behind =
    let place : j + (k - i - (j - i)) ≡ k = omega arith in
    get_or-append_right (take i now) (part ++ drop j now) i k d (length-take-le i now all) (omega arith)
    ∙ (get_or-append_right part (drop j now) (j - i) (k - i) d size (omega arith) ∙ (get_or-drop j now (k - i - (j - i)) d ∙ ap (λ n. get_or now n d) place))

-- the hashes of a run of rows have taken up their cells too
pub Taking-run : (added : Option ℕ → Content → Option ℕ) (cell one : ℕ → Content) (rows : List ℕ) (before now part new : List (Option ℕ)) (i j : ℕ) → i ≤ j → j ≤ length rows → length before ≡ length rows
    → Taking added cell rows before now i → HaveTaken added one (slice_range rows i j) (slice_range now i j) part
    → ((k : ℕ) → i ≤ k → k < j → one (get_or rows k 0) ≡ cell (get_or rows k 0)) → new ≡ take i now ++ (part ++ drop j now) → Taking added cell rows before new j
Taking-run added cell one rows before now part new i j order high len z run same e =
    let many = z.len in
    let all : j ≤ length now = omega arith in
    let size : length part ≡ j - i = run.len ∙ range-size now i j order all in
    let rest = length-drop j now in
    let first = length-take-le i now (omega arith) in
    let two = length-append part (drop j now) in
    let three = length-append (take i now) (part ++ drop j now) in
    rw e record {
      len = omega arith;
      done = λ k l. elim (split k i) [
        | inl low ↦ written-before now part i j k None (omega arith) low ∙ z.done k low
        | inr behind ↦
            let row = range-at rows i j k 0 behind l in
            let old = range-at now i j k None behind l in
            let many = range-size rows i j order high in
            written-within now part i j k None (omega arith) behind (omega arith)
            ∙ (run.each (k - i) (omega arith)
            ∙ (ap (λ h. added h (one (get_or (slice_range rows i j) (k - i) 0))) (old ∙ z.rest k behind)
            ∙ ap (added (get_or before k None)) (ap one row ∙ same k behind l)))
      ];
      rest = λ k l. written-behind now part i j k None (omega arith) order size l ∙ z.rest k (omega arith);
    }
  where
    split : (k i : ℕ) → (k < i) ⊎ (i ≤ k)
    split k i = grind arith
