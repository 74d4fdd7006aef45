-- A file that reads as texts reads with other types as well, where these read each text of their columns.
use Rattle.std.proofs.Common.{◌≡◌, ◌∙◌, ℕ, suc, ◌+◌, ◌-◌, ◌^◌, ◌<◌, Bool, true, false, List, [], ◌∷◌, ◌++◌, length, map, Option, Some, None, Result, Ok, Err, is_some, refl, ap, sym, subst, inl, inr, append_assoc, arith}
use Rattle.std.specs.Prelude.{◌==◌, nat_le, nat_lt, IfSome, slice_index_or}
use Rattle.std.specs.List.{slice_get}
use Rattle.std.specs.Str.{is_utf8}
use Rattle.std.proofs.lemmas.Bool.{eqb-true, cases_Bool}
use Rattle.std.proofs.lemmas.Bool.Decides.{nat_tests}
use Rattle.std.proofs.lemmas.List.{append-nil, length-append, length-map}
use Rattle.csv.specs.Reading.{records, strip_bom}
use Rattle.rj_columns.specs.Contents.{Content, nothing, word}
use Rattle.rj_columns.specs.Names.{empty_table, name_fault}
use Rattle.rj_columns.specs.Tables.{TableValue}
use Rattle.rj_columns.specs.declared.cell.ColumnType.{ColumnType}
use Rattle.rj_columns.specs.declared.cell.ColumnType.TheVariants as kind
use Rattle.rj_columns.specs.declared.refused.BuildRefused.{BuildRefused}
use Rattle.rj_columns.specs.declared.refused.BuildRefused.TheVariants as build
use Rattle.rj_csv_io.proofs.RowsFacts.{row-cells, rows-end, rows-fault, rows-step}
use Rattle.rj_csv_io.specs.Rows.{read_row, read_rows}
use Rattle.rj_csv_io.specs.Tables.{are_null_texts, of_begun, read_of, read_records, records_read}
use Rattle.rj_csv_io.specs.Typed.{bad_cell, is_null_field, read_cell, read_cells, typed_cell}
use Rattle.rj_csv_io.specs.declared.refused.ReadRefused.{ReadRefused}
use Rattle.rj_csv_io.specs.declared.refused.ReadRefused.TheVariants as refused
use Rattle.rj_csv_io.specs.StrictReading.{config_of}
use Rattle.rj_line.specs.Suggested.{text_in, texts_for}

-- the cells that fields read as
abbrev CellsRead : List (List ℕ) → List ColumnType → List (List ℕ) → List Content → Type 0
CellsRead nulls [] [] [] = Unit {0}
CellsRead nulls [] [] (x ∷ xs) = ⊥
CellsRead nulls [] (f ∷ fs) xs = ⊥
CellsRead nulls (k ∷ ks) [] xs = ⊥
CellsRead nulls (k ∷ ks) (f ∷ fs) [] = ⊥
CellsRead nulls (k ∷ ks) (f ∷ fs) (x ∷ xs) = (read_cell nulls k f ≡ Some x) × CellsRead nulls ks fs xs

one-cell : (nulls : List (List ℕ)) (row : ℕ) (done : List Content) (k : ColumnType) (ks : List ColumnType) (f : List ℕ) (fs : List (List ℕ)) (x : Content)
    → read_cell nulls k f ≡ Some x → read_cells nulls row done (k ∷ ks) (f ∷ fs) ≡ read_cells nulls row (done ++ x ∷ []) ks fs
unfolding read_cells
one-cell nulls row done k ks f fs x e = rw e refl

no-cell : (nulls : List (List ℕ)) (row : ℕ) (done : List Content) (k : ColumnType) (ks : List ColumnType) (f : List ℕ) (fs : List (List ℕ))
    → read_cell nulls k f ≡ None → read_cells nulls row done (k ∷ ks) (f ∷ fs) ≡ Err (bad_cell k row (length done + 1))
unfolding read_cells
no-cell nulls row done k ks f fs e = rw e refl

no-cells : (nulls : List (List ℕ)) (row : ℕ) (done : List Content) → read_cells nulls row done [] [] ≡ Ok done
unfolding read_cells
no-cells nulls row done = refl

-- the cells of fields that read, behind those so far
abbrev CellsOf : List (List ℕ) → List Content → List ColumnType → List (List ℕ) → List Content → Type 0
CellsOf nulls done types fields out = (xs : List Content) × (out ≡ done ++ xs) × CellsRead nulls types fields xs

cells-inverted : (nulls : List (List ℕ)) (row : ℕ) (done : List Content) (types : List ColumnType) (fields : List (List ℕ)) (out : List Content)
    → length fields ≡ length types → read_cells nulls row done types fields ≡ Ok out → CellsOf nulls done types fields out
cells-inverted nulls row done [] [] out same e =
    let q : Ok done ≡ Ok out = sym (no-cells nulls row done) ∙ e in
    let is : done ≡ out = cc in
    ([], sym is ∙ sym (append-nil done), tt)
cells-inverted nulls row done [] (f ∷ fs) out same e = absurd (omega arith)
cells-inverted nulls row done (k ∷ ks) [] out same e = absurd (omega arith)
cells-inverted nulls row done (k ∷ ks) (f ∷ fs) out same e =
    go (read_cell nulls k f) refl (λ x h. cells-inverted nulls row (done ++ x ∷ []) ks fs out (omega arith) h)
  where
    go : (r : Option Content) → read_cell nulls k f ≡ r
        → ((x : Content) → read_cells nulls row (done ++ x ∷ []) ks fs ≡ Ok out → CellsOf nulls (done ++ x ∷ []) ks fs out)
        → CellsOf nulls done (k ∷ ks) (f ∷ fs) out
    go None is rest = let no : Err (bad_cell k row (length done + 1)) ≡ Ok out = sym (no-cell nulls row done k ks f fs is) ∙ e in absurd cc
    go (Some x) is rest =
        let (xs, ends, read) = rest x (sym (one-cell nulls row done k ks f fs x is) ∙ e) in
        (x ∷ xs, ends ∙ append_assoc done (x ∷ []) xs, (is, read))

cells-built : (nulls : List (List ℕ)) (row : ℕ) (done : List Content) (types : List ColumnType) (fields : List (List ℕ)) (xs : List Content)
    → CellsRead nulls types fields xs → read_cells nulls row done types fields ≡ Ok (done ++ xs)
cells-built nulls row done [] [] [] h = no-cells nulls row done ∙ ap Ok (sym (append-nil done))
cells-built nulls row done [] [] (x ∷ xs) h = absurd h
cells-built nulls row done [] (f ∷ fs) xs h = absurd h
cells-built nulls row done (k ∷ ks) [] xs h = absurd h
cells-built nulls row done (k ∷ ks) (f ∷ fs) [] h = absurd h
cells-built nulls row done (k ∷ ks) (f ∷ fs) (x ∷ xs) h =
    one-cell nulls row done k ks f fs x h.0 ∙ (cells-built nulls row (done ++ x ∷ []) ks fs xs h.1 ∙ ap Ok (append_assoc done (x ∷ []) xs))

cells-size : (nulls : List (List ℕ)) (types : List ColumnType) (fields : List (List ℕ)) (xs : List Content) → CellsRead nulls types fields xs → length fields ≡ length types
cells-size nulls [] [] [] h = refl
cells-size nulls [] [] (x ∷ xs) h = absurd h
cells-size nulls [] (f ∷ fs) xs h = absurd h
cells-size nulls (k ∷ ks) [] xs h = absurd h
cells-size nulls (k ∷ ks) (f ∷ fs) [] h = absurd h
cells-size nulls (k ∷ ks) (f ∷ fs) (x ∷ xs) h = ap suc (cells-size nulls ks fs xs h.1)

-- the type reads this text, which is one
abbrev pub ReadsText : ColumnType → List ℕ → Type 0
ReadsText kind.Int s = is_some (typed_cell kind.Int s) ≡ true
ReadsText (kind.Num n) s = is_some (typed_cell (kind.Num n) s) ≡ true
ReadsText kind.Text s = Unit {0}

some-of : (o : Option Content) → is_some o ≡ true → (y : Content) × (o ≡ Some y)
some-of None e = absurd cc
some-of (Some y) e = (y, refl)

text-retyped : (nulls : List (List ℕ)) (k : ColumnType) (f : List ℕ) → is_null_field nulls f ≡ false → is_utf8 f ≡ true → ReadsText k f → (y : Content) × (read_cell nulls k f ≡ Some y)
text-retyped nulls kind.Int f other utf8 h = let (y, is) = some-of (typed_cell kind.Int f) h in (y, rw other is)
text-retyped nulls (kind.Num n) f other utf8 h = let (y, is) = some-of (typed_cell (kind.Num n) f) h in (y, rw other is)
text-retyped nulls kind.Text f other utf8 h = (word f, rw (other, utf8) refl)

cell-retyped : (nulls : List (List ℕ)) (k : ColumnType) (f : List ℕ) (x : Content) → read_cell nulls kind.Text f ≡ Some x → IfSome (text_in x) (ReadsText k) → (y : Content) × (read_cell nulls k f ≡ Some y)
cell-retyped nulls k f x e h = elim (cases_Bool (is_null_field nulls f)) [
  | inl same ↦ (nothing, rw same refl)
  | inr other ↦ elim (cases_Bool (is_utf8 f)) [
    | inl utf8 ↦
        let is : Some (word f) ≡ Some x = rw (other, utf8) at e in
        let q : word f ≡ x = cc in
        let P : Content → Type 0 = λ x. IfSome (text_in x) (ReadsText k) in
        text-retyped nulls k f other utf8 (subst P (sym q) h)
    | inr bad ↦ let no : ◌≡◌ {A = Option Content} None (Some x) = rw (other, bad) at e in absurd cc
  ]
]

-- the types read the texts of a row, each its column's
abbrev EachReads : List ColumnType → List Content → Type 0
EachReads [] xs = Unit {0}
EachReads (k ∷ ks) [] = Unit {0}
EachReads (k ∷ ks) (x ∷ xs) = IfSome (text_in x) (ReadsText k) × EachReads ks xs

abbrev texts : List (List ℕ) → List ColumnType
texts header = map (λ _. kind.Text) header

cells-retyped : (nulls : List (List ℕ)) (header : List (List ℕ)) (kinds : List ColumnType) (fields : List (List ℕ)) (xs : List Content)
    → length kinds ≡ length header → CellsRead nulls (texts header) fields xs → EachReads kinds xs → (ys : List Content) × CellsRead nulls kinds fields ys
cells-retyped nulls [] [] [] [] same h each = ([], tt)
cells-retyped nulls [] (k ∷ ks) fields xs same h each = absurd (omega arith)
cells-retyped nulls (n ∷ ns) [] fields xs same h each = absurd (omega arith)
cells-retyped nulls [] [] [] (x ∷ xs) same h each = absurd h
cells-retyped nulls [] [] (f ∷ fs) xs same h each = absurd h
cells-retyped nulls (n ∷ ns) (k ∷ ks) [] xs same h each = absurd h
cells-retyped nulls (n ∷ ns) (k ∷ ks) (f ∷ fs) [] same h each = absurd h
cells-retyped nulls (n ∷ ns) (k ∷ ks) (f ∷ fs) (x ∷ xs) same h each =
    let (y, is) = cell-retyped nulls k f x h.0 each.0 in
    let (ys, are) = cells-retyped nulls ns ks fs xs (omega arith) h.1 each.1 in
    (y ∷ ys, (is, are))

-- the rows that records read as
abbrev RowsRead : List (List ℕ) → List ColumnType → ℕ → List (List (List ℕ)) → List (List Content) → Type 0
RowsRead nulls types before [] [] = Unit {0}
RowsRead nulls types before [] (row ∷ rows) = ⊥
RowsRead nulls types before (r ∷ rs) [] = ⊥
RowsRead nulls types before (r ∷ rs) (row ∷ rows) = (before < 2 ^ 31 - 1) × CellsRead nulls types r row × RowsRead nulls types (before + 1) rs rows

row-inverted : (nulls : List (List ℕ)) (types : List ColumnType) (n : ℕ) (r : List (List ℕ)) (cells : List Content) → read_row nulls types n r ≡ Ok cells
    → (n < 2 ^ 31 - 1) × CellsRead nulls types r cells
row-inverted nulls types n r cells e = elim (cases_Bool (nat_le (2 ^ 31 - 1) n)) [
  | inl many ↦ let no : Err refused.TooManyRows ≡ Ok cells = rw many at e in absurd cc
  | inr few ↦
      let below : n < 2 ^ 31 - 1 = grind (arith, nat_tests) in
      elim (cases_Bool (length r == length types)) [
        | inl same ↦
            let is = eqb-true (length r) (length types) same in
            let (xs, all, read) = cells-inverted nulls (n + 1) [] types r cells is (sym (row-cells nulls types n r below is) ∙ e) in
            let P : List Content → Type 0 = CellsRead nulls types r in
            (below, subst P (sym all) read)
        | inr other ↦ let no : Err (refused.RaggedRow (n + 1)) ≡ Ok cells = rw (few, other) at e in absurd cc
      ]
]

row-built : (nulls : List (List ℕ)) (types : List ColumnType) (n : ℕ) (r : List (List ℕ)) (cells : List Content) → n < 2 ^ 31 - 1 → CellsRead nulls types r cells → read_row nulls types n r ≡ Ok cells
row-built nulls types n r cells below h = row-cells nulls types n r below (cells-size nulls types r cells h) ∙ cells-built nulls (n + 1) [] types r cells h

abbrev RowsOf : List (List ℕ) → List (List Content) → List ColumnType → List (List (List ℕ)) → List (List Content) → Type 0
RowsOf nulls done types rest out = (rows : List (List Content)) × (out ≡ done ++ rows) × RowsRead nulls types (length done) rest rows

one-more : (done : List (List Content)) (row : List Content) → length (done ++ row ∷ []) ≡ length done + 1
one-more done row = length-append done (row ∷ [])

rows-inverted : (nulls : List (List ℕ)) (types : List ColumnType) (done : List (List Content)) (rest : List (List (List ℕ))) (out : List (List Content))
    → read_rows nulls types done rest ≡ Ok out → RowsOf nulls done types rest out
rows-inverted nulls types done [] out e =
    let q : Ok done ≡ Ok out = sym (rows-end nulls types done) ∙ e in
    let is : done ≡ out = cc in
    ([], sym is ∙ sym (append-nil done), tt)
rows-inverted nulls types done (r ∷ rs) out e =
    go (read_row nulls types (length done) r) refl (λ row h. rows-inverted nulls types (done ++ row ∷ []) rs out h)
  where
    go : (read : Result (List Content) ReadRefused) → read_row nulls types (length done) r ≡ read
        → ((row : List Content) → read_rows nulls types (done ++ row ∷ []) rs ≡ Ok out → RowsOf nulls (done ++ row ∷ []) types rs out)
        → RowsOf nulls done types (r ∷ rs) out
    go (Err x) is more = let no : Err x ≡ Ok out = sym (rows-fault nulls types done (length done) r rs x refl is) ∙ e in absurd cc
    go (Ok row) is more =
        let (rows, ends, read) = more row (sym (rows-step nulls types done (length done) r rs row refl is) ∙ e) in
        let P : ℕ → Type 0 = λ n. RowsRead nulls types n rs rows in
        let (below, cells) = row-inverted nulls types (length done) r row is in
        (row ∷ rows, ends ∙ append_assoc done (row ∷ []) rows, (below, cells, subst P (one-more done row) read))

rows-built : (nulls : List (List ℕ)) (types : List ColumnType) (done : List (List Content)) (rest : List (List (List ℕ))) (rows : List (List Content))
    → RowsRead nulls types (length done) rest rows → read_rows nulls types done rest ≡ Ok (done ++ rows)
rows-built nulls types done [] [] h = rows-end nulls types done ∙ ap Ok (sym (append-nil done))
rows-built nulls types done [] (row ∷ rows) h = absurd h
rows-built nulls types done (r ∷ rs) [] h = absurd h
rows-built nulls types done (r ∷ rs) (row ∷ rows) h =
    let P : ℕ → Type 0 = λ n. RowsRead nulls types n rs rows in
    rows-step nulls types done (length done) r rs row refl (row-built nulls types (length done) r row h.0 h.1)
    ∙ (rows-built nulls types (done ++ row ∷ []) rs rows (subst P (sym (one-more done row)) h.2) ∙ ap Ok (append_assoc done (row ∷ []) rows))

-- the types read the texts of all rows
abbrev AllRead : List ColumnType → List (List Content) → Type 0
AllRead kinds [] = Unit {0}
AllRead kinds (row ∷ rows) = EachReads kinds row × AllRead kinds rows

rows-retyped : (nulls : List (List ℕ)) (header : List (List ℕ)) (kinds : List ColumnType) (n : ℕ) (rest : List (List (List ℕ))) (rows : List (List Content))
    → length kinds ≡ length header → RowsRead nulls (texts header) n rest rows → AllRead kinds rows → (others : List (List Content)) × RowsRead nulls kinds n rest others
rows-retyped nulls header kinds n [] [] same h all = ([], tt)
rows-retyped nulls header kinds n [] (row ∷ rows) same h all = absurd h
rows-retyped nulls header kinds n (r ∷ rs) [] same h all = absurd h
rows-retyped nulls header kinds n (r ∷ rs) (row ∷ rows) same h all =
    let (cells, are) = cells-retyped nulls header kinds r row same h.1 all.0 in
    let (others, read) = rows-retyped nulls header kinds (n + 1) rs rows same h.2 all.1 in
    (cells ∷ others, (h.0, are, read))

-- a header begins a table with any types, so many
empty_table-retyped : (names : List (List ℕ)) (types kinds : List ColumnType) (t : TableValue) → length kinds ≡ length types → empty_table names types ≡ Ok t
    → (empty_table names kinds ≡ Ok (record { names = names; types = kinds; rows = [] })) × (t ≡ record { names = names; types = types; rows = [] })
empty_table-retyped names types kinds t size e = elim (cases_Bool (nat_lt 256 (length names))) [
  | inl many ↦ let no : Err build.TooManyColumns ≡ Ok t = rw many at e in absurd cc
  | inr few ↦ go few (name_fault [] names) refl
]
  where
    go : nat_lt 256 (length names) ≡ false → (o : Option BuildRefused) → name_fault [] names ≡ o
        → (empty_table names kinds ≡ Ok (record { names = names; types = kinds; rows = [] })) × (t ≡ record { names = names; types = types; rows = [] })
    go few (Some x) f = let no : Err x ≡ Ok t = rw (few, f) at e in absurd cc
    go few None f = elim (cases_Bool (length names == length types)) [
      | inl same ↦
          let is : Ok record { names = names; types = types; rows = [] } ≡ Ok t = rw (few, f, same) at e in
          let q : record { names = names; types = types; rows = [] } ≡ t = cc in
          let test : length names == length kinds ≡ true = ap (λ n. length names == n) size ∙ same in
          (rw (few, f, test) refl, sym q)
      | inr other ↦ let no : Err build.TypeCount ≡ Ok t = rw (few, f, other) at e in absurd cc
    ]

-- the types read each text of their column, in all rows
abbrev pub ReadColumns : List ColumnType → List (List Content) → Type 0
ReadColumns kinds rows = (row col : ℕ) (k : ColumnType) → row < length rows → slice_get kinds col ≡ Some k
    → IfSome (text_in (slice_index_or (slice_index_or rows row []) col nothing)) (ReadsText k)

row-reads : (kinds : List ColumnType) (xs : List Content) → ((col : ℕ) (k : ColumnType) → slice_get kinds col ≡ Some k → IfSome (text_in (slice_index_or xs col nothing)) (ReadsText k))
    → EachReads kinds xs
row-reads [] xs h = tt
row-reads (k ∷ ks) [] h = tt
row-reads (k ∷ ks) (x ∷ xs) h = (h 0 k refl, row-reads ks xs (λ col k is. h (suc col) k is))

rows-read : (kinds : List ColumnType) (rows : List (List Content)) → ReadColumns kinds rows → AllRead kinds rows
rows-read kinds [] h = tt
rows-read kinds (row ∷ rows) h =
    (row-reads kinds row (λ col k is. h 0 col k (omega arith) is), rows-read kinds rows (λ i col k inside is. h (suc i) col k (omega arith) is))

-- records that read as texts read with such types
records-retyped : (nulls : List (List ℕ)) (header : List (List ℕ)) (rest : List (List (List ℕ))) (kinds : List ColumnType) (t : TableValue)
    → read_records nulls (texts header) (header ∷ rest) ≡ Ok t → length kinds ≡ length t.types → ReadColumns kinds t.rows
    → (u : TableValue) × (read_records nulls kinds (header ∷ rest) ≡ Ok u)
records-retyped nulls header rest kinds t e size h = by_header (empty_table header (texts header)) refl
  where
    by_rows : (b : TableValue) → empty_table header (texts header) ≡ Ok b → (r : Result (List (List Content)) ReadRefused) → read_rows nulls (texts header) [] rest ≡ r
        → (u : TableValue) × (read_records nulls kinds (header ∷ rest) ≡ Ok u)
    by_rows b begins (Err x) is = let no : Err x ≡ Ok t = rw (begins, is) at e in absurd cc
    by_rows b begins (Ok rows) is =
        let got : Ok (record b { rows = rows }) ≡ Ok t = rw (begins, is) at e in
        let q : record b { rows = rows } ≡ t = cc in
        let same : rows ≡ t.rows = ap (λ (v : TableValue). v.rows) q in
        let typed : t.types ≡ texts header =
        ap (λ (v : TableValue). v.types) (sym q) ∙ ap (λ (v : TableValue). v.types) (empty_table-retyped header (texts header) (texts header) b refl begins).1 in
        let count : length kinds ≡ length (texts header) = size ∙ ap length typed in
        let wide : length kinds ≡ length header = count ∙ length-map header (λ _. kind.Text) in
        let (_, ends, read) = rows-inverted nulls (texts header) [] rest rows is in
        let P : List (List Content) → Type 0 = RowsRead nulls (texts header) 0 rest in
        let R : List (List Content) → Type 0 = ReadColumns kinds in
        let (others, are) = rows-retyped nulls header kinds 0 rest rows wide (subst P (sym ends) read) (rows-read kinds rows (subst R (sym same) h)) in
        let starts = (empty_table-retyped header (texts header) kinds b count begins).0 in
        (record { names = header; types = kinds; rows = others }, rw (starts, rows-built nulls kinds [] rest others are) refl)

    by_header : (b : Result TableValue BuildRefused) → empty_table header (texts header) ≡ b → (u : TableValue) × (read_records nulls kinds (header ∷ rest) ≡ Ok u)
    by_header (Err x) is = let no : Err (of_begun x) ≡ Ok t = rw is at e in absurd cc
    by_header (Ok b) is = by_rows b is (read_rows nulls (texts header) [] rest) refl

-- a file that reads as texts reads with types, one for each column, that read each text of their columns
pub file-retyped : (d : ℕ) (bytes : List ℕ) (nulls : List (List ℕ)) (kinds : List ColumnType) (t : TableValue) → read_of d bytes (texts_for (records (config_of d) (strip_bom bytes))) nulls ≡ Ok t
    → length kinds ≡ length t.types → ReadColumns kinds t.rows → (u : TableValue) × (read_of d bytes kinds nulls ≡ Ok u)
file-retyped d bytes nulls kinds t e size h = by_null (are_null_texts nulls) refl
  where
    by_records : (rs : List (List (List ℕ))) → are_null_texts nulls ≡ true → records_read rs (texts_for rs) nulls ≡ Ok t → (u : TableValue) × (records_read rs kinds nulls ≡ Ok u)
    by_records [] lawful got = let no : Err refused.NoHeader ≡ Ok t = rw lawful at got in absurd cc
    by_records (header ∷ rest) lawful got =
        let read : read_records nulls (texts header) (header ∷ rest) ≡ Ok t = rw lawful at got in
        let (u, is) = records-retyped nulls header rest kinds t read size h in
        (u, rw lawful is)

    by_null : (b : Bool) → are_null_texts nulls ≡ b → (u : TableValue) × (read_of d bytes kinds nulls ≡ Ok u)
    by_null false is = let no : Err refused.BadNull ≡ Ok t = rw is at e in absurd cc
    by_null true is = by_records (records (config_of d) (strip_bom bytes)) is e
