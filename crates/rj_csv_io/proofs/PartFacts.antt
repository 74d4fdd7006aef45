-- The records under a header, text by text.
use Rattle.std.proofs.Common.{◌≡◌, ◌≢◌, ◌<◌, ◌≤◌, ◌+◌, ◌-◌, ◌^◌, ℕ, suc, List, [], ◌∷◌, ◌++◌, length, take, drop}
use Rattle.std.proofs.Common.{true, false, Option, Some, None, Result, Ok, Err, refl, sym, ap, ◌∙◌, arith, append_assoc, inl, inr, map, Bor}
use Rattle.std.specs.Prelude.{All, IfErr, IfOk, nat_lt, ◌==◌, slice_index_or}
use Rattle.std.proofs.lemmas.Bool.{cases_Bool, ne_eqb, false≢true}
use Rattle.std.proofs.lemmas.List.{append-nil, length-take, take_more, take-append-drop, get_or-map, length-map}
use Rattle.std.proofs.lemmas.List.{flat_map_more, length-append}
use Rattle.std.proofs.lemmas.List.Elements.{All-head, All-nil, All-push, All-tail, All-weaker}
use Rattle.rj_columns.specs.declared.cell.ColumnType.{ColumnType}
use Rattle.rj_columns.specs.declared.refused.BuildRefused.{BuildRefused}
use Rattle.rj_columns.specs.declared.refused.BuildRefused.TheVariants as build
use Rattle.rj_columns.specs.Contents.{Content}
use Rattle.rj_columns.specs.Names.{empty_table, name_fault}
use Rattle.rj_columns.specs.Tables.{AreAlike, TableValue, concatenated, rows_of_all}
use Rattle.rj_csv_io.specs.declared.refused.ReadRefused.{ReadRefused}
use Rattle.rj_csv_io.specs.declared.refused.ReadRefused.TheVariants as refused
use Rattle.rj_csv_io.specs.Rows.{read_rows}
use Rattle.rj_csv_io.proofs.CutFacts.{all-append, all-more}
use Rattle.rj_csv_io.proofs.RowsFacts.{rows-end}
use Rattle.rj_csv_io.proofs.PartRowFacts.{part-rows, part-many, part-fault, fault-first}
use Rattle.rj_csv_io.proofs.TableFacts.{header_fault, of_reading, of_table, read_bad_header, read_fault, rows_fault}
use Rattle.rj_csv_io.specs.Cuts.{records_in, records_in_all}
use Rattle.rj_csv_io.specs.Tables.{are_null_texts, of_begun, read_of, read_records}
use Rattle.rj_csv_io.specs.Parts.{AreReadings, AreTables, IsReading, moved, row_records, under_header}

under-more : (d : ℕ) (texts : List (List ℕ)) (p : List ℕ) → under_header d (texts ++ p ∷ []) ≡ under_header d texts ++ row_records d (length texts == 0) p
unfolding under_header records_in_all
under-more d [] p = append-nil (drop 1 (records_in d p))
under-more d (q ∷ texts) p =
    let some : (length (q ∷ texts) == 0) ≡ false = ne_eqb (length (q ∷ texts)) 0 (λ z. absurd (omega (arith, z))) in
    rw some (ap (λ r. drop 1 (records_in d q) ++ r) (all-more d texts p)
    ∙ sym (append_assoc (drop 1 (records_in d q)) (records_in_all d texts) (records_in d p)))

-- one more text
pub under-next : (d : ℕ) (texts : List (List ℕ)) (i : ℕ) → i < length texts
    → under_header d (take (i + 1) texts) ≡ under_header d (take i texts) ++ row_records d (i == 0) (slice_index_or texts i [])
under-next d texts i h =
    let size = length-take i texts in
    let same : length (take i texts) ≡ i = omega (arith, size, h) in
    ap (under_header d) (take_more texts i [] h) ∙ (under-more d (take i texts) (slice_index_or texts i [])
    ∙ ap (λ n. under_header d (take i texts) ++ row_records d (n == 0) (slice_index_or texts i [])) same)

under-append : (d : ℕ) (p : List ℕ) (a b : List (List ℕ)) → under_header d ((p ∷ a) ++ b) ≡ under_header d (p ∷ a) ++ records_in_all d b
unfolding under_header
under-append d p a b = ap (λ r. drop 1 (records_in d p) ++ r) (all-append d a b) ∙ sym (append_assoc (drop 1 (records_in d p)) (records_in_all d a) (records_in_all d b))

-- the texts from one on
pub under-rest : (d : ℕ) (texts : List (List ℕ)) (i : ℕ) → i < length texts → under_header d texts ≡ under_header d (take (i + 1) texts) ++ records_in_all d (drop (i + 1) texts)
under-rest d [] i h = absurd (omega arith)
under-rest d (p ∷ texts) i h =
    let n : i + 1 ≡ suc i = omega arith in
    rw n (ap (λ t. under_header d (p ∷ t)) (sym (take-append-drop i texts)) ∙ under-append d p (take i texts) (drop i texts))

pub under-none : (d : ℕ) → under_header d [] ≡ []
unfolding under_header
under-none d = refl

-- the records of a text are its header and those under it
pub header-first : (d : ℕ) (text : List ℕ) (texts : List (List ℕ)) (header : List (List ℕ)) (rest : List (List (List ℕ))) → records_in d text ≡ header ∷ rest
    → records_in_all d (text ∷ texts) ≡ header ∷ under_header d (text ∷ texts)
unfolding under_header records_in_all
header-first d text texts header rest e = rw e refl

pub empty_table-rows : (names : List (List ℕ)) (types : List ColumnType) (t : TableValue) → empty_table names types ≡ Ok t → t.rows ≡ []
empty_table-rows names types t e = elim (cases_Bool (nat_lt 256 (length names))) [
  | inl many ↦ let no : Err build.TooManyColumns ≡ Ok t = rw many at e in absurd cc
  | inr few ↦ go few (name_fault [] names) refl
]
  where
    go : nat_lt 256 (length names) ≡ false → (o : Option BuildRefused) → name_fault [] names ≡ o → t.rows ≡ []
    go few (Some x) f = let no : Err x ≡ Ok t = rw (few, f) at e in absurd cc
    go few None f = elim (cases_Bool (length names == length types)) [
      | inl same ↦
          let is : Ok record { names = names; types = types; rows = [] } ≡ Ok t = rw (few, f, same) at e in
          let q : record { names = names; types = types; rows = [] } ≡ t = cc in
          sym (ap (λ (v : TableValue). v.rows) q)
      | inr other ↦ let no : Err build.TypeCount ≡ Ok t = rw (few, f, other) at e in absurd cc
    ]

pub table-of-none : (nulls : List (List ℕ)) (types : List ColumnType) (header : List (List ℕ)) (records : List (List (List ℕ))) (t u : TableValue)
    → empty_table header types ≡ Ok t → t.rows ≡ [] → u ≡ t → records ≡ []
    → (empty_table header types ≡ Ok record u { rows = [] }) × (read_rows nulls types [] records ≡ Ok u.rows)
table-of-none nulls types header records t u b e same none =
    let again : record t { rows = [] } ≡ t = ap (λ (r : List (List Content)). record t { rows = r }) (sym e) in
    rw (same, none) (b ∙ ap Ok (sym again), rw e (rows-end nulls types []))

-- what is read of the records under a header that was begun
pub reading-from : (nulls : List (List ℕ)) (types : List ColumnType) (header : List (List ℕ)) (records : List (List (List ℕ))) (start : TableValue) (r : Result TableValue ReadRefused)
    → empty_table header types ≡ Ok start → IfOk r (λ t. (read_rows nulls types [] records ≡ Ok t.rows) × (t ≡ record start { rows = t.rows }))
    → IfErr r (λ e. e ≢ refused.Memory → read_rows nulls types [] records ≡ Err e) → IsReading nulls types header records r
reading-from nulls types header records start (Ok t) b ok err =
    let none = ap (λ (r : List (List Content)). record start { rows = r }) (empty_table-rows header types start b) in
    (b ∙ ap Ok (none ∙ sym (ap (λ (t : TableValue). record t { rows = [] }) ok.1)), ok.0)
reading-from nulls types header records start (Err e) b ok err = λ ne. read_fault nulls types header records start e b (err ne)

-- and so of a text with this header
module _ (d : ℕ) (bytes : List ℕ) (types : List ColumnType) (nulls : List (List ℕ)) (lawful : are_null_texts nulls ≡ true) (header : List (List ℕ)) (records : List (List (List ℕ)))
    (e : records_in d bytes ≡ header ∷ records) where
  pub reading-table : (r : Result TableValue ReadRefused) → IsReading nulls types header records r → IfOk r (λ t. read_of d bytes types nulls ≡ Ok t)
  reading-table (Ok t) read = of_table d bytes types nulls lawful header records e record t { rows = [] } t.rows read.0 read.1
  reading-table (Err x) read = tt

  pub reading-fault : (r : Result TableValue ReadRefused) → IsReading nulls types header records r → IfErr r (λ x. x ≢ refused.Memory → read_of d bytes types nulls ≡ Err x)
  reading-fault (Ok t) read = tt
  reading-fault (Err x) read = λ ne. of_reading d bytes types nulls lawful header records e x (read ne)

not-memory : (n : ℕ) (e : ReadRefused) → moved n e ≢ refused.Memory → e ≢ refused.Memory
not-memory n e ne q = ne (ap (moved n) q)

-- a fault of the header has no row
moved-header : (n : ℕ) (f : BuildRefused) → moved n (of_begun f) ≡ of_begun f
moved-header n build.TooManyColumns = refl
moved-header n (build.BadName column) = refl
moved-header n (build.RepeatedName column) = refl
moved-header n build.TypeCount = refl
moved-header n build.Memory = refl

-- how many rows there are with one more table's
pub rows-more : (tables : List TableValue) (t : TableValue) → length (rows_of_all (tables ++ t ∷ [])) ≡ length (rows_of_all tables) + length t.rows
rows-more tables t =
    let more : rows_of_all tables ++ t.rows ≡ rows_of_all (tables ++ t ∷ []) = flat_map_more (λ (t : TableValue). t.rows) [] tables t in
    rw (← more) (length-append (rows_of_all tables) t.rows)

-- the reading of no records
pub none-read : (d : ℕ) (nulls : List (List ℕ)) (types : List ColumnType) (header : List (List ℕ)) → AreTables nulls types header (under_header d []) []
none-read d nulls types header = record { columns = All-nil _; rows = rw (under-none d) (rows-end nulls types []); few = omega arith }

module _ (d : ℕ) (nulls : List (List ℕ)) (types : List ColumnType) (header : List (List ℕ)) (texts : List (List ℕ)) (parts : List (Result TableValue ReadRefused))
    (are : AreReadings d nulls types header texts parts) (i : ℕ) (h : i < length texts) (tables : List TableValue)
    (read : AreTables nulls types header (under_header d (take i texts)) tables) where
  -- one more part
  pub part-more : (t : TableValue) → slice_index_or parts i (Ok t) ≡ Ok t → length (rows_of_all tables) + length t.rows ≤ 2 ^ 31 - 1
      → AreTables nulls types header (under_header d (take (i + 1) texts)) (tables ++ t ∷ [])
  part-more t e fits =
      let is = rw e at (are i (Ok t) h) in
      let more : rows_of_all tables ++ t.rows ≡ rows_of_all (tables ++ t ∷ []) = flat_map_more (λ (t : TableValue). t.rows) [] tables t in
      let size = length-append (rows_of_all tables) t.rows in
      record {
        columns = All-push (λ (t : TableValue). empty_table header types ≡ Ok record t { rows = [] }) tables t read.columns is.0;
        rows = rw (under-next d texts i h, ← more) (part-rows nulls types (under_header d (take i texts)) _ (rows_of_all tables) t.rows read.rows is.1 fits);
        few = rw (← more) (omega (arith, size, fits));
      }

  rest-on : under_header d texts ≡ (under_header d (take i texts) ++ row_records d (i == 0) (slice_index_or texts i [])) ++ records_in_all d (drop (i + 1) texts)
  rest-on = under-rest d texts i h ∙ ap (λ r. r ++ records_in_all d (drop (i + 1) texts)) (under-next d texts i h)

  -- a part with too many rows
  pub part-past : (t : TableValue) → slice_index_or parts i (Ok t) ≡ Ok t → 2 ^ 31 - 1 < length (rows_of_all tables) + length t.rows
      → read_rows nulls types [] (under_header d texts) ≡ Err refused.TooManyRows
  part-past t e many =
      let is = rw e at (are i (Ok t) h) in
      let so = part-many nulls types (under_header d (take i texts)) _ (rows_of_all tables) t.rows read.rows is.1 read.few many in
      rw rest-on (fault-first nulls types (under_header d (take i texts) ++ row_records d (i == 0) (slice_index_or texts i [])) _ refused.TooManyRows so)

  -- a part with a fault
  pub part-bad : (x : ReadRefused) (t : TableValue) → slice_index_or parts i (Err x) ≡ Err x → empty_table header types ≡ Ok t → moved (length (rows_of_all tables)) x ≢ refused.Memory
      → read_rows nulls types [] (under_header d texts) ≡ Err (moved (length (rows_of_all tables)) x)
  part-bad x t e b ne =
      let is = rw e at (are i (Err x) h) in
      let so = part-fault nulls types (under_header d (take i texts)) _ (rows_of_all tables) x read.rows (rows_fault nulls types header (row_records d (i == 0) (slice_index_or texts i [])) t x b (is (not-memory _ x ne))) read.few in
      rw rest-on (fault-first nulls types (under_header d (take i texts) ++ row_records d (i == 0) (slice_index_or texts i [])) _ _ so)

  -- and so the reading of all ends
  pub part-over : (t : TableValue) → slice_index_or parts i (Ok t) ≡ Ok t → 2 ^ 31 - 1 < length (rows_of_all tables) + length t.rows
      → read_records nulls types (header ∷ under_header d texts) ≡ Err refused.TooManyRows
  part-over t e many =
      let is = rw e at (are i (Ok t) h) in
      read_fault nulls types header (under_header d texts) record t { rows = [] } refused.TooManyRows is.0 (part-past t e many)

  pub part-stops : (x : ReadRefused) → slice_index_or parts i (Err x) ≡ Err x → moved (length (rows_of_all tables)) x ≢ refused.Memory
      → read_records nulls types (header ∷ under_header d texts) ≡ Err (moved (length (rows_of_all tables)) x)
  part-stops x e ne = go (empty_table header types) refl
    where
      go : (r : Result TableValue BuildRefused) → empty_table header types ≡ r → read_records nulls types (header ∷ under_header d texts) ≡ Err (moved (length (rows_of_all tables)) x)
      go (Ok t) b = read_fault nulls types header (under_header d texts) t (moved (length (rows_of_all tables)) x) b (part-bad x t e b ne)
      go (Err f) b =
          let is = rw e at (are i (Err x) h) in
          let own = header_fault nulls types header (row_records d (i == 0) (slice_index_or texts i [])) f x b (is (not-memory _ x ne)) in
          read_bad_header nulls types header (under_header d texts) f b ∙ ap Err (sym (ap (moved (length (rows_of_all tables))) own ∙ moved-header (length (rows_of_all tables)) f))

-- the records of a text by its texts
pub records-by : (d : ℕ) (texts : List (List ℕ)) (bytes : List ℕ) (header : List (List ℕ)) (rest : List (List (List ℕ))) → 0 < length texts
    → records_in d (slice_index_or texts 0 []) ≡ header ∷ rest → records_in_all d texts ≡ records_in d bytes → records_in d bytes ≡ header ∷ under_header d texts
records-by d [] bytes header rest h e all = absurd (omega arith)
records-by d (p ∷ texts) bytes header rest h e all = sym all ∙ header-first d p texts header rest e

pub some-there : {X : Type 0} (xs : List X) → false ≡ (length xs == 0) → 0 < length xs
some-there [] e = absurd (false≢true e)
some-there (x ∷ xs) e = omega arith

pub head-records : (d : ℕ) (texts : List (Bor (List ℕ))) (other : Bor (List ℕ)) (bytes : List ℕ) (header : List (List ℕ)) (rest : List (List (List ℕ)))
    → false ≡ (length texts == 0) → records_in d (slice_index_or texts 0 other).now ≡ header ∷ rest
    → records_in_all d (map (λ p. p.now) texts) ≡ records_in d bytes → records_in d bytes ≡ header ∷ under_header d (map (λ p. p.now) texts)
head-records d texts other bytes header rest some e all =
    let h = some-there texts some in
    let size = length-map texts (λ (p : Bor (List ℕ)). p.now) in
    let one = get_or-map (λ (p : Bor (List ℕ)). p.now) texts 0 other [] h in
    records-by d (map (λ (p : Bor (List ℕ)). p.now) texts) bytes header rest (omega (arith, size, h)) (ap (records_in d) one ∙ e) all

-- tables that one header begins are alike
module _ (header : List (List ℕ)) (types : List ColumnType) where
  empty_tables-alike : (t u : TableValue) → empty_table header types ≡ Ok record t { rows = [] } → empty_table header types ≡ Ok record u { rows = [] } → (u.names ≡ t.names) × (u.types ≡ t.types)
  empty_tables-alike t u a b =
      let q = sym a ∙ b in
      let r : record t { rows = [] } ≡ record u { rows = [] } = cc in
      (sym (ap (λ (v : TableValue). v.names) r), sym (ap (λ (v : TableValue). v.types) r))

  pub tables-alike : (tables : List TableValue) → 0 < length tables → All (λ (t : TableValue). empty_table header types ≡ Ok record t { rows = [] }) tables → AreAlike tables
  tables-alike [] h a = absurd (omega arith)
  tables-alike (t ∷ tables) h a =
      let first = All-head (λ (t : TableValue). empty_table header types ≡ Ok record t { rows = [] }) t tables a in
      All-weaker (λ (u : TableValue). empty_table header types ≡ Ok record u { rows = [] }) (λ (u : TableValue). (u.names ≡ t.names) × (u.types ≡ t.types)) (λ u b. empty_tables-alike t u first b) tables
      (All-tail (λ (t : TableValue). empty_table header types ≡ Ok record t { rows = [] }) t tables a)

  -- and so is their rows' table
  pub whole-empty_table : (tables : List TableValue) → 0 < length tables → All (λ (t : TableValue). empty_table header types ≡ Ok record t { rows = [] }) tables
      → empty_table header types ≡ Ok record (concatenated tables) { rows = [] }
  whole-empty_table [] h a = absurd (omega arith)
  whole-empty_table (t ∷ tables) h a = All-head (λ (t : TableValue). empty_table header types ≡ Ok record t { rows = [] }) t tables a

pub whole-rows : (tables : List TableValue) → 0 < length tables → (concatenated tables).rows ≡ rows_of_all tables
whole-rows [] h = absurd (omega arith)
whole-rows (t ∷ tables) h = refl
