-- The text of a table reads back as the table.
use Rattle.std.proofs.Common.{◌≡◌, ◌∙◌, ◌<◌, ◌+◌, ◌^◌, ℕ, List, [], ◌∷◌, ◌++◌, map, length, true, false, None, Ok, All, refl, sym, ap, append_assoc, append-nil, arith}
use Rattle.std.proofs.lemmas.Bool.{eq-eqb, le-ltb}
use Rattle.std.proofs.lemmas.List.{length-append, length-map}
use Rattle.std.proofs.lemmas.List.Elements.{All-cons, All-head, All-map, All-tail, All-weaker}
use Rattle.csv.specs.declared.parser.State.TheVariants as st
use Rattle.csv.specs.Machine.{next_record}
use Rattle.csv.specs.Reading.{records}
use Rattle.csv.specs.Writing.{read_back, row_text}
use Rattle.rj_columns.specs.declared.cell.ColumnType.{ColumnType}
use Rattle.rj_columns.specs.Contents.{Content}
use Rattle.rj_columns.specs.Names.{empty_table}
use Rattle.rj_columns.specs.Tables.{TableValue, FitsTypes}
use Rattle.rj_columns.proofs.RowFacts.{FitsTypes-length}
use Rattle.rj_csv_io.specs.Grammar.{may_delimit}
use Rattle.rj_csv_io.specs.StrictReading.{config_of}
use Rattle.rj_csv_io.specs.Cuts.{has_bom}
use Rattle.rj_csv_io.specs.RoundTrips.{IsHeld, IsNoneOf, CanReadBack}
use Rattle.rj_csv_io.specs.Rows.{read_rows}
use Rattle.rj_csv_io.specs.Shown.{rows_text, shown, table_text, writer_of}
use Rattle.rj_csv_io.specs.Tables.{are_null_texts, read_of}
use Rattle.rj_csv_io.specs.Typed.{is_null_field}
use Rattle.rj_csv_io.proofs.CellBackFacts.{cells-back, none-of}
use Rattle.rj_csv_io.proofs.CutFacts.{strip-plain}
use Rattle.rj_csv_io.proofs.RemainingFacts.{records-more, records-none}
use Rattle.rj_csv_io.proofs.RowsFacts.{row-cells, rows-end, rows-step}
use Rattle.rj_csv_io.proofs.SwapFacts.{write-read}
use Rattle.rj_csv_io.proofs.TableFacts.{of_table}

abbrev Some_field : List (List ℕ) → Type 0
Some_field fields = 0 < length fields

same-back : (fields : List (List ℕ)) → Some_field fields → read_back fields ≡ fields
same-back [] some = absurd (omega arith)
same-back (f ∷ fields) some = refl

no-bytes : (d : ℕ) → next_record (config_of d) st.StartRecord [] [] [] ≡ None
unfolding next_record
no-bytes d = refl

-- records of one field or more are read as they were written
records-back : (d : ℕ) → may_delimit d ≡ true → (written : List (List (List ℕ))) → All Some_field written → records (config_of d) (rows_text d written) ≡ written
unfolding rows_text
records-back d lawful [] some = records-none (config_of d) st.StartRecord [] (no-bytes d)
records-back d lawful (r ∷ written) some =
    let first = records-more (config_of d) st.StartRecord (row_text (writer_of d) r ++ rows_text d written) (read_back r, st.StartRecord, rows_text d written) refl (write-read d lawful r (rows_text d written)) in
    let same = same-back r (All-head Some_field r written some) in
    let more = records-back d lawful written (All-tail Some_field r written some) in
    first ∙ rw (same, more) refl

-- the header and the types of a table begin it
empty_table-back : (nulls : List (List ℕ)) (t : TableValue) → CanReadBack nulls t → empty_table t.names t.types ≡ Ok record t { rows = [] }
empty_table-back nulls t h = rw (le-ltb 256 (length t.names) h.few, h.lawful, eq-eqb (length t.names) (length t.types) h.named) refl

module _ (nulls : List (List ℕ)) (null : List ℕ) (lawful : are_null_texts nulls ≡ true) (among : is_null_field nulls null ≡ true) where
  -- the texts of rows read back as the rows
  rows-back : (types : List ColumnType) (rows done : List (List Content)) → length done + length rows < 2 ^ 31 → All (FitsTypes types) rows → All (All IsHeld) rows → All (All (IsNoneOf nulls)) rows
      → read_rows nulls types done (map (map (shown null)) rows) ≡ Ok (done ++ rows)
  rows-back types [] done within fits held apart = rows-end nulls types done ∙ ap Ok (sym (append-nil done))
  rows-back types (r ∷ rows) done within fits held apart =
      let here = All-head (FitsTypes types) r rows fits in
      let size : length (map (shown null) r) ≡ length types = length-map r (shown null) ∙ sym (FitsTypes-length types r here) in
      let cells = cells-back nulls null lawful among types r (length done + 1) [] here (All-head (All IsHeld) r rows held) (All-head (All (IsNoneOf nulls)) r rows apart) in
      let row = row-cells nulls types (length done) (map (shown null) r) (omega arith) size ∙ cells in
      let longer = length-append done (r ∷ []) in
      let more = rows-back types rows (done ++ r ∷ []) (omega (arith, longer)) (All-tail (FitsTypes types) r rows fits) (All-tail (All IsHeld) r rows held) (All-tail (All (IsNoneOf nulls)) r rows apart) in
      rows-step nulls types done (length done) (map (shown null) r) (map (map (shown null)) rows) r refl row ∙ (more ∙ ap Ok (append_assoc done (r ∷ []) rows))

  pub table-back : (d : ℕ) → may_delimit d ≡ true → (t : TableValue) → CanReadBack nulls t → has_bom (table_text d null t.names t.rows) ≡ false
      → read_of d (table_text d null t.names t.rows) t.types nulls ≡ Ok t
  table-back d delimits t h plain =
      let cells = map (map (shown null)) t.rows in
      let text = table_text d null t.names t.rows in
      let wide : (row : List Content) → FitsTypes t.types row → Some_field (map (shown null) row) = λ row fits.
      omega (arith, h.some, h.named, FitsTypes-length t.types row fits, length-map row (shown null)) in
      let some = All-cons Some_field t.names cells h.some (All-map Some_field (map (shown null)) t.rows
      (All-weaker (FitsTypes t.types) (λ row. Some_field (map (shown null) row)) wide t.rows h.typed)) in
      let read = ap (records (config_of d)) (strip-plain text plain) ∙ records-back d delimits (t.names ∷ cells) some in
      of_table d text t.types nulls lawful t.names cells read (record t { rows = [] }) t.rows (empty_table-back nulls t h)
      (rows-back t.types t.rows [] (omega (arith, h.within)) h.typed h.held (none-of nulls t.rows h.apart))
