-- What a header denotes alone.
use Rattle.std.proofs.Common.{◌≡◌, ◌≢◌, ◌∙◌, true, List, [], ◌∷◌, ℕ, refl, sym, ap, ap₂}
use Rattle.std.specs.Prelude.{Ok, Err, Some, None, take}
use Rattle.std.proofs.lemmas.Bool.{and_parts}
use Rattle.csv.specs.Reading.{records, strip_bom}
use Rattle.rj_columns.specs.Contents.{Content}
use Rattle.rj_columns.specs.Names.{empty_table}
use Rattle.rj_columns.specs.Tables.{TableValue}
use Rattle.rj_columns.specs.declared.cell.ColumnType.{ColumnType}
use Rattle.rj_columns.specs.declared.refused.BuildRefused.{BuildRefused}
use Rattle.rj_csv_io.specs.Tables.{are_null_texts, of_begun, read_records}
use Rattle.rj_csv_io.specs.declared.refused.ReadRefused.{ReadRefused}
use Rattle.rj_csv_io.specs.declared.refused.ReadRefused.TheVariants as read
use Rattle.rj_csv_io.proofs.PartFacts.{empty_table-rows}
use Rattle.rj_csv_io.proofs.RowsFacts.{rows-end}
use Rattle.rj_csv_io.proofs.TableFacts.{read_bad_header}
use Rattle.rj_settings.specs.Columns.{types_under}
use Rattle.rj_settings.specs.declared.types.entry.TypeEntry.{TypeEntry}
use Rattle.rj_line.specs.Faults.{read_fault}
use Rattle.rj_line.specs.declared.fault.Fault.{Fault}
use Rattle.rj_line.specs.declared.fault.Fault.TheVariants as fault
use Rattle.rj_line.specs.declared.fault.Side.{Side}
use Rattle.rj_line.specs.declared.fault.Side.TheVariants as side
use Rattle.rj_line.specs.declared.request.Request.{Request}
use Rattle.rj_csv_io.specs.StrictReading.{config_of}
use Rattle.rj_command.specs.Operands.{header_table}
use Rattle.rj_command.specs.Sides.{delimiter_of, has_lawful_nulls, nulls_of, side_records, type_fault, types_of}

lawful-nulls : (q : Request) (s : Side) → has_lawful_nulls q ≡ true → are_null_texts (nulls_of q s) ≡ true
lawful-nulls q side.Left lawful = (and_parts _ _ (and_parts _ _ lawful).0).0
lawful-nulls q side.Right lawful = (and_parts _ _ (and_parts _ _ lawful).0).1

-- a header without rows is read as the table that it begins
alone : (nulls : List (List ℕ)) (types : List ColumnType) (header : List (List ℕ)) (t : TableValue) → empty_table header types ≡ Ok t
    → read_records nulls types (header ∷ []) ≡ Ok t
alone nulls types header t begun =
    rw (begun, rows-end nulls types []) (ap (λ (rows : List (List Content)). Ok record t { rows = rows }) (sym (empty_table-rows header types t begun)))

module _ (q : Request) (s : Side) (lawful : has_lawful_nulls q ≡ true) where
  none-read : side_records q s [] ≡ Err (fault.NoHeader s)
  none-read = rw (lawful, lawful-nulls q s lawful) refl

  name-read : (header : List (List ℕ)) (f : Fault) → type_fault (types_of q s) s header ≡ Some f → side_records q s (header ∷ []) ≡ Err f
  name-read header f named = rw (lawful, named) refl

  module _ (header : List (List ℕ)) (named : type_fault (types_of q s) s header ≡ None) where
    table-read : (t : TableValue) → empty_table header (types_under (types_of q s) header) ≡ Ok t → side_records q s (header ∷ []) ≡ Ok t
    table-read t begun =
        rw (lawful, named, lawful-nulls q s lawful, alone (nulls_of q s) (types_under (types_of q s) header) header t begun) refl

    fault-read : (e : BuildRefused) → empty_table header (types_under (types_of q s) header) ≡ Err e
        → side_records q s (header ∷ []) ≡ Err (read_fault s (of_begun e))
    fault-read e begun =
        rw (lawful, named, lawful-nulls q s lawful, read_bad_header (nulls_of q s) (types_under (types_of q s) header) header [] e begun) refl

  -- by the types that a list gives it
  module _ (header : List (List ℕ)) (entries : List TypeEntry) (is : entries ≡ types_of q s) where
    pub header_name_fault : (f : Fault) → (f ≢ fault.Memory → type_fault entries s header ≡ Some f) → f ≢ fault.Memory
        → side_records q s (header ∷ []) ≡ Err f
    header_name_fault f told not = name-read header f (ap (λ es. type_fault es s header) (sym is) ∙ told not)

    module _ (kinds : List ColumnType) (named : type_fault entries s header ≡ None) (same : kinds ≡ types_under entries header) where
      none-named : type_fault (types_of q s) s header ≡ None
      none-named = ap (λ es. type_fault es s header) (sym is) ∙ named

      kinds-under : types_under (types_of q s) header ≡ kinds
      kinds-under = ap (λ es. types_under es header) (sym is) ∙ sym same

      pub header_made : (t : TableValue) → empty_table header kinds ≡ Ok t → side_records q s (header ∷ []) ≡ Ok t
      header_made t begun = table-read header none-named t (ap (empty_table header) kinds-under ∙ begun)

      pub header_refused : (e : ReadRefused) (f : Fault)
          → (e ≢ read.Memory → (b : BuildRefused) × (empty_table header kinds ≡ Err b) × (e ≡ of_begun b))
          → f ≡ read_fault s e → f ≢ fault.Memory → side_records q s (header ∷ []) ≡ Err f
      header_refused e f told shown not =
          let b = told (λ memory. not (shown ∙ ap (read_fault s) memory)) in
          fault-read header none-named b.0 (ap (empty_table header) kinds-under ∙ b.1) ∙ ap Err (sym (shown ∙ ap (read_fault s) b.2))

  -- the header of a text
  module _ (text stripped : List ℕ) (is : stripped ≡ strip_bom text) (d : ℕ) (by : d ≡ delimiter_of q s) where
    same-records : records (config_of (delimiter_of q s)) (strip_bom text) ≡ records (config_of d) stripped
    same-records = ap₂ (λ (n : ℕ) (t : List ℕ). records (config_of n) t) (sym by) (sym is)

    pub header_taken : (header : List (List ℕ)) (rest : List (List (List ℕ))) → records (config_of d) stripped ≡ header ∷ rest
        → header_table q s text ≡ side_records q s (header ∷ [])
    header_taken header rest found = ap (λ rs. side_records q s (take 1 rs)) (same-records ∙ found)

    pub header_missing : records (config_of d) stripped ≡ [] → header_table q s text ≡ Err (fault.NoHeader s)
    header_missing found = ap (λ rs. side_records q s (take 1 rs)) (same-records ∙ found) ∙ none-read
