-- A table that was read is one whose text reads back.
use Rattle.std.proofs.Common.{◌≡◌, ◌∙◌, ◌<◌, ◌≤◌, ◌+◌, ◌-◌, ◌^◌, ℕ, zero, suc, ℤ, List, [], ◌∷◌, ◌++◌, length, Bool, true, false, Option, Some, None, Result, Ok, Err, All, refl, sym, ap, subst, append_assoc, append-nil, arith, inl, inr}
use Rattle.std.specs.Prelude.{◌==◌, nat_le, nat_lt, if◌then◌else◌, option_map}
use Rattle.std.specs.Str.{is_utf8}
use Rattle.std.specs.Str.Parse.{signed_digits_value}
use Rattle.std.proofs.lemmas.Bool.{cases_Bool, eqb-true, false≢true, leb-false, ltb-false}
use Rattle.std.proofs.lemmas.List.{length-append}
use Rattle.std.proofs.lemmas.List.Elements.{All-cons, All-nil, All-push}
use Rattle.std.proofs.lemmas.Str.{IsUtf8-from_is_utf8}
use Rattle.csv.specs.declared.parser.Action.{Action}
use Rattle.csv.specs.declared.parser.Action.TheVariants as act
use Rattle.csv.specs.declared.parser.Config.{Config}
use Rattle.csv.specs.declared.parser.State.{State}
use Rattle.csv.specs.declared.parser.State.TheVariants as st
use Rattle.csv.specs.Machine.{Read, ends_at_end, field_after, fields_after, is_end, next_record, step}
use Rattle.csv.specs.Reading.{records, records_from, records_next, strip_bom}
use Rattle.rj_columns.specs.NumbersRead.{numeric_of}
use Rattle.rj_columns.specs.declared.cell.ColumnType.{ColumnType}
use Rattle.rj_columns.specs.declared.cell.ColumnType.TheVariants as kind
use Rattle.rj_columns.specs.declared.refused.BuildRefused.{BuildRefused}
use Rattle.rj_columns.specs.declared.refused.BuildRefused.TheVariants as build
use Rattle.rj_columns.specs.Contents.{Content, nothing, whole, decimal, word}
use Rattle.rj_columns.specs.Names.{empty_table, name_fault}
use Rattle.rj_columns.specs.Tables.{TableValue, FitsTypes}
use Rattle.rj_csv_io.specs.Grammar.{may_delimit}
use Rattle.rj_csv_io.specs.StrictReading.{config_of}
use Rattle.rj_csv_io.specs.declared.refused.ReadRefused.{ReadRefused}
use Rattle.rj_csv_io.specs.declared.refused.ReadRefused.TheVariants as refused
use Rattle.rj_csv_io.specs.Ambiguous.{AreApart}
use Rattle.rj_csv_io.specs.Cuts.{has_bom}
use Rattle.rj_csv_io.specs.RoundTrips.{IsHeld, CanReadBack}
use Rattle.rj_csv_io.specs.Rows.{read_row, read_rows, reading_then}
use Rattle.rj_csv_io.specs.Shown.{shown, table_text}
use Rattle.rj_csv_io.specs.Tables.{are_null_texts, of_begun, read_of, read_records, records_read}
use Rattle.rj_csv_io.specs.Typed.{bad_cell, is_int_text, is_null_field, read_cell, read_cells, typed_cell}
use Rattle.rj_csv_io.proofs.ApartFacts.{cell-apart, read-apart}
use Rattle.rj_csv_io.proofs.CellBackFacts.{cell-back}
use Rattle.rj_csv_io.proofs.RowsFacts.{cell-fits}
use Rattle.rj_csv_io.proofs.TableBackFacts.{table-back}
use Rattle.rj_csv_io.proofs.TypedFacts.{int-Decides}

-- a record has a field
next-some : (cfg : Config) (s : State) (fields : List (List ℕ)) (field xs : List ℕ) (p : Read) → next_record cfg s fields field xs ≡ Some p → 0 < length p.0
unfolding next_record
next-some cfg s fields field [] p e = go (ends_at_end s) e
  where
    go : (b : Bool) → (if b then Some (fields ++ (field ∷ []), st.StartRecord, []) else None) ≡ Some p → 0 < length p.0
    go true e =
        let q : (fields ++ (field ∷ []), st.StartRecord, []) ≡ p = cc in
        rw (← q) (omega (arith, length-append fields (field ∷ [])))
    go false e = absurd (cc)
next-some cfg s fields field (c ∷ rest) p e = go (is_end (step cfg s c).1) refl e (next-some cfg (step cfg s c).0 (fields_after (step cfg s c).1 fields field) (field_after (step cfg s c).1 c field) rest p)
  where
    ended : (a : Action) → is_end a ≡ true → 0 < length (fields_after a fields field)
    ended act.EndRecord h = omega (arith, length-append fields (field ∷ []))
    ended act.Skip h = absurd (false≢true h)
    ended act.Copy h = absurd (false≢true h)
    ended act.EndField h = absurd (false≢true h)

    go : (b : Bool) → is_end (step cfg s c).1 ≡ b
        → (if b then Some (fields_after (step cfg s c).1 fields field, (step cfg s c).0, rest)
        else next_record cfg (step cfg s c).0 (fields_after (step cfg s c).1 fields field) (field_after (step cfg s c).1 c field) rest) ≡ Some p
        → (next_record cfg (step cfg s c).0 (fields_after (step cfg s c).1 fields field) (field_after (step cfg s c).1 c field) rest ≡ Some p → 0 < length p.0)
        → 0 < length p.0
    go true h e again =
        let q : (fields_after (step cfg s c).1 fields field, (step cfg s c).0, rest) ≡ p = cc in
        rw (← q) (ended (step cfg s c).1 h)
    go false h e again = again e

header-some : (cfg : Config) (n : ℕ) (s : State) (xs : List ℕ) (header : List (List ℕ)) (rest : List (List (List ℕ))) → records_from cfg n s xs ≡ header ∷ rest → 0 < length header
unfolding records_from
header-some cfg zero s xs header rest e = absurd (cc)
header-some cfg (suc n) s xs header rest e = go (next_record cfg s [] [] xs) refl e
  where
    go : (o : Option Read) → next_record cfg s [] [] xs ≡ o → records_next (records_from cfg n) o ≡ header ∷ rest → 0 < length header
    go None is e = absurd (cc)
    go (Some p) is e =
        let q : p.0 ≡ header = cc in
        rw (← q) (next-some cfg s [] [] xs p is)

-- a cell that was read is one that a `Cell` can hold
typed-held : (k : ColumnType) (f : List ℕ) (x : Content) → typed_cell k f ≡ Some x → IsHeld x
typed-held kind.Int f x e = go (is_int_text f) refl e
  where
    go : (b : Bool) → is_int_text f ≡ b → (if b then Some (whole (signed_digits_value 10 f)) else None) ≡ Some x → IsHeld x
    go true is e = let q : whole (signed_digits_value 10 f) ≡ x = cc in let P : Content → Type 0 = IsHeld in subst P q ((int-Decides f).0 is).1
    go false is e = absurd (cc)
typed-held (kind.Num t) f x e = go (numeric_of t.precision t.scale f) e
  where
    go : (r : Option ℤ) → option_map (λ units. decimal units t.scale) r ≡ Some x → IsHeld x
    go (Some u) e = let q : decimal u t.scale ≡ x = cc in let P : Content → Type 0 = IsHeld in subst P q tt
    go None e = absurd (cc)
typed-held kind.Text f x e = go (is_utf8 f) refl e
  where
    go : (b : Bool) → is_utf8 f ≡ b → (if b then Some (word f) else None) ≡ Some x → IsHeld x
    go true is e = let q : word f ≡ x = cc in let P : Content → Type 0 = IsHeld in subst P q (IsUtf8-from_is_utf8 f is)
    go false is e = absurd (cc)

module _ (nulls : List (List ℕ)) where
  cell-held : (k : ColumnType) (f : List ℕ) (x : Content) → read_cell nulls k f ≡ Some x → IsHeld x
  cell-held k f x e = go (is_null_field nulls f) e
    where
      go : (b : Bool) → (if b then Some nothing else typed_cell k f) ≡ Some x → IsHeld x
      go true e = let q : nothing ≡ x = cc in let P : Content → Type 0 = IsHeld in subst P q tt
      go false e = typed-held k f x e

  pub cell-again : (null : List ℕ) (k : ColumnType) (f : List ℕ) (x : Content) → are_null_texts nulls ≡ true → is_null_field nulls null ≡ true → read_cell nulls k f ≡ Some x
      → read_cell nulls k (shown null x) ≡ Some x
  cell-again null k f x lawful among e =
      cell-back nulls null lawful among k x (cell-fits nulls k f x e) (cell-held k f x e) (λ text is. cell-apart nulls text is k f x e)

  -- the cells of a record are those so far and more, of these types, that can be held
  record Read_on (types : List ColumnType) (done cells : List Content) : Type 0 where
    more : List Content
    parts : cells ≡ done ++ more
    fits : FitsTypes types more
    held : All IsHeld more

  cells-on : (types : List ColumnType) (fields : List (List ℕ)) (row : ℕ) (done cells : List Content) → length fields ≡ length types → read_cells nulls row done types fields ≡ Ok cells → Read_on types done cells
  unfolding read_cells FitsTypes
  cells-on [] [] row done cells size e =
      let q : done ≡ cells = cc in
      record { more = []; parts = sym q ∙ sym (append-nil done); fits = tt; held = All-nil IsHeld }
  cells-on [] (f ∷ fields) row done cells size e = absurd (omega arith)
  cells-on (t ∷ types) [] row done cells size e = absurd (omega arith)
  cells-on (t ∷ types) (f ∷ fields) row done cells size e = go (read_cell nulls t f) refl e (λ x. cells-on types fields row (done ++ x ∷ []) cells (omega arith))
    where
      go : (o : Option Content) → read_cell nulls t f ≡ o → read_cells nulls row done (t ∷ types) (f ∷ fields) ≡ Ok cells
          → ((x : Content) → read_cells nulls row (done ++ x ∷ []) types fields ≡ Ok cells → Read_on types (done ++ x ∷ []) cells) → Read_on (t ∷ types) done cells
      go None is e again = let no : Err (bad_cell t row (length done + 1)) ≡ Ok cells = rw is at e in absurd (cc)
      go (Some x) is e again =
          let rest = again x (rw is at e) in
          record {
            more = x ∷ rest.more;
            parts = rest.parts ∙ append_assoc done (x ∷ []) rest.more;
            fits = (cell-fits nulls t f x is, rest.fits);
            held = All-cons IsHeld x rest.more (cell-held t f x is) rest.held;
          }

  module _ (types : List ColumnType) where
    Good : List Content → Type 0
    Good cells = FitsTypes types cells × All IsHeld cells

    row-good : (n : ℕ) (fields : List (List ℕ)) (cells : List Content) → read_row nulls types n fields ≡ Ok cells → (n < 2 ^ 31 - 1) × FitsTypes types cells × All IsHeld cells
    row-good n fields cells e = go (nat_le (2 ^ 31 - 1) n) (length fields == length types) refl refl e
      where
        go : (a b : Bool) → nat_le (2 ^ 31 - 1) n ≡ a → (length fields == length types) ≡ b
            → (if a then Err refused.TooManyRows else if b then read_cells nulls (n + 1) [] types fields else Err (refused.RaggedRow (n + 1))) ≡ Ok cells
            → (n < 2 ^ 31 - 1) × FitsTypes types cells × All IsHeld cells
        go true b many same e = absurd (cc)
        go false true few same e =
            let on = cells-on types fields (n + 1) [] cells (eqb-true (length fields) (length types) same) e in
            let P : List Content → Type 0 = λ cells. (n < 2 ^ 31 - 1) × FitsTypes types cells × All IsHeld cells in
            subst P (sym on.parts) (leb-false (2 ^ 31 - 1) n few, on.fits, on.held)
        go false false few same e = absurd (cc)

    record AreGood (rows : List (List Content)) : Type 0 where
      few : length rows ≤ 2 ^ 31 - 1
      fits : All (FitsTypes types) rows
      held : All (All IsHeld) rows

    rows-good : (records : List (List (List ℕ))) (done rows : List (List Content)) → AreGood done → read_rows nulls types done records ≡ Ok rows → AreGood rows
    unfolding read_rows
    rows-good [] done rows good e = let q : done ≡ rows = cc in let P : List (List Content) → Type 0 = AreGood in subst P q good
    rows-good (r ∷ records) done rows good e = go (read_row nulls types (length done) r) refl e (λ cells. rows-good records (done ++ cells ∷ []) rows)
      where
        go : (o : Result (List Content) ReadRefused) → read_row nulls types (length done) r ≡ o
            → reading_then o (λ cells. read_rows nulls types (done ++ cells ∷ []) records) ≡ Ok rows
            → ((cells : List Content) → AreGood (done ++ cells ∷ []) → read_rows nulls types (done ++ cells ∷ []) records ≡ Ok rows → AreGood rows) → AreGood rows
        go (Ok cells) is e again =
            let here = row-good (length done) r cells is in
            again cells (record {
              few = omega (arith, length-append done (cells ∷ []), here.0);
              fits = All-push (FitsTypes types) done cells good.fits here.1;
              held = All-push (All IsHeld) done cells good.held here.2;
            }) e
        go (Err x) is e again = absurd (cc)

    -- the header of a table that was begun
    record Begins (header : List (List ℕ)) (start : TableValue) : Type 0 where
      few : length header ≤ 256
      lawful : name_fault [] header ≡ None
      named : length header ≡ length types
      same : record { names = header; types = types; rows = [] } ≡ start

    empty_table-parts : (header : List (List ℕ)) (start : TableValue) → empty_table header types ≡ Ok start → Begins header start
    empty_table-parts header start e = elim (cases_Bool (nat_lt 256 (length header))) [
      | inl many ↦ let no : Err build.TooManyColumns ≡ Ok start = rw many at e in absurd (cc)
      | inr few ↦ go few (name_fault [] header) refl
    ]
      where
        go : nat_lt 256 (length header) ≡ false → (o : Option BuildRefused) → name_fault [] header ≡ o → Begins header start
        go few (Some x) f = let no : Err x ≡ Ok start = rw (few, f) at e in absurd (cc)
        go few None f = elim (cases_Bool (length header == length types)) [
          | inl same ↦
              let is : Ok record { names = header; types = types; rows = [] } ≡ Ok start = rw (few, f, same) at e in
              let q : record { names = header; types = types; rows = [] } ≡ start = cc in
              record { few = ltb-false 256 (length header) few; lawful = f; named = eqb-true (length header) (length types) same; same = q }
          | inr other ↦ let no : Err build.TypeCount ≡ Ok start = rw (few, f, other) at e in absurd (cc)
        ]

    -- a table that records read as has cells of its types, which a `Cell` can hold
    pub rows-told : (all : List (List (List ℕ))) (t : TableValue) → records_read all types nulls ≡ Ok t → All (FitsTypes t.types) t.rows × All (All IsHeld) t.rows
    rows-told all t e = elim (cases_Bool (are_null_texts nulls)) [
      | inl lawful ↦ let read : read_records nulls types all ≡ Ok t = rw lawful at e in of_records all read
      | inr unlawful ↦ let no : Err refused.BadNull ≡ Ok t = rw unlawful at e in absurd (cc)
    ]
      where
        Holds : TableValue → Type 0
        Holds t = All (FitsTypes t.types) t.rows × All (All IsHeld) t.rows

        under : (header : List (List ℕ)) (rest : List (List (List ℕ))) (begins : Result TableValue BuildRefused) → empty_table header types ≡ begins
            → read_records nulls types (header ∷ rest) ≡ Ok t → Holds t
        under header rest (Err f) b r = let no : Err (of_begun f) ≡ Ok t = rw b at r in absurd (cc)
        under header rest (Ok start) b r = go (read_rows nulls types [] rest) refl
          where
            go : (x : Result (List (List Content)) ReadRefused) → read_rows nulls types [] rest ≡ x → Holds t
            go (Err x) is = let no : Err x ≡ Ok t = rw (b, is) at r in absurd (cc)
            go (Ok rows) is =
                let made : Ok record start { rows = rows } ≡ Ok t = rw (b, is) at r in
                let begins = empty_table-parts header start b in
                let good = rows-good rest [] rows (record { few = omega arith; fits = All-nil (FitsTypes types); held = All-nil (All IsHeld) }) is in
                let last : record start { rows = rows } ≡ t = cc in
                let same : record { names = header; types = types; rows = rows } ≡ t = ap (λ (s : TableValue). record s { rows = rows }) begins.same ∙ last in
                subst Holds same (good.fits, good.held)

        of_records : (all : List (List (List ℕ))) → read_records nulls types all ≡ Ok t → Holds t
        of_records [] r = absurd (cc)
        of_records (header ∷ rest) r = under header rest (empty_table header types) refl r

    -- a table that records read as
    abbrev Apart : List (List ℕ) → TableValue → Type 0
    Apart others t = (text : List ℕ) → is_null_field others text ≡ true → AreApart text t.rows

    -- a table that was read has the types that it was read by, and can be read back where its texts are apart from the reader's null texts
    record Told (t : TableValue) : Type 0 where
      lawful : are_null_texts nulls ≡ true
      typed : t.types ≡ types
      back : (others : List (List ℕ)) → Apart others t → CanReadBack others t

    read-told : (from : ℕ) (bytes : List ℕ) (t : TableValue) → read_of from bytes types nulls ≡ Ok t → Told t
    read-told from bytes t e = elim (cases_Bool (are_null_texts nulls)) [
      | inl lawful ↦
          let read : read_records nulls types (records (config_of from) (strip_bom bytes)) ≡ Ok t = rw lawful at e in
          with_header lawful (records (config_of from) (strip_bom bytes)) refl read
      | inr unlawful ↦ let no : Err refused.BadNull ≡ Ok t = rw unlawful at e in absurd (cc)
    ]
      where
        under : are_null_texts nulls ≡ true → (header : List (List ℕ)) (rest : List (List (List ℕ))) → 0 < length header → (begins : Result TableValue BuildRefused) → empty_table header types ≡ begins
            → read_records nulls types (header ∷ rest) ≡ Ok t → Told t
        under lawful header rest some (Err f) b r = let no : Err (of_begun f) ≡ Ok t = rw b at r in absurd (cc)
        under lawful header rest some (Ok start) b r = go (read_rows nulls types [] rest) refl
          where
            go : (x : Result (List (List Content)) ReadRefused) → read_rows nulls types [] rest ≡ x → Told t
            go (Err x) is = let no : Err x ≡ Ok t = rw (b, is) at r in absurd (cc)
            go (Ok rows) is =
                let made : Ok record start { rows = rows } ≡ Ok t = rw (b, is) at r in
                let begins = empty_table-parts header start b in
                let good = rows-good rest [] rows (record { few = omega arith; fits = All-nil (FitsTypes types); held = All-nil (All IsHeld) }) is in
                let last : record start { rows = rows } ≡ t = cc in
                let same : record { names = header; types = types; rows = rows } ≡ t = ap (λ (s : TableValue). record s { rows = rows }) begins.same ∙ last in
                subst Told same (record {
                  lawful = lawful;
                  typed = refl;
                  back = λ others apart. record {
                    some = some;
                    few = begins.few;
                    lawful = begins.lawful;
                    named = begins.named;
                    within = omega (arith, good.few);
                    typed = good.fits;
                    held = good.held;
                    apart = apart;
                  };
                })

        with_header : are_null_texts nulls ≡ true → (all : List (List (List ℕ))) → records (config_of from) (strip_bom bytes) ≡ all → read_records nulls types all ≡ Ok t → Told t
        with_header lawful [] is r = absurd (cc)
        with_header lawful (header ∷ rest) is r =
            under lawful header rest (header-some (config_of from) (length (strip_bom bytes) + 1) st.StartRecord (strip_bom bytes) header rest is) (empty_table header types) refl r

-- its text is read back by null texts that it is apart from
pub others-back : (d from : ℕ) (bytes : List ℕ) (types : List ColumnType) (known nulls : List (List ℕ)) (null : List ℕ) (t : TableValue)
    → may_delimit d ≡ true → read_of from bytes types known ≡ Ok t → are_null_texts nulls ≡ true → is_null_field nulls null ≡ true → Apart known types nulls t → has_bom (table_text d null t.names t.rows) ≡ false
    → read_of d (table_text d null t.names t.rows) types nulls ≡ Ok t
others-back d from bytes types known nulls null t delimits e lawful among apart plain =
    let told = read-told known types from bytes t e in
    let P : List ColumnType → Type 0 = λ types. read_of d (table_text d null t.names t.rows) types nulls ≡ Ok t in
    subst P told.typed (table-back nulls null lawful among d delimits t (told.back nulls apart) plain)

-- and by those that it was read by
pub read-back : (d from : ℕ) (bytes : List ℕ) (types : List ColumnType) (nulls : List (List ℕ)) (null : List ℕ) (t : TableValue)
    → may_delimit d ≡ true → read_of from bytes types nulls ≡ Ok t → is_null_field nulls null ≡ true → has_bom (table_text d null t.names t.rows) ≡ false
    → read_of d (table_text d null t.names t.rows) types nulls ≡ Ok t
read-back d from bytes types nulls null t delimits e among plain =
    others-back d from bytes types nulls nulls null t delimits e (read-told nulls types from bytes t e).lawful among
    (λ text is. read-apart nulls text is (records (config_of from) (strip_bom bytes)) types t e) plain
