-- The fault of a block is the fault of the text that it stands in.
use Rattle.std.proofs.Common.{◌≡◌, ◌∙◌, ◌+◌, ◌-◌, ℕ, List, [], ◌∷◌, ◌++◌, Bool, true, false, refl, sym, ap, subst, arith, append_assoc, length, map, inl, inr, zero-add}
use Rattle.std.specs.Prelude.{◌⊎◌, ◌&&◌, ◌||◌, not, nat_le, filter, Some, None, slice_index_or}
use Rattle.std.specs.List.{list_all}
use Rattle.std.proofs.lemmas.Bool.{and_from, eq-eqb, or_right}
use Rattle.std.proofs.lemmas.Grind.{flat_map-append}
use Rattle.std.proofs.lemmas.List.{append-nil, get_or_push, length-append, length-map}
use Rattle.std.proofs.lemmas.List.Folds.{list_all-append}
use Rattle.csv.specs.Machine.{next_record}
use Rattle.csv.specs.Reading.{records, records_from}
use Rattle.csv.specs.declared.parser.State.TheVariants as st
use Rattle.rj_csv_io.specs.Cuts.{state_after}
use Rattle.rj_csv_io.proofs.CutFacts.{records-split}
use Rattle.rj_csv_io.proofs.DelimiterFacts.{delimiter-other, no-delimiter}
use Rattle.rj_csv_io.specs.StrictFaults.{AreAbove, FieldAt, HasFault, row_at, starts_with_lf}
use Rattle.rj_csv_io.specs.Grammar.{Derives, Field, File, LF, Line, Record, cr, doubled, dquote, end_text, escaped, field_text, fields_text, is_blank, is_field, is_line, is_record, is_rest, line_text, lines_text, may_delimit, non-escaped, records_of, rest_records, values_of}
use Rattle.rj_csv_io.specs.StrictReading.{config_of, without_empty}
use Rattle.rj_csv_io.specs.declared.strict.fault.StrictFault.{StrictFault}
use Rattle.rj_csv_io.specs.declared.strict.fault.StrictFault.TheVariants as fault
use Rattle.rj_csv_io.specs.declared.strict.header.HeaderPlace.{HeaderPlace}
use Rattle.rj_csv_io.specs.declared.strict.header.HeaderPlace.TheVariants.{Above}
use Rattle.rj_shards.specs.Blocks.{strict_behind}
use Rattle.rj_shards.proofs.LenientFacts.{records-none}

-- the law of what csv reads of a text that is derived
abbrev pub Reads : ℕ → Type 0
Reads d = (header : HeaderPlace) (full : Bool) (text : List ℕ) (file : File) → Derives d header full text file → records (config_of d) text ≡ records_of (without_empty file)

pub all-both : {X : Type 0} (p : X → Bool) (xs ys : List X) → list_all p xs ≡ true → list_all p ys ≡ true → list_all p (xs ++ ys) ≡ true
all-both p xs ys e f = list_all-append p xs ys ∙ and_from (list_all p xs) (list_all p ys) e f

pub lines-append : (d : ℕ) (a b : List Line) → lines_text d (a ++ b) ≡ lines_text d a ++ lines_text d b
lines-append d a b = flat_map-append (line_text d) a b

escaped-solid : (fields : List Field) (bytes : List ℕ) → not (is_blank (record { before = fields; last = escaped bytes })) ≡ true
escaped-solid [] bytes = refl
escaped-solid (f ∷ fields) bytes = refl

more-solid : (fields : List Field) (f last : Field) → not (is_blank (record { before = fields ++ f ∷ []; last = last })) ≡ true
more-solid [] f last = refl
more-solid (g ∷ fields) f last = refl

abbrev solid_lines : List Line → List Line
solid_lines lines = filter (λ (l : Line). not (is_blank l.fields)) lines

-- how many records csv reads of a file
read-many : (file : File) → length (records_of (without_empty file)) ≡ length (solid_lines file.lines) + length (rest_records file.rest)
read-many file =
    let V : Line → List (List ℕ) = λ l. values_of l.fields in
    length-append (map V (solid_lines file.lines)) (rest_records file.rest)
    ∙ ap (λ (k : ℕ). k + length (rest_records file.rest)) (length-map (solid_lines file.lines) V)

quote-line : (d : ℕ) → length (records (config_of d) (34 ∷ 10 ∷ [])) ≡ 1
unfolding records_from next_record
quote-line d = refl

quote-more : (d : ℕ) → length (records (config_of d) (34 ∷ 10 ∷ 120 ∷ [])) ≡ 1
unfolding records_from next_record
quote-more d = refl

delimiter-alone : (d : ℕ) → may_delimit d ≡ true → length (records (config_of d) (d ∷ [])) ≡ 1
unfolding records_from next_record
delimiter-alone d may = rw (delimiter-other d may 13 refl, delimiter-other d may 10 refl, delimiter-other d may 34 refl, eq-eqb d d refl) refl

opened-line : (lines : List ℕ) (fields bytes : List ℕ) → (lines ++ (fields ++ 34 ∷ bytes)) ++ 34 ∷ 10 ∷ [] ≡ lines ++ (((fields ++ 34 ∷ (bytes ++ 34 ∷ [])) ++ 10 ∷ []) ++ [])
opened-line lines fields bytes = simp (append_assoc, append-nil)

opened-more : (lines : List ℕ) (fields bytes : List ℕ) → (lines ++ (fields ++ 34 ∷ bytes)) ++ 34 ∷ 10 ∷ 120 ∷ [] ≡ (lines ++ (((fields ++ 34 ∷ (bytes ++ 34 ∷ [])) ++ 10 ∷ []) ++ [])) ++ 120 ∷ []
opened-more lines fields bytes = simp (append_assoc, append-nil)

ended-field : (d : ℕ) (lines fields last : List ℕ) → (lines ++ (fields ++ last)) ++ d ∷ [] ≡ lines ++ ((fields ++ ((last ++ d ∷ []) ++ [])) ++ [])
ended-field d lines fields last = simp (append_assoc, append-nil)

module _ (d : ℕ) (may : may_delimit d ≡ true) (names : ℕ) (reads : Reads d) (block : List ℕ) (ends : state_after d st.StartRecord block ≡ st.StartRecord) where
  read-behind : (more : List ℕ) (file : File) → Derives d (Above names) false (block ++ more) file
      → length (records (config_of d) block) + length (records (config_of d) more) ≡ length (solid_lines file.lines) + length (rest_records file.rest)
  read-behind more file x =
      sym (ap length (records-split d block more ends) ∙ length-append (records (config_of d) block) (records (config_of d) more))
      ∙ (ap length (reads (Above names) false (block ++ more) file x) ∙ read-many file)

  -- where a record ends no quote is open
  never-open : (row column : ℕ) (bytes : List ℕ) → FieldAt d (Above names) block row column (dquote ∷ doubled bytes) → ⊥
  never-open row column bytes at =
      let r : Record = record { before = at.fields; last = escaped bytes } in
      let l : Line = record { fields = r; ended = LF } in
      let x : Record = record { before = []; last = non-escaped (120 ∷ []) } in
      let lines : List Line = at.lines ++ l ∷ [] in
      let lawful : is_record d r ≡ true = and_from (list_all (is_field d) at.fields) true at.are_fields refl in
      let line : is_line d names l ≡ true = and_from (is_record d r) (nat_le names 1 || not (is_blank r)) lawful (or_right (nat_le names 1) (not (is_blank r)) (escaped-solid at.fields bytes)) in
      let all : list_all (is_line d names) lines ≡ true = all-both (is_line d names) at.lines (l ∷ []) at.are_lines (and_from (is_line d names l) true line refl) in
      let text : lines_text d lines ≡ lines_text d at.lines ++ lines_text d (l ∷ []) = lines-append d at.lines (l ∷ []) in
      let one : block ++ 34 ∷ 10 ∷ [] ≡ lines_text d lines =
      ap (λ (t : List ℕ). t ++ 34 ∷ 10 ∷ []) at.spelled ∙ (opened-line (lines_text d at.lines) (fields_text d at.fields) (doubled bytes) ∙ sym text) in
      let two : block ++ 34 ∷ 10 ∷ 120 ∷ [] ≡ lines_text d lines ++ 120 ∷ [] =
      ap (λ (t : List ℕ). t ++ 34 ∷ 10 ∷ 120 ∷ []) at.spelled
      ∙ (opened-more (lines_text d at.lines) (fields_text d at.fields) (doubled bytes) ∙ sym (ap (λ (t : List ℕ). t ++ 120 ∷ []) text)) in
      let a = read-behind (34 ∷ 10 ∷ []) (record { lines = lines; rest = None }) (record { spelled = one ∙ sym (append-nil (lines_text d lines)); lines = all; rest = refl }) in
      let b = read-behind (34 ∷ 10 ∷ 120 ∷ []) (record { lines = lines; rest = Some x }) (record { spelled = two; lines = all; rest = rw (no-delimiter d may 120 refl) refl }) in
      omega (arith, a, b, quote-line d, quote-more d)

  -- where a record ends the last one has its line's end
  never-short : (row column : ℕ) (last : Field) → is_field d last ≡ true → (at : FieldAt d (Above names) block row column (field_text last))
      → is_blank (record { before = at.fields; last = last }) ≡ false → ⊥
  never-short row column last ok at solid =
      let r : Record = record { before = at.fields; last = last } in
      let more : Record = record { before = at.fields ++ last ∷ []; last = non-escaped [] } in
      let lawful : is_record d r ≡ true = and_from (list_all (is_field d) at.fields) (is_field d last) at.are_fields ok in
      let rest : is_rest d false (Some r) ≡ true = and_from (is_record d r && not (is_blank r)) true (and_from (is_record d r) (not (is_blank r)) lawful (ap not solid)) refl in
      let fields : list_all (is_field d) (at.fields ++ last ∷ []) ≡ true = all-both (is_field d) at.fields (last ∷ []) at.are_fields (and_from (is_field d last) true ok refl) in
      let rest2 : is_rest d false (Some more) ≡ true =
      and_from (is_record d more && not (is_blank more)) true (and_from (is_record d more) (not (is_blank more)) (and_from (list_all (is_field d) (at.fields ++ last ∷ [])) true fields refl) (more-solid at.fields last (non-escaped []))) refl in
      let text : fields_text d (at.fields ++ last ∷ []) ≡ fields_text d at.fields ++ fields_text d (last ∷ []) = flat_map-append (λ (f : Field). field_text f ++ d ∷ []) at.fields (last ∷ []) in
      let two : block ++ d ∷ [] ≡ lines_text d at.lines ++ (fields_text d (at.fields ++ last ∷ []) ++ []) =
      ap (λ (t : List ℕ). t ++ d ∷ []) at.spelled
      ∙ (ended-field d (lines_text d at.lines) (fields_text d at.fields) (field_text last) ∙ sym (ap (λ (t : List ℕ). lines_text d at.lines ++ (t ++ [])) text)) in
      let a = read-behind [] (record { lines = at.lines; rest = Some r }) (record { spelled = append-nil block ∙ at.spelled; lines = at.are_lines; rest = rest }) in
      let b = read-behind (d ∷ []) (record { lines = at.lines; rest = Some more }) (record { spelled = two; lines = at.are_lines; rest = rest2 }) in
      omega (arith, a, b, ap length (records-none d), delimiter-alone d may)

last-byte : (xs : List ℕ) (c : ℕ) → slice_index_or (xs ++ c ∷ []) (length (xs ++ c ∷ []) - 1) 0 ≡ c
last-byte xs c = get_or_push xs c 0 (length (xs ++ c ∷ []) - 1) (omega (arith, length-append xs (c ∷ [])))

-- behind a line feed no return stands alone
never-return : (block xs : List ℕ) → slice_index_or block (length block - 1) 0 ≡ 10 → block ≡ xs ++ cr ∷ [] → ⊥
never-return block xs feed is =
    let last : slice_index_or block (length block - 1) 0 ≡ 13 = subst (λ (t : List ℕ). slice_index_or t (length t - 1) 0 ≡ 13) (sym is) (last-byte xs 13) in
    omega (arith, feed, last)

-- where a block ends: with the text, as fully as that has to, or where a record does, behind a line feed
abbrev pub EndsWell : ℕ → Bool → Bool → List ℕ → List ℕ → Type 0
EndsWell d full whole block tail =
    ((tail ≡ []) × (whole ≡ full)) ⊎ ((slice_index_or block (length block - 1) 0 ≡ 10) × (state_after d st.StartRecord block ≡ st.StartRecord) × (whole ≡ true))

module _ (d names : ℕ) (done : List Line) (are : list_all (is_line d names) done ≡ true) (block tail : List ℕ) where
  spelled-behind : (lines : List Line) (fields left all : List ℕ) → block ≡ lines_text d lines ++ (fields ++ left) → left ++ tail ≡ all
      → lines_text d done ++ (block ++ tail) ≡ lines_text d (done ++ lines) ++ (fields ++ all)
  spelled-behind lines fields left all is e =
      rw (is, ← e, lines-append d done lines) (go (lines_text d done) (lines_text d lines))
    where
      go : (a b : List ℕ) → a ++ ((b ++ (fields ++ left)) ++ tail) ≡ (a ++ b) ++ (fields ++ (left ++ tail))
      go a b = simp append_assoc

  row-behind : (row : ℕ) (lines : List Line) → row ≡ 1 + length lines → length done + row ≡ 1 + length (done ++ lines)
  row-behind row lines is = omega (arith, length-append done lines, is)

  abbrev field-behind : (row column : ℕ) (left all : List ℕ) → FieldAt d (Above names) block row column left → left ++ tail ≡ all
      → FieldAt d (Above names) (lines_text d done ++ (block ++ tail)) (length done + row) column all
  field-behind row column left all f e = record {
    lines = done ++ f.lines;
    fields = f.fields;
    spelled = spelled-behind f.lines (fields_text d f.fields) left all f.spelled e;
    are_lines = all-both (is_line d names) done f.lines are f.are_lines;
    are_fields = f.are_fields;
    at_row = row-behind row f.lines f.at_row;
    at_column = f.at_column;
  }

  pub above-behind : (row : ℕ) (lines : List Line) → AreAbove d (Above names) block row lines → AreAbove d (Above names) (lines_text d done ++ (block ++ tail)) (length done + row) (done ++ lines)
  above-behind row lines a = record {
    left = a.left ++ tail;
    spelled = spelled-behind lines [] a.left (a.left ++ tail) a.spelled refl;
    are_lines = all-both (is_line d names) done lines are a.are_lines;
    at_row = row-behind row lines a.at_row;
  }

  pub fault-behind : may_delimit d ≡ true → Reads d → (full whole : Bool) (f : StrictFault) → EndsWell d full whole block tail → HasFault d (Above names) whole block f
      → HasFault d (Above names) full (lines_text d done ++ (block ++ tail)) (strict_behind (length done) f)
  fault-behind may reads full whole (fault.OpenQuote row column) (inl e) h =
      (h.0, field-behind row column (dquote ∷ doubled h.0) (dquote ∷ doubled h.0) h.1 (ap (λ (t : List ℕ). (dquote ∷ doubled h.0) ++ t) e.0 ∙ append-nil (dquote ∷ doubled h.0)))
  fault-behind may reads full whole (fault.OpenQuote row column) (inr e) h = absurd (never-open d may names reads block e.1 row column h.0 h.1)
  fault-behind may reads full whole (fault.AfterQuote row column) e h =
      (h.0, h.1, h.2 ++ tail, h.3, field-behind row column (field_text (escaped h.0) ++ h.1 ∷ h.2) (field_text (escaped h.0) ++ h.1 ∷ (h.2 ++ tail)) h.4 (append_assoc (field_text (escaped h.0)) (h.1 ∷ h.2) tail))
  fault-behind may reads full whole (fault.BareQuote row column) e h =
      (h.0, h.1, h.2 ++ tail, h.3, field-behind row column ((h.0 ∷ h.1) ++ dquote ∷ h.2) ((h.0 ∷ h.1) ++ dquote ∷ (h.2 ++ tail)) h.4 (append_assoc (h.0 ∷ h.1) (dquote ∷ h.2) tail))
  fault-behind may reads full whole (fault.BareReturn row column) e h = go h.0 h.1 h.2 h.3 h.4 e
    where
      go : (f : Field) (more : List ℕ) → is_field d f ≡ true → starts_with_lf more ≡ false → FieldAt d (Above names) block row column (field_text f ++ cr ∷ more) → EndsWell d full whole block tail
          → HasFault d (Above names) full (lines_text d done ++ (block ++ tail)) (strict_behind (length done) (fault.BareReturn row column))
      go f (c ∷ more) ok none at ended =
          (f, c ∷ (more ++ tail), ok, none, field-behind row column (field_text f ++ cr ∷ c ∷ more) (field_text f ++ cr ∷ c ∷ (more ++ tail)) at (append_assoc (field_text f) (cr ∷ c ∷ more) tail))
      go f [] ok none at (inl ended) =
          (f, [], ok, refl, field-behind row column (field_text f ++ cr ∷ []) (field_text f ++ cr ∷ []) at (ap (λ (t : List ℕ). (field_text f ++ cr ∷ []) ++ t) ended.0 ∙ append-nil (field_text f ++ cr ∷ [])))
      go f [] ok none at (inr ended) =
          absurd (never-return block (lines_text d at.lines ++ (fields_text d at.fields ++ field_text f)) ended.0 (at.spelled ∙ return-last (lines_text d at.lines) (fields_text d at.fields) (field_text f)))
        where
          return-last : (a b d : List ℕ) → a ++ (b ++ (d ++ cr ∷ [])) ≡ (a ++ (b ++ d)) ++ cr ∷ []
          return-last a b d = simp append_assoc
  fault-behind may reads full whole (fault.EmptyLine row) e h =
      (h.0, h.1 ++ tail, field-behind row 1 (end_text h.0 ++ h.1) (end_text h.0 ++ (h.1 ++ tail)) h.2 (append_assoc (end_text h.0) h.1 tail), h.3)
  fault-behind may reads full whole (fault.CutShort row) (inl e) h =
      (sym e.1 ∙ h.0, h.1, h.2, h.3, field-behind row h.1 (field_text h.2) (field_text h.2) h.4 (ap (λ (t : List ℕ). field_text h.2 ++ t) e.0 ∙ append-nil (field_text h.2)), h.5)
  fault-behind may reads full whole (fault.CutShort row) (inr e) h = absurd (never-short d may names reads block e.1 row h.1 h.2 h.3 h.4 h.5)

-- the row of a fault behind lines
pub row-counts : (n : ℕ) (f : StrictFault) → row_at (strict_behind n f) ≡ n + row_at f
row-counts n (fault.OpenQuote row column) = refl
row-counts n (fault.AfterQuote row column) = refl
row-counts n (fault.BareQuote row column) = refl
row-counts n (fault.BareReturn row column) = refl
row-counts n (fault.EmptyLine row) = refl
row-counts n (fault.CutShort row) = refl

-- no row before leaves a fault as it is
pub behind-none : (f : StrictFault) → strict_behind 0 f ≡ f
behind-none (fault.OpenQuote row column) = ap (λ (r : ℕ). fault.OpenQuote r column) (zero-add row)
behind-none (fault.AfterQuote row column) = ap (λ (r : ℕ). fault.AfterQuote r column) (zero-add row)
behind-none (fault.BareQuote row column) = ap (λ (r : ℕ). fault.BareQuote r column) (zero-add row)
behind-none (fault.BareReturn row column) = ap (λ (r : ℕ). fault.BareReturn r column) (zero-add row)
behind-none (fault.EmptyLine row) = ap fault.EmptyLine (zero-add row)
behind-none (fault.CutShort row) = ap fault.CutShort (zero-add row)
