-- Texts that are read strictly, in pieces.
use Rattle.std.proofs.Common.{◌≡◌, ◌∙◌, ◌+◌, ℕ, List, [], ◌++◌, Bool, true, false, refl, sym, ap, subst, append_assoc, length, map, inl, inr}
use Rattle.std.specs.Prelude.{Option, Some, None, ◌&&◌, ◌||◌, not}
use Rattle.std.proofs.lemmas.Bool.{and_parts, false≢true}
use Rattle.std.proofs.lemmas.List.{append-nil, map-append}
use Rattle.rj_columns.specs.Contents.{Content}
use Rattle.rj_csv_io.specs.Pieces.{AreRows}
use Rattle.rj_shards.specs.Blocks.{BeginDerived, IsBrokenAt, StandDerived, above, in_all, in_lines, in_text, records_in, strict_behind}
use Rattle.rj_shards.specs.Divisions.{Dividing}
use Rattle.rj_shards.proofs.BlockFacts.{lines-many}
use Rattle.rj_shards.proofs.BrokenFacts.{EndsWell, Reads, above-behind, all-both, behind-none, fault-behind, lines-append, row-counts}
use Rattle.rj_shards.proofs.ReadingFacts.{rows-append, rows-many}
use Rattle.rj_csv_io.specs.Grammar.{Derives, File, Line, Record, is_blank, is_line, is_record, is_rest, lines_text, may_delimit, records_of, rest_records, rest_text, values_of}
use Rattle.rj_csv_io.specs.StrictFaults.{AreAbove, HasFault, row_at}
use Rattle.rj_csv_io.specs.declared.strict.fault.StrictFault.{StrictFault}
use Rattle.rj_csv_io.specs.declared.strict.header.HeaderPlace.TheVariants.{Above}

no-rest : (d : ℕ) (rest : Option Record) → is_rest d true rest ≡ true → rest ≡ None
no-rest d None e = refl
no-rest d (Some r) e = absurd (false≢true (and_parts (is_record d r && not (is_blank r)) false e).1)

-- a file whose lines all end
ended : (d : ℕ) (file : File) → is_rest d true file.rest ≡ true → file ≡ record { lines = file.lines; rest = None }
ended d file e = λ i. record { lines = file.lines; rest = no-rest d file.rest e i }

-- lines, and a file below them
abbrev pub below : List Line → File → File
below lines file = record { lines = lines ++ file.lines; rest = file.rest }

derives-below : (d names : ℕ) (full : Bool) (taken text : List ℕ) (lines : List Line) (file : File) → Derives d (Above names) true taken (record { lines = lines; rest = None })
    → Derives d (Above names) full text file → Derives d (Above names) full (taken ++ text) (below lines file)
derives-below d names full taken text lines file x e =
    let first : taken ≡ lines_text d lines = x.spelled ∙ append-nil (lines_text d lines) in
    record {
      spelled = (λ i. first i ++ e.spelled i)
          ∙ (sym (append_assoc (lines_text d lines) (lines_text d file.lines) (rest_text d file.rest)) ∙ ap (λ (t : List ℕ). t ++ rest_text d file.rest) (sym (lines-append d lines file.lines)));
      lines = all-both (is_line d names) lines file.lines x.lines e.lines;
      rest = e.rest;
    }

pub records-below : (lines : List Line) (file : File) → records_in lines ++ records_of file ≡ records_of (below lines file)
records-below lines file =
    let V : Line → List (List ℕ) = λ l. values_of l.fields in
    ap (λ (x : List (List (List ℕ))). x ++ records_of file) (append-nil (map V lines))
    ∙ (sym (append_assoc (map V lines) (map V file.lines) (rest_records file.rest)) ∙ ap (λ (x : List (List (List ℕ))). x ++ rest_records file.rest) (sym (map-append V lines file.lines)))

-- a text that begins with lines, and the piece behind these
module _ (d : Dividing) (text taken piece tail : List ℕ) (lines : List Line) (cut : text ≡ taken ++ (piece ++ tail))
    (derived : Derives d.delimiter (Above (length d.types)) true taken (record { lines = lines; rest = None })) where
  abbrev D : ℕ
  D = d.delimiter

  abbrev N : ℕ
  N = length d.types

  -- the lines of a piece behind them
  pub lines-on : (file : File) → Derives D (Above N) true piece file → Derives D (Above N) true (taken ++ piece) (record { lines = lines ++ file.lines; rest = None })
  lines-on file x =
      subst (Derives D (Above N) true (taken ++ piece)) (ended D (below lines file) x.rest) (derives-below D N true taken piece lines file derived x)

  pub records-on : (file : File) → Derives D (Above N) true piece file → records_in lines ++ records_of file ≡ records_in (lines ++ file.lines)
  records-on file x = records-below lines file ∙ ap records_of (ended D (below lines file) x.rest)

  -- the last piece
  pub whole-on : (full : Bool) (file : File) → tail ≡ [] → Derives D (Above N) full piece file → Derives D (Above N) full text (below lines file)
  whole-on full file none x =
      let whole = cut ∙ (ap (λ (t : List ℕ). taken ++ (piece ++ t)) none ∙ ap (λ (t : List ℕ). taken ++ t) (append-nil piece)) in
      subst (λ (t : List ℕ). Derives D (Above N) full t (below lines file)) (sym whole) (derives-below D N full taken piece lines file derived x)

  text-behind : text ≡ lines_text D lines ++ (piece ++ tail)
  text-behind = cut ∙ ap (λ (l : List ℕ). l ++ (piece ++ tail)) (derived.spelled ∙ append-nil (lines_text D lines))

  lines-behind : (row : ℕ) (more : List Line) → AreAbove D (Above N) piece row more → AreAbove D (Above N) text (length lines + row) (lines ++ more)
  lines-behind row more a =
      subst (λ (t : List ℕ). AreAbove D (Above N) t (length lines + row) (lines ++ more)) (sym text-behind) (above-behind D N lines derived.lines piece tail row more a)

  begin-lines : (full : Bool) (row : ℕ) (more : List Line) → AreAbove D (Above N) piece row more → BeginDerived D N full text (records_in lines ++ records_in more)
  begin-lines full row more a =
      subst (BeginDerived D N full text) (sym (records-below lines (record { lines = more; rest = None }))) (in_lines (length lines + row) (lines ++ more) (lines-behind row more a))

  begin-file : (full whole : Bool) (file : File) → EndsWell D full whole piece tail → Derives D (Above N) whole piece file → BeginDerived D N full text (records_in lines ++ records_of file)
  begin-file full whole file (inl e) x =
      subst (BeginDerived D N full text) (sym (records-below lines file)) (in_text (below lines file) (whole-on full file e.0 (subst (λ (b : Bool). Derives D (Above N) b piece file) e.1 x)))
  begin-file full whole file (inr e) x =
      let same = ended D file (subst (λ (b : Bool). is_rest D b file.rest ≡ true) e.2 x.rest) in
      subst (λ (f : File). BeginDerived D N full text (records_in lines ++ records_of f)) (sym same)
      (begin-lines full (1 + length file.lines) file.lines (record { left = rest_text D file.rest; spelled = x.spelled; are_lines = x.lines; at_row = refl }))

  -- the records of a piece behind those of the lines
  pub begin-in : (full whole : Bool) → EndsWell D full whole piece tail → (records : List (List (List ℕ))) → StandDerived D N whole piece records → BeginDerived D N full text (records_in lines ++ records)
  begin-in full whole s _ (in_all file x) = begin-file full whole file s x
  begin-in full whole s _ (above f more has are) = begin-lines full (row_at f) more are

  -- the first records of a piece behind those of the lines
  pub begin-part : (full whole : Bool) → EndsWell D full whole piece tail → (records : List (List (List ℕ))) → BeginDerived D N whole piece records → BeginDerived D N full text (records_in lines ++ records)
  begin-part full whole s _ (in_text file x) = begin-file full whole file s x
  begin-part full whole s _ (in_lines row more are) = begin-lines full row more are

  -- the place where the text stops being derived
  pub broken-in : may_delimit D ≡ true → Reads D → (full whole : Bool) → EndsWell D full whole piece tail → (rows : List (List Content)) → AreRows d.nulls d.types (records_in lines) rows → (f : StrictFault)
      → IsBrokenAt d whole piece (length rows) f → IsBrokenAt d full text 0 f
  broken-in may law full whole s rows read f b =
      let k = length lines in
      let has = fault-behind D N lines derived.lines piece tail may law full whole b.at s b.has in
      let many : length rows ≡ k = sym (rows-many d.nulls d.types (records_in lines) rows read) ∙ lines-many lines in
      record {
        at = strict_behind k b.at;
        has = subst (λ (t : List ℕ). HasFault D (Above N) full t (strict_behind k b.at)) (sym text-behind) has;
        lines = lines ++ b.lines;
        above = subst (λ (r : ℕ). AreAbove D (Above N) text r (lines ++ b.lines)) (sym (row-counts k b.at)) (lines-behind (row_at b.at) b.lines b.above);
        rows = rows ++ b.rows;
        read = subst (λ (x : List (List (List ℕ))). AreRows d.nulls d.types x (rows ++ b.rows)) (records-below lines (record { lines = b.lines; rest = None }))
            (rows-append d.nulls d.types (records_in lines) (records_in b.lines) rows b.rows read b.read);
        is = b.is ∙ (ap (λ (j : ℕ). strict_behind j b.at) many ∙ sym (behind-none (strict_behind k b.at)));
      }

-- a block that isn't the last one is full, and the last one is where the range is
pub full-block : (full : Bool) → full || not false ≡ true
full-block true = refl
full-block false = refl

pub last-block : (full : Bool) → full || not true ≡ full
last-block true = refl
last-block false = refl
