-- Blocks that are derived, and what stands in them.
use Rattle.std.proofs.Common.{◌≡◌, ◌∙◌, ◌≤◌, ◌+◌, ℕ, List, [], ◌∷◌, Bool, true, refl, sym, ap, arith, length, map}
use Rattle.std.specs.Prelude.{◌||◌, ◌&&◌, not, None}
use Rattle.std.specs.List.{list_all}
use Rattle.std.proofs.lemmas.Bool.{le-leb}
use Rattle.std.proofs.lemmas.List.{append-nil, length-map}
use Rattle.csv.specs.Reading.{strip_bom}
use Rattle.rj_columns.specs.declared.cell.ColumnType.{ColumnType}
use Rattle.rj_columns.specs.Contents.{Content}
use Rattle.rj_csv_io.specs.Pieces.{AreRows}
use Rattle.rj_csv_io.proofs.DelimiterFacts.{no-delimiter}
use Rattle.rj_csv_io.specs.StrictFaults.{AreAbove}
use Rattle.rj_csv_io.specs.Grammar.{Derives, File, LF, Line, is_blank, is_record, lines_text, may_delimit, non-escaped, values_of}
use Rattle.rj_csv_io.specs.declared.strict.header.HeaderPlace.TheVariants.{Above, First}
use Rattle.rj_shards.specs.Blocks.{records_in}
use Rattle.rj_shards.proofs.ReadingFacts.{rows-many}

-- the line of one name that is put above a text
abbrev pub name_line : Line
name_line = record { fields = record { before = []; last = non-escaped (120 ∷ []) }; ended = LF }

abbrev pub name_file : File
name_file = record { lines = name_line ∷ []; rest = None }

pub name-derived : (d : ℕ) → may_delimit d ≡ true → Derives d First true (120 ∷ 10 ∷ []) name_file
name-derived d may = record { spelled = refl; lines = rw (no-delimiter d may 120 refl) refl; rest = refl }

-- it begins with no byte order mark
pub unmarked : (text : List ℕ) → strip_bom (120 ∷ 10 ∷ text) ≡ 120 ∷ 10 ∷ text
unfolding strip_bom
unmarked [] = refl
unmarked (c ∷ rest) = refl

-- under no name empty lines are records as they are under one
pub under-one : (d names : ℕ) (full : Bool) (text : List ℕ) (file : File) → names ≤ 1 → Derives d (Above names) full text file → Derives d (Above 1) full text file
under-one d names full text file low x = record {
  spelled = x.spelled;
  lines = ap (λ (b : Bool). list_all (λ (l : Line). is_record d l.fields && (b || not (is_blank l.fields))) file.lines) (sym (le-leb names 1 low)) ∙ x.lines;
  rest = x.rest;
}

-- the lines above a fault are derived
pub above-derived : (d names : ℕ) (text above : List ℕ) (row : ℕ) (lines : List Line) → AreAbove d (Above names) text row lines → above ≡ lines_text d lines
    → Derives d (Above names) true above (record { lines = lines; rest = None })
above-derived d names text above row lines are is = record { spelled = is ∙ sym (append-nil (lines_text d lines)); lines = are.are_lines; rest = refl }

-- each line has a record
pub lines-many : (lines : List Line) → length (records_in lines) ≡ length lines
lines-many lines = ap length (append-nil (map (λ (l : Line). values_of l.fields) lines)) ∙ length-map lines (λ (l : Line). values_of l.fields)

-- the row of a fault is the one below the rows above it
pub row-below : (d : ℕ) (nulls : List (List ℕ)) (types : List ColumnType) (names : ℕ) (text : List ℕ) (row : ℕ) (lines : List Line) (rows : List (List Content)) (n : ℕ) → AreAbove d (Above names) text row lines
    → AreRows nulls types (records_in lines) rows → n ≡ length rows → row ≡ 1 + n
row-below d nulls types names text row lines rows n are read many = omega (arith, are.at_row, rows-many nulls types (records_in lines) rows read, lines-many lines, many)
