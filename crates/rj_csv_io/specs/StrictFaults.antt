-- The place where a text stops being derived by RFC 4180's grammar.
use Rattle.std.specs.Prelude.{ℕ, ◌+◌, ◌==◌, ◌≡◌, ◌<◌, Bool, false, List, [], ◌∷◌, ◌++◌, length, IsTrue}
use Rattle.std.specs.List.{list_all}
use Rattle.rj_csv_io.specs.Grammar.{Field, escaped, LineEnd, Line, dquote, cr, lf, is_textdata, doubled, field_text, is_field, fields_text, is_blank, end_text, is_line, lines_text, names_of}
use Rattle.rj_csv_io.specs.declared.strict.header.HeaderPlace.{HeaderPlace}
use Rattle.rj_csv_io.specs.declared.strict.header.HeaderPlace.TheVariants.{First, Above}
use Rattle.rj_csv_io.specs.declared.strict.fault.StrictFault.{StrictFault}
use Rattle.rj_csv_io.specs.declared.strict.fault.StrictFault.TheVariants as fault

-- the row of a text's first record: 0 for the header, and 1 for the record under it
abbrev pub first_row : HeaderPlace → ℕ
first_row First = 0
first_row (Above names) = 1

-- these bytes are what is left of the text at a field: after whole lines, and after whole fields
-- each with its delimiter
pub record FieldAt (d : ℕ) (header : HeaderPlace) (text : List ℕ) (row column : ℕ) (left : List ℕ) : Type 0 where
  pub lines : List Line
  pub fields : List Field
  pub spelled : text ≡ lines_text d lines ++ (fields_text d fields ++ left)
  pub are_lines : IsTrue (list_all (is_line d (names_of header lines)) lines)
  pub are_fields : IsTrue (list_all (is_field d) fields)
  pub at_row : row ≡ first_row header + length lines
  pub at_column : column ≡ length fields + 1

-- the row of an error
abbrev pub row_at : StrictFault → ℕ
row_at (fault.OpenQuote row column) = row
row_at (fault.AfterQuote row column) = row
row_at (fault.BareQuote row column) = row
row_at (fault.BareReturn row column) = row
row_at (fault.EmptyLine row) = row
row_at (fault.CutShort row) = row

-- these lines are in the text above a row
pub record AreAbove (d : ℕ) (header : HeaderPlace) (text : List ℕ) (row : ℕ) (lines : List Line) : Type 0 where
  pub left : List ℕ
  pub spelled : text ≡ lines_text d lines ++ left
  pub are_lines : IsTrue (list_all (is_line d (names_of header lines)) lines)
  pub at_row : row ≡ first_row header + length lines

abbrev pub starts_with_lf : List ℕ → Bool
starts_with_lf [] = false
starts_with_lf (c ∷ bytes) = c == lf

-- the text has this error
abbrev pub HasFault : ℕ → HeaderPlace → Bool → List ℕ → StrictFault → Type 0
-- a quote opens the field, and no other one closes it
HasFault d header full text (fault.OpenQuote row column) =
    (bytes : List ℕ) × FieldAt d header text row column (dquote ∷ doubled bytes)
-- TEXTDATA comes after an escaped field
HasFault d header full text (fault.AfterQuote row column) =
    (bytes : List ℕ) × (c : ℕ) × (more : List ℕ) × IsTrue (is_textdata d c)
    × FieldAt d header text row column (field_text (escaped bytes) ++ c ∷ more)
-- a quote comes after TEXTDATA
HasFault d header full text (fault.BareQuote row column) =
    (c : ℕ) × (bytes : List ℕ) × (more : List ℕ) × IsTrue (list_all (is_textdata d) (c ∷ bytes))
    × FieldAt d header text row column ((c ∷ bytes) ++ dquote ∷ more)
-- a CR with no LF comes after a field
HasFault d header full text (fault.BareReturn row column) =
    (f : Field) × (more : List ℕ) × IsTrue (is_field d f) × (starts_with_lf more ≡ false)
    × FieldAt d header text row column (field_text f ++ cr ∷ more)
-- an empty line is under more than one name
HasFault d header full text (fault.EmptyLine row) =
    (ended : LineEnd) × (more : List ℕ) × (at : FieldAt d header text row 1 (end_text ended ++ more)) × (1 < names_of header at.lines)
-- a full file has a last record without a line end
HasFault d header full text (fault.CutShort row) =
    IsTrue full × (column : ℕ) × (last : Field) × IsTrue (is_field d last)
    × (at : FieldAt d header text row column (field_text last)) × (is_blank (record { before = at.fields; last = last }) ≡ false)
