-- Text: the CSV text of a header and of rows (RFC 4180, section 2, with any delimiter, as csv's
-- writer writes a record).
use Rattle.std.specs.Prelude.{ℕ, ◌-◌, List, [], ◌∷◌, ◌++◌, map, take, drop}
use Rattle.std.specs.Fmt.{signed_decimal}
use Rattle.csv.specs.declared.writer.WriterBuilder.{WriterBuilder}
use Rattle.csv.specs.Writing.{default_writer, row_text, with_delimiter}
use Rattle.rj_columns.specs.NumbersWritten.{text_of}
use Rattle.rj_columns.specs.Contents.{Content, nothing, whole, decimal, word}

-- the text of a cell: NULL is the NULL text, a whole number has neither `+` nor leading zeros, and
-- a decimal has its scale's digits after the point
abbrev pub shown : List ℕ → Content → List ℕ
shown null nothing = null
shown null (whole n) = signed_decimal n
shown null (decimal units scale) = text_of scale units
shown null (word s) = s

-- how records are written with this delimiter
abbrev pub writer_of : ℕ → WriterBuilder
writer_of d = with_delimiter default_writer d

-- the texts of records, one after the other
unfoldable pub rows_text : ℕ → List (List (List ℕ)) → List ℕ
rows_text d [] = []
rows_text d (r ∷ rows) = row_text (writer_of d) r ++ rows_text d rows

-- the text of a header and of the rows under it
abbrev pub table_text : ℕ → List ℕ → List (List ℕ) → List (List Content) → List ℕ
table_text d null header rows = rows_text d (header ∷ map (map (shown null)) rows)

-- the text of the rows from one to another
abbrev pub range_text : ℕ → List ℕ → List (List Content) → ℕ → ℕ → List ℕ
range_text d null rows from to = rows_text d (map (map (shown null)) (take (to - from) (drop from rows)))
