-- A text taken apart into its derivation, byte by byte.
use Rattle.std.specs.Prelude.{ℕ, ◌+◌, ◌==◌, ◌&&◌, nat_lt, if◌then◌else◌, Bool, List, [], ◌∷◌, ◌++◌, length, Some, None, Result, Ok, Err}
use Rattle.rj_csv_io.specs.Grammar.{Field, escaped, non-escaped, Record, Line, LineEnd, LF, CRLF, File, dquote, cr, lf, doubled, field_text, fields_text, lines_text, is_blank, names_of}
use Rattle.rj_csv_io.specs.StrictFaults.{first_row}
use Rattle.rj_csv_io.specs.declared.strict.header.HeaderPlace.{HeaderPlace}
use Rattle.rj_csv_io.specs.declared.strict.fault.StrictFault.{StrictFault}
use Rattle.rj_csv_io.specs.declared.strict.fault.StrictFault.TheVariants as fault

-- what is taken of a field: all of it so far, one that may end there; the bytes between its quotes; a field and a CR
pub data Part : Type 0 where
  within : Field → Part
  opened : List ℕ → Part
  returned : Field → Part

-- what is taken of a text: whole lines, whole fields of the next one, and a part of a field
pub record Taken : Type 0 where
  pub lines : List Line
  pub fields : List Field
  pub part : Part

abbrev pub nothing : Part
nothing = within (non-escaped [])

abbrev pub part_text : Part → List ℕ → List ℕ
part_text (within f) more = field_text f ++ more
part_text (opened bytes) more = dquote ∷ (doubled bytes ++ more)
part_text (returned f) more = field_text f ++ cr ∷ more

-- the text of what is taken, and then what is left of it
abbrev pub taken_text : ℕ → Taken → List ℕ → List ℕ
taken_text d t more = lines_text d t.lines ++ (fields_text d t.fields ++ part_text t.part more)

abbrev pub row_of : HeaderPlace → Taken → ℕ
row_of h t = first_row h + length t.lines

abbrev pub column_of : Taken → ℕ
column_of t = length t.fields + 1

abbrev pub bare : HeaderPlace → Taken → Result Taken StrictFault
bare h t = Err (fault.BareReturn (row_of h t) (column_of t))

abbrev pub grown : Taken → Part → Taken
grown t p = record { lines = t.lines; fields = t.fields; part = p }

abbrev pub record_with : Taken → Field → Record
record_with t f = record { before = t.fields; last = f }

abbrev pub with_line : Taken → Field → LineEnd → Taken
with_line t f e = record { lines = t.lines ++ record { fields = record_with t f; ended = e } ∷ []; fields = []; part = nothing }

-- the end of a line
abbrev pub end_line : HeaderPlace → Taken → Field → LineEnd → Result Taken StrictFault
end_line h t f e = if is_blank (record_with t f) && nat_lt 1 (names_of h t.lines) then Err (fault.EmptyLine (row_of h t)) else Ok (with_line t f e)

abbrev pub take_delimiter : HeaderPlace → Taken → Part → ℕ → Result Taken StrictFault
take_delimiter h t (within f) c = Ok (record { lines = t.lines; fields = t.fields ++ f ∷ []; part = nothing })
take_delimiter h t (opened bytes) c = Ok (grown t (opened (bytes ++ c ∷ [])))
take_delimiter h t (returned f) c = bare h t

abbrev pub take_lf : HeaderPlace → Taken → Part → ℕ → Result Taken StrictFault
take_lf h t (within f) c = end_line h t f LF
take_lf h t (opened bytes) c = Ok (grown t (opened (bytes ++ c ∷ [])))
take_lf h t (returned f) c = end_line h t f CRLF

abbrev pub take_cr : HeaderPlace → Taken → Part → ℕ → Result Taken StrictFault
take_cr h t (within f) c = Ok (grown t (returned f))
take_cr h t (opened bytes) c = Ok (grown t (opened (bytes ++ c ∷ [])))
take_cr h t (returned f) c = bare h t

abbrev pub take_dquote : HeaderPlace → Taken → Part → ℕ → Result Taken StrictFault
take_dquote h t (within (non-escaped [])) c = Ok (grown t (opened []))
take_dquote h t (within (non-escaped (b ∷ bytes))) c = Err (fault.BareQuote (row_of h t) (column_of t))
take_dquote h t (within (escaped bytes)) c = Ok (grown t (opened (bytes ++ c ∷ [])))
take_dquote h t (opened bytes) c = Ok (grown t (within (escaped bytes)))
take_dquote h t (returned f) c = bare h t

abbrev pub take_textdata : HeaderPlace → Taken → Part → ℕ → Result Taken StrictFault
take_textdata h t (within (non-escaped bytes)) c = Ok (grown t (within (non-escaped (bytes ++ c ∷ []))))
take_textdata h t (within (escaped bytes)) c = Err (fault.AfterQuote (row_of h t) (column_of t))
take_textdata h t (opened bytes) c = Ok (grown t (opened (bytes ++ c ∷ [])))
take_textdata h t (returned f) c = bare h t

abbrev pub take_byte : ℕ → HeaderPlace → Taken → ℕ → Result Taken StrictFault
take_byte d h t c =
    if c == lf then take_lf h t t.part c
    else if c == cr then take_cr h t t.part c
    else if c == dquote then take_dquote h t t.part c
    else if c == d then take_delimiter h t t.part c
    else take_textdata h t t.part c

-- the end of the text behind a field
abbrev pub end_within : HeaderPlace → Bool → Taken → Field → Result File StrictFault
end_within h full t f =
    if is_blank (record_with t f) then Ok (record { lines = t.lines; rest = None })
    else if full then Err (fault.CutShort (row_of h t))
    else Ok (record { lines = t.lines; rest = Some (record_with t f) })

abbrev pub take_end : HeaderPlace → Bool → Taken → Part → Result File StrictFault
take_end h full t (within f) = end_within h full t f
take_end h full t (opened bytes) = Err (fault.OpenQuote (row_of h t) (column_of t))
take_end h full t (returned f) = Err (fault.BareReturn (row_of h t) (column_of t))

-- what goes on, or has its fault
abbrev pub taken_then : {T U : Type 0} → Result T StrictFault → (T → Result U StrictFault) → Result U StrictFault
taken_then (Ok t) more = more t
taken_then (Err e) more = Err e

-- the derivation of a text from here on, or its first fault
unfoldable pub parse : ℕ → HeaderPlace → Bool → Taken → List ℕ → Result File StrictFault
parse d h full t [] = take_end h full t t.part
parse d h full t (c ∷ text) = taken_then (take_byte d h t c) (λ t2. parse d h full t2 text)

abbrev pub untaken : Taken
untaken = record { lines = []; fields = []; part = nothing }
