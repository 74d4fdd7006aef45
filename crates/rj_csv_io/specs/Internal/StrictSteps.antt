-- How the check goes over a text, byte by byte. Internal: no public contract uses it.
use Rattle.std.specs.Prelude.{ℕ, ◌+◌, ◌==◌, nat_lt, if◌then◌else◌, Bool, false, List, [], ◌∷◌, Result, Ok, Err}
use Rattle.rj_csv_io.specs.Grammar.{dquote, cr, lf}
use Rattle.rj_csv_io.specs.StrictFaults.{first_row}
use Rattle.rj_csv_io.specs.declared.strict.header.HeaderPlace.{HeaderPlace}
use Rattle.rj_csv_io.specs.declared.strict.header.HeaderPlace.TheVariants.{First, Above}
use Rattle.rj_csv_io.specs.declared.strict.fault.StrictFault.{StrictFault}
use Rattle.rj_csv_io.specs.declared.strict.fault.StrictFault.TheVariants as fault
use Rattle.rj_csv_io.specs.declared.strict.standing.Place.{Place}
use Rattle.rj_csv_io.specs.declared.strict.standing.Place.TheVariants as place
use Rattle.rj_csv_io.specs.declared.strict.standing.Standing.{Standing}

abbrev pub initial_standing : HeaderPlace → Standing
initial_standing header = record { place = place.Start; header = header; row = first_row header; column = 1 }

abbrev pub header_below : HeaderPlace → ℕ → HeaderPlace
header_below First column = Above column
header_below (Above names) column = Above names

abbrev pub forbids_empty : HeaderPlace → Bool
forbids_empty First = false
forbids_empty (Above names) = nat_lt 1 names

abbrev pub at_place : Standing → Place → Standing
at_place s p = record s { place = p }

abbrev pub next_field : Standing → Standing
next_field s = record s { place = place.Fresh; column = s.column + 1 }

abbrev pub next_line : Standing → Standing
next_line s = record { place = place.Start; header = header_below s.header s.column; row = s.row + 1; column = 1 }

-- after the end of an empty line
abbrev pub end_empty : Standing → Result Standing StrictFault
end_empty s = if forbids_empty s.header then Err (fault.EmptyLine s.row) else Ok (next_line s)

abbrev pub at_lf : Standing → Result Standing StrictFault
at_lf s = from s.place
  where
    from : Place → Result Standing StrictFault
    from place.Start = end_empty s
    from place.Fresh = Ok (next_line s)
    from place.Inside = Ok (next_line s)
    from place.Open = Ok s
    from place.Closed = Ok (next_line s)
    from place.Blank = end_empty s
    from place.Return = Ok (next_line s)

abbrev pub at_delimiter : Standing → Result Standing StrictFault
at_delimiter s = from s.place
  where
    from : Place → Result Standing StrictFault
    from place.Start = Ok (next_field s)
    from place.Fresh = Ok (next_field s)
    from place.Inside = Ok (next_field s)
    from place.Open = Ok s
    from place.Closed = Ok (next_field s)
    from place.Blank = Err (fault.BareReturn s.row s.column)
    from place.Return = Err (fault.BareReturn s.row s.column)

abbrev pub at_cr : Standing → Result Standing StrictFault
at_cr s = from s.place
  where
    from : Place → Result Standing StrictFault
    from place.Start = Ok (at_place s place.Blank)
    from place.Fresh = Ok (at_place s place.Return)
    from place.Inside = Ok (at_place s place.Return)
    from place.Open = Ok s
    from place.Closed = Ok (at_place s place.Return)
    from place.Blank = Err (fault.BareReturn s.row s.column)
    from place.Return = Err (fault.BareReturn s.row s.column)

abbrev pub at_dquote : Standing → Result Standing StrictFault
at_dquote s = from s.place
  where
    from : Place → Result Standing StrictFault
    from place.Start = Ok (at_place s place.Open)
    from place.Fresh = Ok (at_place s place.Open)
    from place.Inside = Err (fault.BareQuote s.row s.column)
    from place.Open = Ok (at_place s place.Closed)
    from place.Closed = Ok (at_place s place.Open)
    from place.Blank = Err (fault.BareReturn s.row s.column)
    from place.Return = Err (fault.BareReturn s.row s.column)

abbrev pub at_textdata : Standing → Result Standing StrictFault
at_textdata s = from s.place
  where
    from : Place → Result Standing StrictFault
    from place.Start = Ok (at_place s place.Inside)
    from place.Fresh = Ok (at_place s place.Inside)
    from place.Inside = Ok s
    from place.Open = Ok s
    from place.Closed = Err (fault.AfterQuote s.row s.column)
    from place.Blank = Err (fault.BareReturn s.row s.column)
    from place.Return = Err (fault.BareReturn s.row s.column)

-- what one byte does, with this delimiter
abbrev pub step_of : ℕ → Standing → ℕ → Result Standing StrictFault
step_of d s c =
    if c == lf then at_lf s
    else if c == cr then at_cr s
    else if c == dquote then at_dquote s
    else if c == d then at_delimiter s
    else at_textdata s

-- what the end of the text does
abbrev pub end_of : Bool → Standing → Result (Unit {0}) StrictFault
end_of full s = from s.place
  where
    from : Place → Result (Unit {0}) StrictFault
    from place.Start = Ok tt
    from place.Fresh = if full then Err (fault.CutShort s.row) else Ok tt
    from place.Inside = if full then Err (fault.CutShort s.row) else Ok tt
    from place.Open = Err (fault.OpenQuote s.row s.column)
    from place.Closed = if full then Err (fault.CutShort s.row) else Ok tt
    from place.Blank = Err (fault.BareReturn s.row s.column)
    from place.Return = Err (fault.BareReturn s.row s.column)

-- what goes on, or has its error
abbrev pub step_then : Result Standing StrictFault → (Standing → Result (Unit {0}) StrictFault) → Result (Unit {0}) StrictFault
step_then (Ok s) more = more s
step_then (Err e) more = Err e

-- what the check says of a text from here on
unfoldable pub verdict : ℕ → Bool → Standing → List ℕ → Result (Unit {0}) StrictFault
verdict d full s [] = end_of full s
verdict d full s (c ∷ text) = step_then (step_of d s c) (λ s2. verdict d full s2 text)
