-- A text whose header was completed.
use Rattle.std.specs.Prelude.{ℕ, ◌≡◌, ◌⊎◌, ◌||◌, ◌-◌, nat_lt, take, Bool, true, false, List, [], ◌∷◌, ◌++◌, length}
use Rattle.csv.specs.Reading.{records, strip_bom}
use Rattle.csv.specs.Writing.{row_text}
use Rattle.rj_csv_io.specs.Shown.{writer_of}
use Rattle.rj_csv_io.specs.StrictFaults.{HasFault}
use Rattle.rj_csv_io.specs.Grammar.{Derives, File}
use Rattle.rj_csv_io.specs.StrictReading.{config_of}
use Rattle.rj_csv_io.specs.declared.strict.fault.StrictFault.{StrictFault}
use Rattle.rj_csv_io.specs.declared.strict.header.HeaderPlace.TheVariants.{Above}
use Rattle.rj_csv_io.specs.NameEnds.{behind_first, first_text}
use Rattle.rj_csv_io.specs.Named.{columns_of, completed_names, given_from, have_names}

-- the first of some records
abbrev pub first_of : List (List (List ℕ)) → List (List ℕ)
first_of [] = []
first_of (r ∷ records) = r

-- the fields of a text's header
abbrev pub header_of : ℕ → List ℕ → List (List ℕ)
header_of d bytes = first_of (records (config_of d) (strip_bom bytes))

-- nothing is given: each field has a name of its own, or there are more columns than a table has
abbrev pub is_left : List (List ℕ) → Bool
is_left header = have_names [] header || nat_lt 256 (length header)

-- the byte order mark, so that nothing else at the text's start is taken for one
abbrev pub mark : List ℕ
mark = 0xEF ∷ 0xBB ∷ 0xBF ∷ []

-- the record of these names without its line end
abbrev pub names_text : ℕ → List (List ℕ) → List ℕ
names_text d names = take (length (row_text (writer_of d) names) - 1) (row_text (writer_of d) names)

-- a text under a header of these names: from the header's line end on it is as it was
abbrev pub under : ℕ → List (List ℕ) → List ℕ → List ℕ
under d names bytes = mark ++ (names_text d names ++ behind_first d (strip_bom bytes))

-- a text under its completed header
abbrev pub completed : ℕ → List ℕ → List ℕ
completed d bytes = under d (completed_names (header_of d bytes)) bytes

-- what is before the line end of a text's header is of RFC 4180's grammar, without empty lines
abbrev pub HasStrictHeader : ℕ → List ℕ → Type 0
HasStrictHeader d bytes = (file : File) × Derives d (Above 2) false (first_text d (strip_bom bytes)) file

-- it isn't
abbrev pub HasBrokenHeader : ℕ → List ℕ → Type 0
HasBrokenHeader d bytes = (f : StrictFault) × HasFault d (Above 2) false (first_text d (strip_bom bytes)) f

-- the text under its completed header, and the names that were given
abbrev pub IsNamed : ℕ → List ℕ → List ℕ → List (ℕ × List ℕ) → Type 0
IsNamed d bytes text told = (text ≡ completed d bytes) × (told ≡ given_from 1 (columns_of (header_of d bytes)))

-- the text as it is, since its header needs no name, or has to be of the grammar and isn't
abbrev pub IsKept : Bool → ℕ → List ℕ → Type 0
IsKept strict d bytes = (is_left (header_of d bytes) ≡ true) ⊎ ((strict ≡ true) × HasBrokenHeader d bytes)

-- what stands for a text whose header has to be complete, and the names that were given
abbrev pub IsCompleted : Bool → ℕ → List ℕ → List ℕ → List (ℕ × List ℕ) → Type 0
IsCompleted strict d bytes text told =
    (IsKept strict d bytes × (text ≡ bytes) × (told ≡ []))
    ⊎ ((is_left (header_of d bytes) ≡ false) × (strict ≡ true → HasStrictHeader d bytes) × IsNamed d bytes text told)
