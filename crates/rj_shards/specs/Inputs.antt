-- What texts of placed rows give as the inputs of a merge.
use Rattle.std.specs.Prelude.{◌≡◌, ℕ, ◌+◌, ◌&&◌, nat_le, Bool, false, List, [], ◌∷◌, map, if◌then◌else◌, Option, None, Some, Box}
use Rattle.std.specs.Cmp.Lexicographic.{pointwise}
use Rattle.std.specs.List.{flat_map}
use Rattle.std.specs.Option.{option_to_list}
use Rattle.std.specs.Str.{bytes_eq}
use Rattle.std.specs.declared.alloc.Global.{Global}
use Rattle.rj_csv_io.specs.Cuts.{records_in}
use Rattle.rj_csv_io.specs.Remaining.{IsBetween, records_remaining}
use Rattle.rj_csv_io.specs.Grammar.{comma}
use Rattle.rj_shards.specs.declared.merge.columns.Columns.{Columns}
use Rattle.rj_shards.specs.declared.merge.copies.Copies.{Copies}
use Rattle.rj_shards.specs.declared.merge.copies.MergeInput.{MergeInput}
use Rattle.rj_shards.specs.declared.merge.input.TextSource.{TextSource}
use Rattle.rj_shards.specs.declared.merge.options.MergeOptions.{MergeOptions}
use Rattle.rj_shards.specs.declared.merge.refused.MergeRefused.{MergeRefused}
use Rattle.rj_shards.specs.declared.merge.refused.MergeRefused.TheVariants as refused
use Rattle.rj_shards.specs.MergeHeaders.{place_columns}
use Rattle.rj_shards.specs.MergeRanges.{reading_within}
use Rattle.rj_shards.specs.Sources.{Reading}
use Rattle.rj_shards.specs.MergeTexts.{read_rows}

-- what the reader of an input tells
abbrev pub told_by : {R : Type 0} → (R → Option (List ℕ)) → MergeInput R → Option (List ℕ)
told_by known i = known i.reader

-- the readers of inputs tell these texts
abbrev pub TellTexts : {R : Type 0} → (R → Option (List ℕ)) → List (MergeInput R) → List (List ℕ) → Type 0
TellTexts known inputs texts = map (told_by known) inputs ≡ map Some texts

-- this holds of the texts that the readers of inputs tell
abbrev pub ForTexts : {R : Type 0} → (R → Option (List ℕ)) → List (MergeInput R) → (List (List ℕ) → Type 0) → Type 0
ForTexts known inputs holds = (texts : List (List ℕ)) → TellTexts known inputs texts → holds texts

-- the copies of inputs, and of those whose headers were read
abbrev pub copies_of : {R : Type 0} → List (MergeInput R) → List Copies
copies_of inputs = map (λ i. i.copies) inputs

abbrev pub own_copies : {R : Type 0} → TextSource R → Copies
own_copies s = s.copies

-- the number of an input whose header was read
abbrev pub own_number : {R : Type 0} → TextSource R → ℕ
own_number s = s.input

-- an input whose header was read tells the bytes of its text
abbrev pub input_tells : {R : Type 0} → (R → Option (List ℕ)) → TextSource R → Type 0
input_tells known s = s.ended ≡ false → IsBetween known s.reader.value

-- what its records still are
abbrev pub records_reading : {R : Type 0} → (R → Option (List ℕ)) → TextSource R → Reading (List (List ℕ))
records_reading known s =
    if s.ended then record { rows = []; fault = None } else read_rows s.how.now s.columns s.input s.row s.last (records_remaining known s.reader.value)

-- what it still gives: the rows among these that are within the range
abbrev pub input_reading : {R : Type 0} → (R → Option (List ℕ)) → TextSource R → Reading (List (List ℕ))
input_reading known s = reading_within s.how.now (records_reading known s)

-- the same of an input on the heap
abbrev pub boxed_copies : {R : Type 0} → Box (TextSource R) Global → Copies
boxed_copies b = own_copies b.value

abbrev pub boxed_number : {R : Type 0} → Box (TextSource R) Global → ℕ
boxed_number b = own_number b.value

abbrev pub boxed_tells : {R : Type 0} → (R → Option (List ℕ)) → Box (TextSource R) Global → Type 0
boxed_tells known b = input_tells known b.value

abbrev pub boxed_reading : {R : Type 0} → (R → Option (List ℕ)) → Box (TextSource R) Global → Reading (List (List ℕ))
boxed_reading known b = input_reading known b.value

-- the numbers of this many inputs
abbrev pub is_input : ℕ → ℕ → Bool
is_input count number = nat_le 1 number && nat_le number count

-- no rows, and this error
abbrev pub only_fault : MergeRefused → Reading (List (List ℕ))
only_fault e = record { rows = []; fault = Some e }

-- the rows of the records under a header that are within the range, if it has the columns of the
-- places
abbrev pub under_header : MergeOptions → ℕ → Option Columns → List (List (List ℕ)) → Reading (List (List ℕ))
under_header how input None records = only_fault (refused.NoPlaces input)
under_header how input (Some columns) records = reading_within how (read_rows how columns input 0 None records)

-- what records give, the first of which has to be the header of the first input
abbrev pub reading_of_records : MergeOptions → List (List ℕ) → ℕ → List (List (List ℕ)) → Reading (List (List ℕ))
reading_of_records how first input [] = only_fault (refused.NoHeader input)
reading_of_records how first input (header ∷ records) =
    if pointwise bytes_eq header first then under_header how input (place_columns first) records else only_fault (refused.OtherHeader input)

-- what a text gives, if this is the header of the first input
abbrev pub reading_of : MergeOptions → List (List ℕ) → ℕ → List ℕ → Reading (List (List ℕ))
reading_of how first input text = reading_of_records how first input (records_in comma text)

-- what texts give, whose inputs count from this number on
unfoldable pub readings_from : MergeOptions → List (List ℕ) → ℕ → List (List ℕ) → List (Reading (List (List ℕ)))
readings_from how first input [] = []
readings_from how first input (text ∷ texts) = reading_of how first input text ∷ readings_from how first (input + 1) texts

-- the first of records, or no fields if there is none
abbrev pub first_record : List (List (List ℕ)) → List (List ℕ)
first_record [] = []
first_record (r ∷ records) = r

-- the header of the first of texts
abbrev pub first_header : List (List ℕ) → List (List ℕ)
first_header [] = []
first_header (text ∷ texts) = first_record (records_in comma text)

-- what texts give, each as an input of its own, counted from 1
abbrev pub readings : MergeOptions → List (List ℕ) → List (Reading (List (List ℕ)))
readings how texts = readings_from how (first_header texts) 1 texts

-- a header that is the first one's has the columns of the places, or this error
abbrev pub place_fault : ℕ → Option Columns → Option MergeRefused
place_fault input None = Some (refused.NoPlaces input)
place_fault input (Some columns) = None

-- the error of the header that records begin with, if it has one: there is none, or it isn't that
-- of the first input, or it hasn't the columns of the places
abbrev pub header_fault_in : List (List ℕ) → ℕ → List (List (List ℕ)) → Option MergeRefused
header_fault_in first input [] = Some (refused.NoHeader input)
header_fault_in first input (header ∷ records) =
    if pointwise bytes_eq header first then place_fault input (place_columns first) else Some (refused.OtherHeader input)

abbrev pub header_fault_of : List (List ℕ) → ℕ → List ℕ → Option MergeRefused
header_fault_of first input text = header_fault_in first input (records_in comma text)

-- an error, or if there is none a later one
abbrev pub fault_or : Option MergeRefused → Option MergeRefused → Option MergeRefused
fault_or None later = later
fault_or (Some e) later = Some e

-- the first error of a header of texts, whose inputs count from this number on
unfoldable pub header_fault_from : List (List ℕ) → ℕ → List (List ℕ) → Option MergeRefused
header_fault_from first input [] = None
header_fault_from first input (text ∷ texts) = fault_or (header_fault_of first input text) (header_fault_from first (input + 1) texts)

-- the first error of a header of texts, each an input of its own, counted from 1
abbrev pub header_fault : List (List ℕ) → Option MergeRefused
header_fault texts = header_fault_from (first_header texts) 1 texts

-- the errors that readings have
abbrev pub faults_of_readings : {T : Type 0} → List (Reading T) → List MergeRefused
faults_of_readings all = flat_map (λ r. option_to_list r.fault) all
