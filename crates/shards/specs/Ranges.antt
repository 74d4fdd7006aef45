-- How a range of a side's file is divided, and why it isn't.
use Rattle.std.specs.Prelude.{ℕ, ◌==◌, ◌≡◌, ◌⊎◌, ◌++◌, ◌∷◌, [], if◌then◌else◌, true, false, All, Bool, List, length, drop, replicate, slice_range, Option, None, Some, IfSome, Result, Err, codes, decimal}
use Rattle.rj_columns.specs.Contents.{Content}
use Rattle.rj_columns.specs.Names.{empty_table}
use Rattle.rj_columns.specs.Tables.{TableValue}
use Rattle.rj_columns.specs.declared.refused.BuildRefused.{BuildRefused}
use Rattle.rj_command.specs.Sides.{strict_fault}
use Rattle.rj_csv_io.specs.Pieces.{AreRows, names_in}
use Rattle.rj_csv_io.specs.Typed.{null_texts}
use Rattle.rj_shards.specs.Divisions.{Dividing}
use Rattle.rj_shards.specs.Headers.{HaveText, HaveTextBefore, IsHeaderFault, header_text}
use Rattle.rj_shards.specs.Texts.{AreRecordsOf, HaveFirstRows, IsDivisionFault, IsTextDivided}
use Rattle.rj_shards.specs.declared.division.reading.Reading.{Reading}
use Rattle.rj_shards.specs.declared.division.reading.Reading.TheVariants as reading
use Rattle.rj_shards.specs.declared.division.refused.DivideRefused.{DivideRefused}
use Rattle.rj_shards.specs.declared.division.refused.DivideRefused.TheVariants as divide
use Rattle.rj_line.specs.Faults.{read_fault}
use Rattle.rj_line.specs.declared.fault.Fault.{Fault}
use Rattle.rj_line.specs.declared.fault.Fault.TheVariants as fault
use Rattle.rj_line.specs.declared.fault.Side.{Side}
use Rattle.rj_line.specs.declared.fault.Side.TheVariants as side
use Rattle.rj_line.specs.declared.request.Strictness.{Strictness}
use Rattle.rj_line.specs.declared.request.Strictness.TheVariants as strictness
use Rattle.rj_radix.specs.Hashes.{mixed, plain}
use Rattle.rj_shards.specs.Routes.{shard_of_cells}
use Rattle.shards.specs.Lines.{operand_of}
use Rattle.shards.specs.Outputs.{IsOfOutput, IsPrinted, Printed}
use Rattle.shards.specs.declared.dividing.Range.{Range}
use Rattle.shards.specs.declared.failure.Failure.{Failure}
use Rattle.shards.specs.declared.failure.Failure.TheVariants as failure
use Rattle.shards.specs.declared.head.Head.{Head}

-- the bytes of a text from one place up to another, or up to its end
abbrev pub bytes_between : ℕ → Option ℕ → List ℕ → List ℕ
bytes_between from None text = drop from text
bytes_between from (Some to) text = slice_range text from to

-- the name of the column with the places of a side's rows
abbrev pub place_name : Side → List ℕ
place_name side.Left = codes "left_place"
place_name side.Right = codes "right_place"

-- the part of a row of these cells, among so many parts: by the mixed hash of its key at these columns
abbrev pub mixed_shard : ℕ → List ℕ → List Content → ℕ
mixed_shard parts columns cells = shard_of_cells (λ key. mixed (plain key)) parts columns cells

-- how the rows of a range are divided among these parts: their places count from the range's first byte
abbrev pub range_dividing : (List Content → ℕ) → Range → Dividing
range_dividing part range = record { delimiter = range.delimiter; nulls = null_texts range.nulls.now; types = range.types.now; part = part; first = range.from }

-- the table without rows that the header of a range begins with the types, or why it begins none
abbrev pub range_begun : Range → Result TableValue BuildRefused
range_begun range = empty_table (names_in range.head.now.header) range.types.now

-- how a range that begins at this byte is read: the first one has the header if it is read leniently
abbrev pub range_reading : Strictness → ℕ → Reading
range_reading strictness.Off from = reading.Lenient (from == 0)
range_reading strictness.On from = reading.Strict false
range_reading strictness.Full from = reading.Strict true

-- where a range is read from: the first one from where the file's rows begin
abbrev pub range_begin : Range → ℕ
range_begin range = if range.from == 0 then range.head.now.begin else range.from

-- what the file of a range's side has, by what files of names have; and the bytes of the range in it
abbrev pub range_file : (List ℕ → Option (List ℕ)) → Range → Option (List ℕ)
range_file holds range = holds (operand_of range.line.now range.line.now.side).file.now

abbrev pub range_bytes : Range → List ℕ → List ℕ
range_bytes range text = bytes_between (range_begin range) range.to text

-- the header of a range's parts
abbrev pub range_header : Range → List ℕ
range_header range = header_text range.own.now (place_name range.line.now.side)

-- each part has the header, and then the text of its rows in the range, of which there are so many in all
abbrev pub AreParted : Option (List ℕ) → (List Content → ℕ) → Range → List (Option (List ℕ)) → ℕ → Type 0
AreParted file part range told n = IfSome file (λ text.
    IsTextDivided (range_dividing part range) (range_reading range.line.now.strict range.from) (range_bytes range text)
    (replicate (length told) (Some (range_header range))) told n)

-- the line of the rows of a range and of the bytes of its parts' header
abbrev pub counts_line : ℕ → ℕ → List ℕ
counts_line rows header = codes "rows " ++ (decimal rows ++ (codes " header " ++ (decimal header ++ 10 ∷ [])))

-- each record of a range is a row, and there are so many
abbrev pub AreAllRows : Option (List ℕ) → Range → ℕ → Type 0
AreAllRows file range n = IfSome file (λ text. (records : List (List (List ℕ))) × (rows : List (List Content))
    × AreRecordsOf range.delimiter (length range.types.now) (range_reading range.line.now.strict range.from) (range_bytes range text) records
    × AreRows (null_texts range.nulls.now) range.types.now records rows × (n ≡ length rows))

-- so many rows are in a range; the parts have them, if they tell what they got; and how many is printed
pub record AreDivided (tells : Bool) (file : Option (List ℕ)) (part : List Content → ℕ) (range : Range) (told : List (Option (List ℕ))) (old new : Printed) : Type 0 where
  pub rows : ℕ
  pub counted : AreAllRows file range rows
  pub parted : tells ≡ true → AreParted file part range told rows
  pub printed : IsPrinted old new (counts_line rows (length (range_header range)))

-- so many rows are in a range, and how many is printed, with no header
abbrev pub AreCounted : Option (List ℕ) → Range → Printed → Printed → Type 0
AreCounted file range old new = (n : ℕ) × AreAllRows file range n × IsPrinted old new (counts_line n 0)

-- the fault of a side's file that wasn't divided
abbrev pub division_fault : Side → DivideRefused → Fault
division_fault s (divide.Read f) = read_fault s f
division_fault s divide.TooLong = fault.TooManyRows s
division_fault s divide.ReadDevice = fault.ReadDevice s
division_fault s (divide.Broken f) = strict_fault s f
division_fault s (divide.WriteDevice part) = fault.WriteDevice
division_fault s divide.Memory = fault.Memory

-- why a side's file can't be read: its device failed, or memory ran out
abbrev pub IsFileFault : Side → Fault → Type 0
IsFileFault s f = (f ≡ fault.ReadDevice s) ⊎ (f ≡ fault.Memory)

-- why the rows of a range are not divided among so many parts, as `divide` finds it in blocks of 8 mebibytes
abbrev pub IsRowsFault : (List Content → ℕ) → Option (List ℕ) → Range → ℕ → DivideRefused → Type 0
IsRowsFault part file range parts refused = IfSome file (λ text.
    IsDivisionFault (range_dividing part range) 8388608 (range_reading range.line.now.strict range.from) (range_bytes range text) parts refused)

abbrev pub IsOfRows : (List Content → ℕ) → Option (List ℕ) → Range → ℕ → Failure → Type 0
IsOfRows part file range parts e =
    (refused : DivideRefused) × (e ≡ failure.Told (division_fault range.line.now.side refused)) × IsRowsFault part file range parts refused

-- and each of these parts but one that failed has got its rows among the first ones
abbrev pub IsOfPartRows : (List Content → ℕ) → Option (List ℕ) → Range → List (Option (List ℕ)) → List (Option (List ℕ)) → Failure → Type 0
IsOfPartRows part file range before after e = (refused : DivideRefused) × (e ≡ failure.Told (division_fault range.line.now.side refused))
    × IsRowsFault part file range (length before) refused × IfSome file (λ text.
    HaveFirstRows (range_dividing part range) (range_reading range.line.now.strict range.from) (range_bytes range text) before after refused)

-- where a part failed, those before it have got the header and those after it are as they were; for
-- all else they all are
abbrev pub HaveHeaderBefore : List ℕ → List (Option (List ℕ)) → List (Option (List ℕ)) → DivideRefused → Type 0
HaveHeaderBefore header before after (divide.WriteDevice p) = HaveTextBefore p header before after
HaveHeaderBefore header before after e = after ≡ before

-- why the header of these parts isn't written, and what they have: with the column of places it makes
-- no table, or a part failed
abbrev pub IsOfHeader : Range → List (Option (List ℕ)) → List (Option (List ℕ)) → Failure → Type 0
IsOfHeader range before after e = (refused : DivideRefused) × (e ≡ failure.Told (division_fault range.line.now.side refused))
    × IsHeaderFault range.own.now (place_name range.line.now.side) (length before) refused × HaveHeaderBefore (range_header range) before after refused

-- why a range isn't divided among these parts: because of their header; or, once each of them has got
-- that, of its rows
abbrev pub IsOfParts : (List Content → ℕ) → Option (List ℕ) → Range → List (Option (List ℕ)) → List (Option (List ℕ)) → Failure → Type 0
IsOfParts part file range before after e = IsOfHeader range before after e
    ⊎ ((headed : List (Option (List ℕ))) × (length headed ≡ length before) × HaveText (range_header range) before headed × IsOfPartRows part file range headed after e)

-- why a line isn't printed: the output failed, or memory ran out and nothing is printed
abbrev pub IsOfWriting : Printed → Printed → Failure → Type 0
IsOfWriting old new e = IsOfOutput old new e ⊎ ((e ≡ failure.Told fault.Memory) × (new ≡ old))

-- why these parts, which had got nothing, aren't filled, and nothing is printed
abbrev pub IsOfFilling : Bool → Option (List ℕ) → (List Content → ℕ) → Range → List (Option (List ℕ)) → Printed → Printed → Failure → Type 0
IsOfFilling tells file part range told old new e = (empty : List (Option (List ℕ))) × (length empty ≡ length told) × (tells ≡ true → All (λ t. t ≡ Some []) empty)
    × IsOfParts part file range empty told e × (new ≡ old)

-- why it isn't printed how many rows these parts have, which they have got all
abbrev pub IsOfCounting : Bool → Option (List ℕ) → (List Content → ℕ) → Range → List (Option (List ℕ)) → Printed → Printed → Failure → Type 0
IsOfCounting tells file part range told old new e =
    (rows : ℕ) × AreAllRows file range rows × (tells ≡ true → AreParted file part range told rows) × IsOfWriting old new e

-- why a range isn't divided among so many parts of a folder: they can't be made, and there are none; or
-- they aren't filled; or they are, and that isn't printed
abbrev pub IsOfFolder : Bool → Option (List ℕ) → (List Content → ℕ) → Range → ℕ → List (Option (List ℕ)) → Printed → Printed → Failure → Type 0
IsOfFolder tells file part range parts told old new e = ((e ≡ failure.Told fault.Memory) × (told ≡ []) × (new ≡ old))
    ⊎ ((length told ≡ parts) × (IsOfFilling tells file part range told old new e ⊎ IsOfCounting tells file part range told old new e))

-- why the rows of a range that isn't divided aren't all read: one of them has an error, and nothing is
-- printed; or how many there are isn't printed (there are no parts that could fail)
abbrev pub IsOfReading : Option (List ℕ) → Range → Printed → Printed → Failure → Type 0
IsOfReading file range old new e = (IsOfRows (λ _. 0) file range 0 e × (new ≡ old)) ⊎ IsOfWriting old new e

-- the failure of an invalid NULL text, unless the file can't be read
abbrev pub unlawful_null : Result Head Fault → Failure
unlawful_null (Err (fault.ReadDevice s)) = failure.Told (fault.ReadDevice s)
unlawful_null (Err fault.Memory) = failure.Told fault.Memory
unlawful_null head = failure.Told fault.BadNull
