-- Texts that are divided piece by piece, and are read as strictly as asked for.
use Rattle.std.specs.Prelude.{ℕ, ◌-◌, ◌^◌, ◌≡◌, ◌≢◌, ◌≤◌, ◌<◌, ◌⊎◌, ◌++◌, ◌||◌, not, Bool, List, Option, length}
use Rattle.rj_csv_io.specs.Pieces.{piece_records}
use Rattle.rj_shards.specs.Blocks.{BeginDerived, IsBrokenAt, StandDerived}
use Rattle.rj_shards.specs.Divisions.{Dividing, IsDivided, IsPartDivided}
use Rattle.rj_shards.specs.Ranges.{IsPiece}
use Rattle.rj_shards.specs.Readings.{IsFaultBehind, IsFirstFault}
use Rattle.rj_shards.specs.declared.division.reading.Reading.{Reading}
use Rattle.rj_shards.specs.declared.division.reading.Reading.TheVariants as reading
use Rattle.rj_shards.specs.declared.division.refused.DivideRefused.{DivideRefused}
use Rattle.rj_shards.specs.declared.division.refused.DivideRefused.TheVariants as refused
use Rattle.rj_csv_io.specs.Grammar.{Derives, File, records_of}
use Rattle.rj_csv_io.specs.declared.strict.fault.StrictFault.{StrictFault}
use Rattle.rj_csv_io.specs.declared.strict.header.HeaderPlace.TheVariants.{Above}

-- how the first piece of a text is read that is read so: each but the last one ends after a line end
abbrev pub reading_of_piece : Reading → Bool → Reading
reading_of_piece (reading.Lenient is_first) is_last = reading.Lenient is_first
reading_of_piece (reading.Strict full) is_last = reading.Strict (full || not is_last)

-- as strictly, with another flag
abbrev pub with_flag : Reading → Bool → Reading
with_flag (reading.Lenient is_first) flag = reading.Lenient flag
with_flag (reading.Strict full) flag = reading.Strict flag

-- the records of rows in a text: those that csv reads, or those of its one derivation below this
-- many names
abbrev pub AreRecordsOf : ℕ → ℕ → Reading → List ℕ → List (List (List ℕ)) → Type 0
AreRecordsOf d names (reading.Lenient is_first) text records = records ≡ piece_records d is_first text
AreRecordsOf d names (reading.Strict full) text records = (file : File) × Derives d (Above names) full text file × (records ≡ records_of file)

-- the same, or those above the place where the text stops being derived
abbrev pub StandIn : ℕ → ℕ → Reading → List ℕ → List (List (List ℕ)) → Type 0
StandIn d names (reading.Lenient is_first) text records = records ≡ piece_records d is_first text
StandIn d names (reading.Strict full) text records = StandDerived d names full text records

-- the first records of rows in a text
abbrev pub BeginIn : ℕ → ℕ → Reading → List ℕ → List (List (List ℕ)) → Type 0
BeginIn d names (reading.Lenient is_first) text records = (more : List (List (List ℕ))) × (piece_records d is_first text ≡ records ++ more)
BeginIn d names (reading.Strict full) text records = BeginDerived d names full text records

-- the place where a text that is read strictly stops being derived
abbrev pub IsBroken : Dividing → Reading → List ℕ → ℕ → StrictFault → Type 0
IsBroken d (reading.Lenient is_first) text before f = ⊥
IsBroken d (reading.Strict full) text before f = IsBrokenAt d full text before f

-- the rows of a text are divided, this many
abbrev pub IsTextDivided : Dividing → Reading → List ℕ → List (Option (List ℕ)) → List (Option (List ℕ)) → ℕ → Type 0
IsTextDivided d how text before after rows =
    (records : List (List (List ℕ))) × AreRecordsOf d.delimiter (length d.types) how text records × IsDivided d records before after rows

-- why a piece after this many rows is not divided among this many outputs
abbrev pub IsPieceFault : Dividing → Reading → List ℕ → ℕ → ℕ → DivideRefused → Type 0
IsPieceFault d how text before outputs e =
    ((f : StrictFault) × (e ≡ refused.Broken f) × IsBroken d how text before f)
    ⊎ ((records : List (List (List ℕ))) × StandIn d.delimiter (length d.types) how text records × IsFaultBehind d before outputs records e)

-- if this error comes, each part's output but one that failed has its rows among the first records
-- of a text
abbrev pub HaveFirstRows : Dividing → Reading → List ℕ → List (Option (List ℕ)) → List (Option (List ℕ)) → DivideRefused → Type 0
HaveFirstRows d how text before after e = (p : ℕ) → p < length before → e ≢ refused.WriteDevice p
    → (records : List (List (List ℕ))) × BeginIn d.delimiter (length d.types) how text records × IsPartDivided d records before after p

-- records of rows of a text, below this many names, that are those of one piece of it
pub record StandInPiece (d names block : ℕ) (how : Reading) (text : List ℕ) (records : List (List (List ℕ))) : Type 0 where
  pub before : List (List (List ℕ))
  pub begin : BeginIn d names how text (before ++ records)
  pub piece : List ℕ
  pub is_piece : IsPiece d block text piece
  pub flag : Bool
  pub of_piece : StandIn d names (with_flag how flag) piece records

-- a text that is read in such blocks has 2^31 rows or more in one piece or 2^61 in all, or 2^64 - 1
-- bytes or more
abbrev pub IsTooLong : ℕ → ℕ → ℕ → Reading → List ℕ → Type 0
IsTooLong d names block how text =
    ((records : List (List (List ℕ))) × StandInPiece d names block how text records × (2 ^ 31 ≤ length records))
    ⊎ (((records : List (List (List ℕ))) × BeginIn d names how text records × (2 ^ 61 ≤ length records)) ⊎ (2 ^ 64 - 1 ≤ length text))

-- why a text that is read in such blocks is not divided among this many outputs: the first error of
-- its records; the place where it stops being derived, below records that all are rows; an error of
-- a device or of memory; or its length
abbrev pub IsDivisionFault : Dividing → ℕ → Reading → List ℕ → ℕ → DivideRefused → Type 0
IsDivisionFault d block how text outputs (refused.Read f) =
    (records : List (List (List ℕ))) × BeginIn d.delimiter (length d.types) how text records × IsFirstFault d.nulls d.types 0 records f
IsDivisionFault d block how text outputs refused.TooLong = IsTooLong d.delimiter (length d.types) block how text
IsDivisionFault d block how text outputs refused.ReadDevice = Unit {0}
IsDivisionFault d block how text outputs (refused.Broken f) = IsBroken d how text 0 f
IsDivisionFault d block how text outputs (refused.WriteDevice p) = p < outputs
IsDivisionFault d block how text outputs refused.Memory = Unit {0}
