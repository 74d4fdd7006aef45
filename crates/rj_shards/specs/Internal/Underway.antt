-- A division that is underway. Internal: no public contract uses it.
use Rattle.std.specs.Prelude.{ℕ, ◌≡◌, Bool, true, false, List, ◌++◌, length, drop, Option, None}
use Rattle.csv.specs.Reading.{records}
use Rattle.rj_csv_io.specs.Pieces.{piece_records}
use Rattle.rj_shards.specs.declared.division.reading.Reading.{Reading}
use Rattle.rj_shards.specs.declared.division.reading.Reading.TheVariants as reading
use Rattle.rj_shards.specs.declared.division.whole.Rest.{Rest}
use Rattle.rj_shards.specs.Blocks.{records_in}
use Rattle.rj_shards.specs.Divisions.{Dividing, IsDivided}
use Rattle.rj_shards.specs.Internal.Taken.{IsTaken}
use Rattle.rj_csv_io.specs.Grammar.{Derives, Line}
use Rattle.rj_csv_io.specs.StrictReading.{config_of}
use Rattle.rj_csv_io.specs.declared.strict.header.HeaderPlace.TheVariants.{Above}

-- the records of rows among these: all, or all but the first one if that is the header
abbrev pub behind_header : Bool → List (List (List ℕ)) → List (List (List ℕ))
behind_header true records = drop 1 records
behind_header false records = records

-- whatever records follow these, the records of rows are those among these and those among what
-- follows, which has the header if this flag is set
abbrev pub SplitsAs : Bool → List (List (List ℕ)) → Bool → Type 0
SplitsAs is_first records ahead = (more : List (List (List ℕ)))
    → behind_header is_first (records ++ more) ≡ behind_header is_first records ++ behind_header ahead more

-- the text behind its first piece is read so
abbrev pub ReadsOn : ℕ → Reading → List ℕ → Reading → Type 0
ReadsOn d (reading.Lenient is_first) piece (reading.Lenient ahead) = SplitsAs is_first (records (config_of d) piece) ahead
ReadsOn d (reading.Strict full) piece (reading.Strict still) = full ≡ still
ReadsOn d (reading.Lenient is_first) piece (reading.Strict still) = ⊥
ReadsOn d (reading.Strict full) piece (reading.Lenient ahead) = ⊥

-- a text begins with the bytes that were taken and their records: the others are those of the bytes
-- that are left, and how those are read; or it begins with lines below this many names
abbrev pub AreBehind : ℕ → ℕ → Reading → List ℕ → List ℕ → List (List (List ℕ)) → Reading → List ℕ → Type 0
AreBehind d names (reading.Lenient is_first) text taken done (reading.Lenient ahead) left = piece_records d is_first text ≡ done ++ piece_records d ahead left
AreBehind d names (reading.Strict full) text taken done (reading.Strict still) left =
    (full ≡ still) × (lines : List Line) × Derives d (Above names) true taken (record { lines = lines; rest = None }) × (done ≡ records_in lines)
AreBehind d names (reading.Lenient is_first) text taken done (reading.Strict still) left = ⊥
AreBehind d names (reading.Strict full) text taken done (reading.Lenient ahead) left = ⊥

-- what a division begins with: the text that the device tells, and what each output told
pub record Beginning : Type 0 where
  pub text : List ℕ
  pub told : List (Option (List ℕ))

-- a text whose first records are divided: the others are those of the bytes after the pieces that
-- were removed
pub record IsUnderway (d : Dividing) (how : Reading) (begin : Beginning) (tells : Option (List ℕ)) (rest : Rest) (now : List (Option (List ℕ))) (pieces : ℕ) : Type 0 where
  pub front : IsTaken d.delimiter begin.text tells rest.bytes.items pieces
  pub done : List (List (List ℕ))
  pub behind : AreBehind d.delimiter (length d.types) how begin.text front.taken done rest.reading (rest.bytes.items ++ front.left)
  pub divided : IsDivided d done begin.told now rest.rows
  pub outputs : length now ≡ length begin.told
