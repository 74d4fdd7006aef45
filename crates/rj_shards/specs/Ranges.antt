-- Places that cut a text into ranges.
use Rattle.std.specs.Prelude.{ℕ, ◌+◌, ◌-◌, ◌*◌, ◌^◌, ◌≡◌, ◌≢◌, ◌≤◌, ◌<◌, Bool, true, false, List, [], ◌∷◌, ◌++◌, length, take, drop, slice_range, All, Option}
use Rattle.csv.specs.Reading.{records}
use Rattle.csv.specs.declared.parser.State.TheVariants as st
use Rattle.rj_csv_io.specs.Cuts.{state_after}
use Rattle.rj_csv_io.specs.Pieces.{IsLastEnd, IsLineEnd, piece_records}
use Rattle.rj_csv_io.specs.StrictReading.{config_of}
use Rattle.rj_shards.specs.Internal.Taken.{IsTaken}
use Rattle.rj_shards.specs.declared.division.cuts.Cutting.{Cutting}
use Rattle.rj_shards.specs.declared.division.refused.DivideRefused.{DivideRefused}
use Rattle.rj_shards.specs.declared.division.refused.DivideRefused.TheVariants as refused

-- the records of rows in the ranges from a place on, cut at these places, one after the other, by this
-- delimiter
unfoldable pub range_records : ℕ → Bool → ℕ → List ℕ → List ℕ → List (List (List ℕ))
range_records d is_first from [] text = piece_records d is_first (drop from text)
range_records d is_first from (cut ∷ cuts) text = piece_records d is_first (slice_range text from cut) ++ range_records d false cut cuts text

-- each place is at least this far after the one before
unfoldable pub RiseBy : ℕ → ℕ → List ℕ → Type 0
RiseBy size from [] = Unit {0}
RiseBy size from (cut ∷ cuts) = (from + size ≤ cut) × RiseBy size cut cuts

-- a place where the text can be cut: after the header, and after a line feed that ends a record
pub record IsCutPlace (d : ℕ) (text : List ℕ) (at : ℕ) : Type 0 where
  pub within : at ≤ length text
  pub line : IsLineEnd d text at
  pub header : records (config_of d) (take at text) ≢ []

-- between two places a line feed ends a record in each run of this many bytes
abbrev pub EndIn : ℕ → List ℕ → ℕ → ℕ → ℕ → Type 0
EndIn d text from to run = (at : ℕ) → from ≤ at → at + run ≤ to → (end : ℕ) × (at < end) × (end ≤ at + run) × IsLineEnd d text end

-- a range that ends soon after each place in it, at least this many bytes from its beginning, where
-- the text can be cut: if a record ends in each run of some number of bytes, within a block, twice
-- such a run and 64 KiB
abbrev pub IsShort : ℕ → ℕ → ℕ → List ℕ → ℕ → ℕ → Type 0
IsShort d size block text from to = (at run : ℕ) → from + size ≤ at → IsCutPlace d text at → EndIn d text from to run → to ≤ at + block + 2 * run + 2 ^ 16

-- the ranges from a place on that end at these places
unfoldable pub AreShort : ℕ → ℕ → ℕ → List ℕ → ℕ → List ℕ → Type 0
AreShort d size block text from [] = Unit {0}
AreShort d size block text from (to ∷ ends) = IsShort d size block text from to × AreShort d size block text to ends

-- places in a text, each this far after the one before, that cut it into ranges: the records of the
-- ranges are those of the text, the first range has the header, and each range, the last one too,
-- ends soon after where it could
pub record AreCuts (d size block : ℕ) (text : List ℕ) (cuts : List ℕ) : Type 0 where
  pub rise : RiseBy size 0 cuts
  pub places : All (IsCutPlace d text) cuts
  pub records : piece_records d true text ≡ range_records d true 0 cuts text
  pub short : AreShort d size block text 0 (cuts ++ length text ∷ [])

-- the bytes that were read for a piece after those that were there: if there are more, at most a
-- block, twice the first bytes, in which no record ends, and 64 KiB
pub record IsReadFor (d block : ℕ) (old bytes : List ℕ) : Type 0 where
  pub front : take (length old) bytes ≡ old
  pub plain : ℕ
  pub within : plain ≤ length bytes
  pub none : IsLastEnd d bytes plain 0
  pub most : length old < length bytes → length bytes ≤ block + 2 * plain + 2 ^ 16

-- bytes of a text that can be a piece of it: at most a block, twice the first bytes, in which no
-- record ends, and 64 KiB
pub record IsPiece (d block : ℕ) (text piece : List ℕ) : Type 0 where
  pub above : List ℕ
  pub below : List ℕ
  pub order : text ≡ above ++ (piece ++ below)
  pub plain : ℕ
  pub within : plain ≤ length piece
  pub none : (at : ℕ) → at ≤ plain → IsLineEnd d piece at → ⊥
  pub most : length piece ≤ block + 2 * plain + 2 ^ 16

-- the places rise up to this one, which is the last
unfoldable pub RiseTo : ℕ → ℕ → List ℕ → ℕ → Type 0
RiseTo size from [] last = from ≡ last
RiseTo size from (cut ∷ cuts) last = (from + size ≤ cut) × RiseTo size cut cuts last

-- a text whose first bytes, which were looked at, are removed: no place for a cut was passed
pub record IsCutting (d size block : ℕ) (text : List ℕ) (tells : Option (List ℕ)) (now : Cutting) (pieces : ℕ) : Type 0 where
  pub front : IsTaken d text tells now.bytes.items pieces
  pub place : now.place ≡ length front.taken
  pub ends : state_after d st.StartRecord front.taken ≡ st.StartRecord
  pub header : now.is_first ≡ false → records (config_of d) front.taken ≢ []
  pub ahead : now.is_first ≡ true → records (config_of d) front.taken ≡ []
  pub rise : RiseTo size 0 now.cuts.items now.last
  pub behind : now.last ≤ now.place
  pub cuts : All (IsCutPlace d text) now.cuts.items
  pub short : AreShort d size block text 0 now.cuts.items
  pub passed : (at : ℕ) → now.last + size ≤ at → IsCutPlace d text at → now.place ≤ at

-- why a text is not cut: an error of its device or of memory, or its length
abbrev pub IsCutFault : List ℕ → DivideRefused → Type 0
IsCutFault text refused.TooLong = 2 ^ 64 - 1 ≤ length text
IsCutFault text refused.ReadDevice = Unit {0}
IsCutFault text refused.Memory = Unit {0}
IsCutFault text e = ⊥
