-- Where a side's file can be cut, in lines, and why that isn't said.
use Rattle.std.specs.Prelude.{ℕ, ◌≡◌, ◌+◌, ◌-◌, ◌/◌, ◌^◌, ◌++◌, ◌∷◌, [], List, length, drop, Option, IfSome, decimal, flat_map, if◌then◌else◌, max, min, nat_lt}
use Rattle.clap.specs.Words.{Text}
use Rattle.rj_shards.specs.Ranges.{AreCuts, IsCutFault}
use Rattle.rj_shards.specs.declared.division.refused.DivideRefused.{DivideRefused}
use Rattle.rj_line.specs.declared.fault.Fault.{Fault}
use Rattle.rj_line.specs.declared.fault.Fault.TheVariants as fault
use Rattle.rj_line.specs.declared.fault.Side.{Side}
use Rattle.rj_line.specs.declared.request.Strictness.TheVariants as strictness
use Rattle.shards.specs.Heads.{HasHead, HasHeadFault}
use Rattle.shards.specs.Lines.{operand_of}
use Rattle.shards.specs.Outputs.{IsOfOutput, IsPrinted, Printed}
use Rattle.shards.specs.Ranges.{IsFileFault, division_fault}
use Rattle.shards.specs.declared.cutting.CutText.{CutText}
use Rattle.shards.specs.declared.failure.Failure.{Failure}
use Rattle.shards.specs.declared.failure.Failure.TheVariants as failure
use Rattle.shards.specs.declared.head.Head.{Head}
use Rattle.shards.specs.declared.line.Line.{Line}

-- a place, counted on from a byte of the file, in a line, if it is before the file's end
abbrev pub place_line : ℕ → ℕ → ℕ → List ℕ
place_line begin end cut = if nat_lt (begin + cut) end then decimal (begin + cut) ++ 10 ∷ [] else []

abbrev pub place_lines : ℕ → ℕ → List ℕ → List ℕ
place_lines begin end cuts = flat_map (place_line begin end) cuts

-- a range has at least this many bytes: as many as each has if the file's are shared out, and one more
abbrev pub least_size : CutText → ℕ
least_size cut = min (cut.end / max cut.ranges 1 + 1) (2 ^ 64 - 1)

-- the lines of places that cut a text, read in blocks of a mebibyte at most
abbrev pub HasCutLines : CutText → List ℕ → List ℕ → Type 0
HasCutLines cut text lines =
    (cuts : List ℕ) × AreCuts cut.delimiter (least_size cut) (min (least_size cut) (2 ^ 20)) text cuts × (lines ≡ place_lines cut.begin cut.end cuts)

-- why there are none
abbrev pub HasCutFailure : Side → List ℕ → Failure → Type 0
HasCutFailure s text e = (refused : DivideRefused) × (e ≡ failure.Told (division_fault s refused)) × IsCutFault text refused

-- (`holds` is what the files of names have)

-- what the side's file has
abbrev pub side_file : (Text → Option Text) → Line → Option Text
side_file holds l = holds (operand_of l l.side).file.now

-- the text of the side's file from its header on, which is to be cut into so many ranges
pub record IsCutText (holds : Text → Option Text) (l : Line) (ranges : ℕ) (cut : CutText) : Type 0 where
  pub side : cut.side ≡ l.side
  pub delimiter : cut.delimiter ≡ (operand_of l l.side).delimiter
  pub ranges_asked : cut.ranges ≡ ranges
  pub head : Head
  pub is_head : HasHead strictness.Off (operand_of l l.side).delimiter (side_file holds l) head
  pub begin : cut.begin ≡ head.begin
  pub end : IfSome (side_file holds l) (λ text. cut.end ≡ length text)

-- the lines of the places of a file are printed; of one without a header, nothing is
pub data IsCutting (holds : Text → Option Text) (l : Line) (ranges : ℕ) (old new : Printed) : Type 0 where
  of_text : (cut : CutText) (lines : List ℕ) → IsCutText holds l ranges cut → IfSome (side_file holds l) (λ text. HasCutLines cut (drop cut.begin text) lines)
      → IsPrinted old new lines → IsCutting holds l ranges old new
  of_none : (s : Side) → HasHeadFault strictness.Off (operand_of l l.side).delimiter l.side (side_file holds l) (fault.NoHeader s) → new ≡ old
      → IsCutting holds l ranges old new

-- why they aren't printed: the file has no header that can be read, or has no places, or can't be
-- read, and nothing is printed; or the output failed
pub data IsCutsFailure (holds : Text → Option Text) (l : Line) (ranges : ℕ) (old new : Printed) : Failure → Type 0 where
  of_head : (f : Fault) → HasHeadFault strictness.Off (operand_of l l.side).delimiter l.side (side_file holds l) f → new ≡ old
      → IsCutsFailure holds l ranges old new (failure.Told f)
  of_cuts : (cut : CutText) (e : Failure) → IsCutText holds l ranges cut → IfSome (side_file holds l) (λ text. HasCutFailure l.side (drop cut.begin text) e) → new ≡ old
      → IsCutsFailure holds l ranges old new e
  of_file : (f : Fault) → IsFileFault l.side f → new ≡ old → IsCutsFailure holds l ranges old new (failure.Told f)
  of_output : (e : Failure) → IsOfOutput old new e → IsCutsFailure holds l ranges old new e
