-- The lines and the exit statuses of what ends `merges` without its output.
use Rattle.std.specs.Prelude.{◌≡◌, ◌⊎◌, ℕ, List, ◌∷◌, ◌++◌, codes, decimal, Option, None, Some, Result, Ok, Err, string_bytes}
use Rattle.clap.specs.Values.{kind_of}
use Rattle.clap.specs.declared.error.Error.{Error}
use Rattle.rj_line.specs.Faults.{IsAskedFor, refused_status}
use Rattle.merges.specs.declared.failure.Failure.{Failure}
use Rattle.merges.specs.declared.failure.Failure.TheVariants as failure
use Rattle.rj_shards.specs.declared.merge.place.Place.{Place}
use Rattle.rj_shards.specs.declared.merge.place.Place.TheVariants as place

-- the line of an error of a file
abbrev pub file_line : List ℕ → List ℕ → List ℕ
file_line error file = error ++ (32 ∷ file)

-- of a row of a file
abbrev pub row_line : List ℕ → List ℕ → ℕ → List ℕ
row_line error file row = error ++ (32 ∷ (file ++ (codes " row " ++ decimal row)))

-- of a place, by the numbers of its rows
abbrev pub place_line : List ℕ → Place → List ℕ
place_line error (place.Pair left right) = error ++ (codes " left " ++ (decimal left ++ (codes " right " ++ decimal right)))
place_line error (place.LoneAmongPairs left) = error ++ (codes " left " ++ decimal left)
place_line error (place.LoneLeft left) = error ++ (codes " left " ++ decimal left)
place_line error (place.LoneRight right) = error ++ (codes " right " ++ decimal right)

-- the line, unless `clap` prints a text of its own
abbrev pub line_of : Failure → Option (List ℕ)
line_of (failure.CommandLine e) = None
line_of failure.NotText = Some (codes "merges: an argument is not text")
line_of failure.FileCount = Some (codes "merges: the number of files is none that can be merged")
line_of failure.BadCopies = Some (codes "merges: --copies has to have an entry for each file: 1, or LxR, of numbers from 1 to 1,048,576")
line_of failure.BadDelimiter = Some (codes "merges: E34 BadDelimiter")
line_of failure.BadNull = Some (codes "merges: E10 BadNull")
line_of failure.Memory = Some (codes "merges: E18 Memory")
line_of failure.WriteDevice = Some (codes "merges: E20 WriteDevice")
line_of (failure.ReadDevice file) = Some (file_line (codes "merges: E19 ReadDevice") (string_bytes file))
line_of (failure.NoHeader file) = Some (file_line (codes "merges: E1 NoHeader") (string_bytes file))
line_of (failure.NoPlaces file) = Some (file_line (codes "merges: E41 NoPlaces") (string_bytes file))
line_of (failure.OtherHeader file) = Some (file_line (codes "merges: E42 OtherHeader") (string_bytes file))
line_of (failure.RaggedRow file row) = Some (row_line (codes "merges: E5 RaggedRow") (string_bytes file) row)
line_of (failure.BadPlace file row) = Some (row_line (codes "merges: E43 BadPlace") (string_bytes file) row)
line_of (failure.NoPlace file row) = Some (row_line (codes "merges: E44 NoPlace") (string_bytes file) row)
line_of (failure.NotInOrder file row) = Some (row_line (codes "merges: E45 NotInOrder") (string_bytes file) row)
line_of (failure.RepeatedPlace p) = Some (place_line (codes "merges: E46 RepeatedPlace") p)

-- 0 help and the version, 2 command line, 3 an input, 5 memory, 6 device
abbrev pub exit_of : Failure → ℕ
exit_of (failure.CommandLine e) = refused_status (kind_of e)
exit_of failure.NotText = 2
exit_of failure.FileCount = 2
exit_of failure.BadCopies = 2
exit_of failure.BadDelimiter = 2
exit_of failure.BadNull = 3
exit_of failure.Memory = 5
exit_of failure.WriteDevice = 6
exit_of (failure.ReadDevice file) = 6
exit_of (failure.NoHeader file) = 3
exit_of (failure.NoPlaces file) = 3
exit_of (failure.OtherHeader file) = 3
exit_of (failure.RaggedRow file row) = 3
exit_of (failure.BadPlace file row) = 3
exit_of (failure.NoPlace file row) = 3
exit_of (failure.NotInOrder file row) = 3
exit_of (failure.RepeatedPlace p) = 3

-- what `clap` prints in place of the line
abbrev pub clap_error_of : Failure → Option Error
clap_error_of (failure.CommandLine e) = Some e
clap_error_of _ = None

-- the exit status of a run: 0, or that of a failure, or that of a failed write, if help or the
-- version can't be printed
abbrev pub IsStatusOf : Result (Unit {0}) Failure → ℕ → Type 0
IsStatusOf (Ok u) status = status ≡ 0
IsStatusOf (Err f) status = (status ≡ exit_of f) ⊎ (IsAskedFor (clap_error_of f) × (status ≡ exit_of failure.WriteDevice))
