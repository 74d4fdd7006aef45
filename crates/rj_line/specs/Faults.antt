-- The texts of the sides, the exit statuses, and the errors of what is written.
use Rattle.std.specs.Prelude.{◌≡◌, ◌⊎◌, ℕ, List, Option, Some, None, codes}
use Rattle.clap.specs.Values.{kind_of}
use Rattle.clap.specs.declared.error.Error.{Error}
use Rattle.clap.specs.declared.error.kind.ErrorKind.{ErrorKind}
use Rattle.clap.specs.declared.error.kind.ErrorKind.TheVariants.{DisplayHelp, DisplayVersion, OutOfMemory}
use Rattle.rj_csv_io.specs.declared.refused.ReadRefused.{ReadRefused}
use Rattle.rj_csv_io.specs.declared.refused.ReadRefused.TheVariants as read
use Rattle.rj_csv_io.specs.declared.write.WriteRefused.{WriteRefused}
use Rattle.rj_csv_io.specs.declared.write.WriteRefused.TheVariants as write
use Rattle.rj_line.specs.declared.fault.Fault.{Fault}
use Rattle.rj_line.specs.declared.fault.Fault.TheVariants as fault
use Rattle.rj_line.specs.declared.fault.Side.{Side}
use Rattle.rj_line.specs.declared.fault.Side.TheVariants as side

-- the word of a side
abbrev pub side_text : Side → List ℕ
side_text side.Left = codes "left"
side_text side.Right = codes "right"

-- help and the version are what was asked for
abbrev pub refused_status : ErrorKind → ℕ
refused_status DisplayHelp = 0
refused_status DisplayVersion = 0
refused_status _ = 2

-- what `clap` prints is help or the version
abbrev pub IsAskedFor : Option Error → Type 0
IsAskedFor None = ⊥
IsAskedFor (Some e) = refused_status (kind_of e) ≡ 0

-- the error of a table that can't be read
abbrev pub read_fault : Side → ReadRefused → Fault
read_fault s read.NoHeader = fault.NoHeader s
read_fault s (read.BadName column) = fault.BadName s column
read_fault s (read.RepeatedName column) = fault.RepeatedName s column
read_fault s read.TypeCount = fault.TypeCount s
read_fault s (read.RaggedRow row) = fault.RaggedRow s row
read_fault s (read.BadInteger row column) = fault.BadInteger s row column
read_fault s (read.BadText row column) = fault.BadText s row column
read_fault s read.TooManyRows = fault.TooManyRows s
read_fault s read.TooManyColumns = fault.TooManyColumns s
read_fault s read.BadNull = fault.BadNull
read_fault s read.ReadDevice = fault.ReadDevice s
read_fault s read.Memory = fault.Memory

-- the error of rows that can't be written
abbrev pub write_fault : WriteRefused → Fault
write_fault write.Memory = fault.Memory
write_fault write.WriteDevice = fault.WriteDevice

-- 0 done, 2 command line, 3 input, 4 clause, 5 memory, 6 device, 7 not as expected
abbrev pub status_of : Fault → ℕ
status_of (fault.CommandLine e) = refused_status (kind_of e)
status_of fault.NotText = 2
status_of (fault.BadTypeList side) = 2
status_of fault.BadSharedTypeList = 2
status_of (fault.TooManyNulls side) = 2
status_of fault.BadDelimiter = 2
status_of fault.BadRows = 2
status_of fault.ChosenTwice = 2
status_of fault.MatchedLeftColumns = 2
status_of fault.BadSelect = 2
status_of fault.SelectedTwice = 2
status_of fault.CountedChoice = 2
status_of fault.QuietTwice = 2
status_of fault.BadSuffix = 2
status_of (fault.NoHeader side) = 3
status_of (fault.BadName side column) = 3
status_of (fault.RepeatedName side column) = 3
status_of (fault.TypeCount side) = 3
status_of (fault.RaggedRow side row) = 3
status_of (fault.BadInteger side row column) = 3
status_of (fault.BadText side row column) = 3
status_of (fault.TooManyRows side) = 3
status_of (fault.TooManyColumns side) = 3
status_of fault.BadNull = 3
status_of (fault.OpenQuote side row column) = 3
status_of (fault.AfterQuote side row column) = 3
status_of (fault.BareQuote side row column) = 3
status_of (fault.BareReturn side row column) = 3
status_of (fault.EmptyLine side row) = 3
status_of (fault.CutShort side row) = 3
status_of (fault.TypeName side name) = 3
status_of (fault.SharedTypeName name) = 3
status_of (fault.AmbiguousNull row column) = 3
status_of (fault.NoFreeName column) = 3
status_of (fault.Syntax byte) = 4
status_of fault.TooDeep = 4
status_of fault.UnknownColumn = 4
status_of fault.AmbiguousColumn = 4
status_of fault.TypeMismatch = 4
status_of (fault.UndeclaredType side name) = 4
status_of (fault.NoSuchRows side) = 4
status_of (fault.SelectedName column) = 4
status_of fault.RepeatedUsing = 4
status_of fault.ClauseTooLong = 4
status_of fault.Memory = 5
status_of (fault.ReadDevice side) = 6
status_of fault.SharedReadDevice = 6
status_of fault.WriteDevice = 6
status_of fault.TwoStandardInputs = 2
status_of (fault.OutputIsInput side) = 6
status_of fault.NotAsExpected = 7

-- what `clap` prints in place of the error
abbrev pub clap_error_of : Fault → Option Error
clap_error_of (fault.CommandLine e) = Some e
clap_error_of _ = None

-- the error for an error of `clap`: out of memory exactly if it is of that kind
abbrev pub fault_by : ErrorKind → Error → Fault
fault_by OutOfMemory e = fault.Memory
fault_by _ e = fault.CommandLine e

abbrev pub clap_fault : Error → Fault
clap_fault e = fault_by (kind_of e) e

-- memory ran out, or the writer failed
abbrev pub IsOfWriting : Fault → Type 0
IsOfWriting f = (f ≡ fault.Memory) ⊎ (f ≡ fault.WriteDevice)
