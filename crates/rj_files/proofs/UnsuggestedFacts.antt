-- A file that suggests nothing is no output that can't be written.
use Rattle.std.proofs.Common.{◌≡◌, ◌≢◌, ◌∙◌, ℕ, Bool, false, true, List, inl, inr, sym}
use Rattle.std.specs.Prelude.{None, Option, Some, option_map}
use Rattle.std.specs.Result.{result_err}
use Rattle.rj_command.specs.Sides.{strict_fault}
use Rattle.rj_csv_io.specs.declared.refused.ReadRefused.{ReadRefused}
use Rattle.rj_csv_io.specs.declared.refused.ReadRefused.TheVariants as read
use Rattle.rj_line.specs.Faults.{read_fault}
use Rattle.rj_line.specs.declared.fault.Fault.{Fault}
use Rattle.rj_line.specs.declared.fault.Fault.TheVariants as fault
use Rattle.rj_line.specs.declared.fault.Side.TheVariants as side
use Rattle.rj_line.specs.declared.request.Strictness.{Strictness}
use Rattle.rj_line.specs.declared.request.Strictness.TheVariants as strictness
use Rattle.rj_csv_io.specs.declared.strict.fault.StrictFault.{StrictFault}
use Rattle.rj_csv_io.specs.declared.strict.fault.StrictFault.TheVariants as strict
use Rattle.rj_line.specs.StrictListings.{IsStrictRefusal, of_records, of_text, records_in_lines, refused_below}
use Rattle.rj_line.specs.Suggested.{read_as_texts}
use Rattle.rj_line.specs.declared.suggest.strict.StrictlyRefused.{StrictlyRefused}
use Rattle.rj_files.specs.Streams.{IsStrictlyUnsuggested, IsUnsuggested, IsUnsuggestedBy, fault_of_refused}

of_read : (e : ReadRefused) → read_fault side.Left e ≢ fault.WriteDevice
of_read read.NoHeader is = absurd cc
of_read (read.BadName column) is = absurd cc
of_read (read.RepeatedName column) is = absurd cc
of_read read.TypeCount is = absurd cc
of_read (read.RaggedRow row) is = absurd cc
of_read (read.BadInteger row column) is = absurd cc
of_read (read.BadText row column) is = absurd cc
of_read read.TooManyRows is = absurd cc
of_read read.TooManyColumns is = absurd cc
of_read read.BadNull is = absurd cc
of_read read.ReadDevice is = absurd cc
of_read read.Memory is = absurd cc

of_strict : (f : StrictFault) → strict_fault side.Left f ≢ fault.WriteDevice
of_strict (strict.OpenQuote row column) is = absurd cc
of_strict (strict.AfterQuote row column) is = absurd cc
of_strict (strict.BareQuote row column) is = absurd cc
of_strict (strict.BareReturn row column) is = absurd cc
of_strict (strict.EmptyLine row) is = absurd cc
of_strict (strict.CutShort row) is = absurd cc

below : (f : StrictFault) (o : Option ReadRefused) → fault_of_refused (refused_below f (option_map (read_fault side.Left) o)) ≢ fault.WriteDevice
below f None is = of_strict f is
below f (Some read.NoHeader) is = of_strict f is
below f (Some (read.BadName column)) is = absurd cc
below f (Some (read.RepeatedName column)) is = absurd cc
below f (Some read.TypeCount) is = absurd cc
below f (Some (read.RaggedRow row)) is = absurd cc
below f (Some (read.BadInteger row column)) is = absurd cc
below f (Some (read.BadText row column)) is = absurd cc
below f (Some read.TooManyRows) is = absurd cc
below f (Some read.TooManyColumns) is = absurd cc
below f (Some read.BadNull) is = absurd cc
below f (Some read.ReadDevice) is = absurd cc
below f (Some read.Memory) is = absurd cc

refused : (full : Bool) (d : ℕ) (bytes : List ℕ) (nulls : List (List ℕ)) (r : StrictlyRefused) → IsStrictRefusal full d bytes nulls r
    → fault_of_refused r ≢ fault.WriteDevice
refused full d bytes nulls _ (of_records file g derives (e, read_so, fault_is)) is = of_read e (sym fault_is ∙ is)
refused full d bytes nulls _ (of_text f lines has above) is = below f (result_err (read_as_texts (records_in_lines lines) nulls)) is

by_bytes : (how : Strictness) (d : ℕ) (bytes : List ℕ) (nulls : List (List ℕ)) (f : Fault) → IsUnsuggestedBy how d bytes nulls f → f ≢ fault.WriteDevice
by_bytes strictness.Off d bytes nulls f (e, read_so, fault_is) is = of_read e (sym fault_is ∙ is)
by_bytes strictness.On d bytes nulls f (r, why, fault_is) is = refused false d bytes nulls r why (sym fault_is ∙ is)
by_bytes strictness.Full d bytes nulls f (r, why, fault_is) is = refused true d bytes nulls r why (sym fault_is ∙ is)

pub unsuggested-unwritten : (how : Strictness) (d : ℕ) (nulls : List (List ℕ)) (told : Option (List ℕ)) (f : Fault) → IsUnsuggested how d nulls told f
    → f ≢ fault.WriteDevice
unsuggested-unwritten how d nulls told f (inl (inl memory)) is = let no : fault.Memory ≡ fault.WriteDevice = sym memory ∙ is in absurd cc
unsuggested-unwritten how d nulls told f (inl (inr device)) is = let no : fault.ReadDevice side.Left ≡ fault.WriteDevice = sym device ∙ is in absurd cc
unsuggested-unwritten how d nulls told f (inr (bytes, are, why)) is =
    let other : f ≢ fault.Memory = λ memory. let no : fault.Memory ≡ fault.WriteDevice = sym memory ∙ is in absurd cc in
    by_bytes how d bytes nulls f (why other) is
