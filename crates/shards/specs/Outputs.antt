-- What is printed.
use Rattle.std.specs.Prelude.{ℕ, ◌≡◌, List, Option}
use Rattle.std.specs.Io.KnownBytes.{Appends}
use Rattle.rj_csv_io.specs.Devices.{after_failure}
use Rattle.rj_line.specs.declared.fault.Fault.TheVariants as fault
use Rattle.shards.specs.declared.failure.Failure.{Failure}
use Rattle.shards.specs.declared.failure.Failure.TheVariants as failure

-- what the output of lines has: the bytes that it got, if it tells them, and how often it failed
pub record Printed : Type 0 where
  pub told : Option (List ℕ)
  pub failures : ℕ

abbrev pub printed_in : {O : Type 0} → (O → Option (List ℕ)) → (O → ℕ) → O → Printed
printed_in told count output = record { told = told output; failures = count output }

-- this is printed after what was there, and the output didn't fail
pub record IsPrinted (old new : Printed) (text : List ℕ) : Type 0 where
  pub got : Appends old.told new.told text
  pub unfailed : new.failures ≡ old.failures

-- it isn't, since the output failed. (An error of a part has the same name, and no failure of the output.)
abbrev pub IsOfOutput : Printed → Printed → Failure → Type 0
IsOfOutput old new e = (e ≡ failure.Told fault.WriteDevice) × (new.failures ≡ after_failure old.failures)
