-- What a text suggests, and why it doesn't, by its one derivation.
use Rattle.std.proofs.Common.{◌≡◌, ◌≢◌, ◌∙◌, List, ℕ, Some, None, Result, Ok, Err, ap, sym}
use Rattle.std.specs.Prelude.{option_map}
use Rattle.std.specs.Result.{IfErr, IfOk, result_err}
use Rattle.csv.specs.Reading.{records, strip_bom}
use Rattle.rj_line.specs.Faults.{read_fault}
use Rattle.rj_line.specs.declared.fault.Fault.{Fault}
use Rattle.rj_line.specs.declared.fault.Fault.TheVariants as fault
use Rattle.rj_line.specs.declared.fault.Side.TheVariants as side
use Rattle.rj_csv_io.specs.Grammar.{File, file_text, records_of}
use Rattle.rj_csv_io.specs.StrictReading.{config_of, quoted}
use Rattle.rj_csv_io.specs.declared.strict.fault.StrictFault.{StrictFault}
use Rattle.rj_line.specs.StrictListings.{fault_in, refused_below}
use Rattle.rj_line.specs.Misfits.{IsSuggestionOf}
use Rattle.rj_line.specs.Suggested.{IsFaultOf}
use Rattle.rj_line.specs.declared.suggest.strict.StrictlyRefused.TheVariants.{Records}
use Rattle.rj_line.specs.declared.suggest.suggestion.Suggestion.{Suggestion}

-- the records that are read from a text with its empty lines quoted
pub records-quoted : (d : ℕ) (file : File) (shown text : List ℕ) → shown ≡ text → strip_bom text ≡ file_text d (quoted file)
    → records (config_of d) (file_text d (quoted file)) ≡ records_of file → records (config_of d) (strip_bom shown) ≡ records_of file
records-quoted d file shown text same spelled law =
    ap (λ (x : List ℕ). records (config_of d) (strip_bom x)) same ∙ (ap (λ (x : List ℕ). records (config_of d) x) spelled ∙ law)

-- the error of the records above is the one that was found
pub refused-by-lines : (f : StrictFault) (rs : List (List (List ℕ))) (nulls : List (List ℕ)) (r : Result Suggestion Fault)
    → IfOk r (IsSuggestionOf rs nulls) → IfErr r (λ g. g ≢ fault.Memory → IsFaultOf rs nulls g)
    → refused_below f (result_err r) ≢ Records fault.Memory → refused_below f (result_err r) ≡ refused_below f (fault_in rs nulls)
refused-by-lines f rs nulls (Ok v) ok err other =
    let none : fault_in rs nulls ≡ None = ap (λ r. option_map (read_fault side.Left) (result_err r)) ok.are.read in
    ap (refused_below f) (sym none)
refused-by-lines f rs nulls (Err g) ok err other =
    let (e, read, same) = err (λ is. other (ap (λ (g : Fault). refused_below f (Some g)) is)) in
    let some : fault_in rs nulls ≡ Some g = ap (λ r. option_map (read_fault side.Left) (result_err r)) read ∙ ap Some (sym same) in
    ap (refused_below f) (sym some)
