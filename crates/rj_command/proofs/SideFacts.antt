-- What the bytes of a side denote, by how they were read.
use Rattle.std.proofs.Common.{◌≡◌, ◌≢◌, ◌∙◌, Bool, List, ℕ, sym, ap, subst}
use Rattle.std.specs.Prelude.{Result, Ok, Err, IfOk, IfErr}
use Rattle.rj_columns.specs.Tables.{TableValue}
use Rattle.rj_csv_io.specs.StrictFaults.{AreAbove, HasFault, row_at}
use Rattle.rj_csv_io.specs.Grammar.{Derives, File, Line, records_of}
use Rattle.rj_csv_io.specs.StrictReading.{body_of}
use Rattle.rj_csv_io.specs.declared.strict.fault.StrictFault.{StrictFault}
use Rattle.rj_csv_io.specs.declared.strict.header.HeaderPlace.TheVariants.{First}
use Rattle.rj_command.specs.Sides.{IsReading, IsStrictFault, IsStrictTable, delimiter_of, fault_below, of_records, of_text, records_in_lines, side_records, told}
use Rattle.rj_line.specs.declared.fault.Fault.{Fault}
use Rattle.rj_line.specs.declared.fault.Fault.TheVariants as fault
use Rattle.rj_line.specs.declared.fault.Side.{Side}
use Rattle.rj_line.specs.declared.request.Request.{Request}

module _ (q : Request) (s : Side) where
  -- one of the same records
  pub same_reading : (a b : List (List (List ℕ))) (r : Result TableValue Fault) → a ≡ b → IsReading q s a r → IsReading q s b r
  same_reading a b r same = subst (λ (x : List (List (List ℕ))). IsReading q s x r) same

module _ (full : Bool) (q : Request) (s : Side) (text : List ℕ) where
  -- the table, and the fault, of the records of a derivation
  pub records_table : (file : File) (r : Result TableValue Fault) → Derives (delimiter_of q s) First full (body_of First text) file → IsReading q s (records_of file) r
      → IfOk r (IsStrictTable full q s text)
  records_table file (Ok t) derives told = (file, derives, told)
  records_table file (Err f) derives told = tt

  pub records_fault : (file : File) (r : Result TableValue Fault) → Derives (delimiter_of q s) First full (body_of First text) file → IsReading q s (records_of file) r
      → IfErr r (λ f. f ≢ fault.Memory → IsStrictFault full q s text f)
  records_fault file (Ok t) derives told = tt
  records_fault file (Err f) derives told = λ not. of_records file f derives (told not)

  same_below : (g : StrictFault) (a : List (List (List ℕ))) (r : Result TableValue Fault) (f : Fault) → IsReading q s a r → f ≡ fault_below s g r → f ≢ fault.Memory
      → f ≡ fault_below s g (side_records q s a)
  same_below g a (Ok t) f told is not = is ∙ ap (fault_below s g) (sym told)
  same_below g a (Err e) f told is not =
      is ∙ ap (fault_below s g) (sym (told (λ memory. not (is ∙ ap (λ (x : Fault). fault_below s g (Err x)) memory))))

  -- the fault of a text that has no derivation
  pub text_fault : (g : StrictFault) (lines : List Line) (r : Result TableValue Fault) (f : Fault) → HasFault (delimiter_of q s) First full (body_of First text) g
      → AreAbove (delimiter_of q s) First (body_of First text) (row_at g) lines → IsReading q s (records_in_lines lines) r → f ≡ fault_below s g r → f ≢ fault.Memory
      → IsStrictFault full q s text f
  text_fault g lines r f has above told is not =
      subst (IsStrictFault full q s text) (sym (same_below g (records_in_lines lines) r f told is not)) (of_text g lines has above)
