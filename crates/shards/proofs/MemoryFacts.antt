-- Where memory ran out, nothing is printed.
use Rattle.std.proofs.Common.{◌≡◌, ◌∙◌, Bool, List, Option, ap, inl, inr, sym, ℕ}
use Rattle.std.proofs.lemmas.Bool.{false≢true}
use Rattle.clap.specs.Words.{Text}
use Rattle.rj_columns.specs.Contents.{Content}
use Rattle.rj_line.specs.declared.fault.Fault.TheVariants as fault
use Rattle.shards.specs.Cuts.{IsCutsFailure, of_cuts, of_file, of_head, of_output}
use Rattle.shards.specs.Outputs.{Printed}
use Rattle.shards.specs.Plans.{IsRangeFailure, is_after_rows, of_keys, of_own, of_parts, of_rows}
use Rattle.shards.specs.Ranges.{IsOfFolder, IsOfReading, IsOfWriting, mixed_shard, range_file}
use Rattle.shards.specs.declared.dividing.Range.{Range}
use Rattle.shards.specs.declared.failure.Failure.{Failure}
use Rattle.shards.specs.declared.failure.Failure.TheVariants.{Told}
use Rattle.shards.specs.declared.line.Bounds.{Bounds}
use Rattle.shards.specs.declared.line.Line.{Line}

module _ (holds : Text → Option Text) (tells : Bool) (l : Line) (told : List (Option Text)) (old new : Printed) where
  unwritten : (e : Failure) → e ≡ Told fault.Memory → e ≡ Told fault.WriteDevice → ⊥
  unwritten e is wrote = false≢true (ap is_after_rows (sym is ∙ wrote))

  kept-writing : (e : Failure) → e ≡ Told fault.Memory → IsOfWriting old new e → new ≡ old
  kept-writing e is (inl wrote) = absurd (unwritten e is wrote.0)
  kept-writing e is (inr memory) = memory.1

  kept-reading : (file : Option Text) (range : Range) (e : Failure) → e ≡ Told fault.Memory → IsOfReading file range old new e → new ≡ old
  kept-reading file range e is (inl rows) = rows.1
  kept-reading file range e is (inr why) = kept-writing e is why

  kept-folder : (file : Option Text) (part : List Content → ℕ) (range : Range) (parts : ℕ) (e : Failure) → e ≡ Told fault.Memory → IsOfFolder tells file part range parts told old new e → new ≡ old
  kept-folder file part range parts e is (inl unmade) = unmade.2
  kept-folder file part range parts e is (inr (many, inl unfilled)) = unfilled.4
  kept-folder file part range parts e is (inr (many, inr uncounted)) = kept-writing e is uncounted.3

  pub kept-range : (bounds : Bounds) (e : Failure) → e ≡ Told fault.Memory → IsRangeFailure holds tells l bounds told old new e → new ≡ old
  kept-range bounds _ is (of_own e why none same) = same
  kept-range bounds _ is (of_parts range columns e lawful of keys why) = kept-folder (range_file holds range) (mixed_shard l.parts columns) range l.parts e is why
  kept-range bounds _ is (of_rows range e lawful of why none) = kept-reading (range_file holds range) range e is why
  kept-range bounds _ is (of_keys range e lawful of why after none) = after.1 (ap is_after_rows is)

  pub kept-cuts : (ranges : ℕ) (e : Failure) → e ≡ Told fault.Memory → IsCutsFailure holds l ranges old new e → new ≡ old
  kept-cuts ranges _ is (of_head f why same) = same
  kept-cuts ranges _ is (of_cuts cut e text why same) = same
  kept-cuts ranges _ is (of_file f why same) = same
  kept-cuts ranges _ is (of_output e wrote) = absurd (unwritten e is wrote.0)
