use Rattle.std.proofs.Common.{◌≡◌, ◌∙◌, Bor, Err, ap, length, subst, sym}
use Rattle.std.proofs.lemmas.List.{length-map}
use Rattle.clap.specs.Words.{Text}
use Rattle.merges.proofs.RefusalFacts.{failed_output, output_failed}
use Rattle.merges.specs.Merges.{names}
use Rattle.rj_shards.specs.Inputs.{is_input}
use Rattle.rj_shards.specs.Sources.{TellsAmong}
use Rattle.rj_shards.specs.declared.merge.refused.MergeTextsRefused.TheVariants as refused
use Rattle.merges.proofs.merging.merge_line.Goals as goal

pub returns-in-Ok-clause-merge : goal.returns-in-Ok-clause-merge
returns-in-Ok-clause-merge g c = rw (c.as_slice-files.ensures.value, c.as_slice.ensures.value) at c.in-Ok.ensures.merge

pub returns-in-Err-clause-refusal : goal.returns-in-Err-clause-refusal
returns-in-Err-clause-refusal g c =
    let told = c.in-Err.ensures in
    let faults = rw (c.as_slice-files.ensures.value, c.as_slice.ensures.value) at told.fault in
    let headers = rw c.as_slice-files.ensures.value at told.first in
    let kept = rw c.as_slice-files.ensures.value at told.untouched in
    let unopened = rw c.as_slice-files.ensures.value at told.unopened in
    let partly = rw (c.as_slice-files.ensures.value, c.as_slice.ensures.value) at told.partly in
    let named = rw c.as_slice-files.ensures.value at c.of.ensures in
    let size : length c.as_slice-files.result.now ≡ length (names c.args.line.now) =
    ap length c.as_slice-files.ensures.value ∙ sym (length-map c.args.line.now.files.items (λ (f : Bor Text). f.now)) in
    record {
      error = c.in-Err.refused;
      fault = λ e is inside. faults e (record { is = ap Err is; inside = inside });
      first = headers;
      untouched = kept;
      unopened = λ i none.
          let found = unopened i none in
          let told = found.1.1 in
          let is : c.in-Err.refused ≡ refused.Merge found.1.0 = cc in
          (found.0, (found.1.0, is, found.1.2));
      partly = λ e is. partly e (ap Err is);
      input = λ e is. subst (λ n. TellsAmong (is_input n) e) size (told.input e (ap Err is));
      is = named;
    }

pub returns-in-Err-clause-count : goal.returns-in-Err-clause-count
returns-in-Err-clause-count g c =
    let named = rw c.as_slice-files.ensures.value at c.of.ensures in (
      λ written.
          let failed = output_failed (names c.args.line.now) c.in-Err.refused c.of.result named (cc) in
          c.in-Err.ensures.count.0 (ap Err failed),
      λ other. c.in-Err.ensures.count.1 (λ same.
          let is : c.in-Err.refused ≡ refused.WriteDevice = cc in
          other (ap Err (failed_output (names c.args.line.now) c.in-Err.refused c.of.result named is))),
    )
