use Rattle.std.proofs.Common.{◌≡◌, ◌≢◌, List, ℕ, IfErr, IfOk, subst, true}
use Rattle.csv.specs.Reading.{strip_bom}
use Rattle.rj_csv_io.specs.Typed.{null_texts}
use Rattle.rj_line.specs.declared.fault.Fault.TheVariants.{Memory}
use Rattle.rj_csv_io.specs.Grammar.{may_delimit}
use Rattle.rj_csv_io.specs.declared.strict.header.HeaderPlace.TheVariants.{First}
use Rattle.rj_csv_io.proofs.StrictLawFacts.{reads_quoted_records}
use Rattle.rj_line.specs.Keys.{IsListingOf}
use Rattle.rj_line.specs.Suggested.{IsFaultOf}
use Rattle.rj_line.proofs.StrictFacts.{records-quoted}
use Rattle.rj_line.proofs.suggest.strict.suggest_derived.Goals as goal

pub returns-clause-suggestion : goal.returns-clause-suggestion
returns-clause-suggestion c = λ full file d.
    let by = c.args.format.now.delimiter in
    let lawful = subst (λ (n : ℕ). may_delimit n ≡ true) c.byte-byte.ensures.value c.byte-byte.ensures.lawful in
    let same = records-quoted by file c.as_slice.result.now c.in_ok-quoted.quoted.items c.as_slice.ensures.value (c.in_ok-quoted.ensures full file d)
    (reads_quoted_records by First full (strip_bom c.args.text.now) file lawful d) in
    let P : List (List (List ℕ)) → Type 0 = λ rs. IfOk c.suggest_listed.result (IsListingOf c.args.listed rs (null_texts c.args.format.now.nulls.now)) in
    subst P same c.suggest_listed.ensures.suggestion

pub returns-clause-fault : goal.returns-clause-fault
returns-clause-fault c = λ full file d.
    let by = c.args.format.now.delimiter in
    let lawful = subst (λ (n : ℕ). may_delimit n ≡ true) c.byte-byte.ensures.value c.byte-byte.ensures.lawful in
    let same = records-quoted by file c.as_slice.result.now c.in_ok-quoted.quoted.items c.as_slice.ensures.value (c.in_ok-quoted.ensures full file d)
    (reads_quoted_records by First full (strip_bom c.args.text.now) file lawful d) in
    let P : List (List (List ℕ)) → Type 0 = λ rs. IfErr c.suggest_listed.result (λ f. f ≢ Memory → IsFaultOf rs (null_texts c.args.format.now.nulls.now) f) in
    subst P same c.suggest_listed.ensures.fault
