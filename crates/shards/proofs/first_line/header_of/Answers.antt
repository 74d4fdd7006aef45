use Rattle.std.proofs.Common.{◌≡◌, ◌∙◌, ℕ, ap, refl, sym, subst, true}
use Rattle.csv.specs.Reading.{records, strip_bom}
use Rattle.rj_csv_io.specs.Grammar.{may_delimit}
use Rattle.rj_csv_io.specs.StrictReading.{body_of, config_of}
use Rattle.rj_csv_io.specs.declared.strict.header.HeaderPlace.TheVariants.{First}
use Rattle.rj_csv_io.proofs.StrictLawFacts.{reads_quoted_records}
use Rattle.shards.proofs.first_line.header_of.Goals as goal

pub returns-in-Ok-Some-clause-names : goal.returns-in-Ok-Some-clause-names
returns-in-Ok-Some-clause-names c = λ full file derived.
    let d = c.args.delimiter in
    let may = subst (λ (x : ℕ). may_delimit x ≡ true) c.byte-byte.ensures.value c.byte-byte.ensures.lawful in
    let named = rw c.in-Ok-Some.field-0-is at c.in-Ok-Some.ensures in
    let text = c.without_bom.ensures ∙ (ap strip_bom c.as_slice.ensures.value ∙ c.in-Ok.ensures full file derived) in
    let all = reads_quoted_records d First full (body_of First c.args.line.now) file may derived in
    (named.0, sym all ∙ (sym (ap (records (config_of d)) text) ∙ named.1))

pub returns-in-Ok-None-clause-fault : goal.returns-in-Ok-None-clause-fault
returns-in-Ok-None-clause-fault c = λ not. (
  refl,
  λ full file derived.
      let d = c.args.delimiter in
      let may = subst (λ (x : ℕ). may_delimit x ≡ true) c.byte-byte.ensures.value c.byte-byte.ensures.lawful in
      let none = rw c.in-Ok-None.field-0-is at c.in-Ok-None.ensures in
      let text = c.without_bom.ensures ∙ (ap strip_bom c.as_slice.ensures.value ∙ c.in-Ok.ensures full file derived) in
      let all = reads_quoted_records d First full (body_of First c.args.line.now) file may derived in
      sym all ∙ (sym (ap (records (config_of d)) text) ∙ none),
)
