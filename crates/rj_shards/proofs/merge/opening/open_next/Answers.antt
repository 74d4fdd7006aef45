use Rattle.std.proofs.Common.{◌∙◌, Some, ap, sym}
use Rattle.csv.specs.Records.{fields_of}
use Rattle.rj_csv_io.specs.Cuts.{records_in}
use Rattle.rj_csv_io.specs.Grammar.{comma}
use Rattle.rj_shards.proofs.OpeningFacts.{fault-none, fault-other, no-fault, of-header}
use Rattle.rj_shards.proofs.merge.opening.open_next.Goals as goal

pub returns-clause-input : goal.returns-clause-input
returns-clause-input g c = λ text e.
    let begun = c.in-Ok.ensures.header text e in (
      c.new.ensures.tells begun.0,
      c.new.ensures.reading
          ∙ sym (of-header c.args.how.now (fields_of c.args.first.now.names) c.args.input (records_in comma text) _ _ c.args.first.now.columns begun.1 (sym c.are_same.ensures ∙ c.if-not-are_same.false) c.requires),
    )

pub returns-in-Err-clause-unheaded : goal.returns-in-Err-clause-unheaded
returns-in-Err-clause-unheaded g c = λ out text e.
    let found = c.in-Err.ensures.fault out text e in
    fault-none (fields_of c.args.first.now.names) c.args.input (records_in comma text) found.1 ∙ ap Some (sym found.0)

pub returns-then-not-are_same-clause-unheaded : goal.returns-then-not-are_same-clause-unheaded
returns-then-not-are_same-clause-unheaded g c = λ out text e.
    let begun = c.in-Ok.ensures.header text e in
    fault-other (fields_of c.args.first.now.names) c.args.input (records_in comma text) _ _ begun.1 (sym c.are_same.ensures ∙ c.if-not-are_same.true)

pub returns-clause-headed : goal.returns-clause-headed
returns-clause-headed g c = λ text e.
    let begun = c.in-Ok.ensures.header text e in
    no-fault (fields_of c.args.first.now.names) c.args.input (records_in comma text) _ _ c.args.first.now.columns begun.1 (sym c.are_same.ensures ∙ c.if-not-are_same.false) c.requires
