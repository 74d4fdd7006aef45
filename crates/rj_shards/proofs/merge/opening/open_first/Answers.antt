use Rattle.std.proofs.Common.{◌∙◌, Some, ap, sym}
use Rattle.rj_csv_io.specs.Cuts.{records_in}
use Rattle.rj_csv_io.specs.Grammar.{comma}
use Rattle.rj_shards.specs.Inputs.{first_record}
use Rattle.rj_shards.proofs.OpeningFacts.{fault-none, fault-unplaced, no-fault-first, of-first, of-unplaced}
use Rattle.rj_shards.proofs.merge.opening.open_first.Goals as goal

pub returns-in_default-clause-fault : goal.returns-in_default-clause-fault
returns-in_default-clause-fault g c = λ out text e.
    let begun = c.in-Ok.ensures.header text e in
    of-unplaced c.args.how.now 1 (records_in comma text) _ _ begun.1 (sym c.in_default.ensures)

pub returns-clause-input : goal.returns-clause-input
returns-clause-input g c = λ text e.
    let begun = c.in-Ok.ensures.header text e in
    (c.new-source.ensures.tells begun.0, c.new-source.ensures.reading ∙ sym (of-first c.args.how.now 1 (records_in comma text) _ _ begun.1 c.in-Some.columns (sym c.in-Some.ensures)))

pub returns-in-Err-clause-unheaded : goal.returns-in-Err-clause-unheaded
returns-in-Err-clause-unheaded g c = λ out text e.
    let found = c.in-Err.ensures.fault out text e in
    fault-none (first_record (records_in comma text)) 1 (records_in comma text) found.1 ∙ ap Some (sym found.0)

pub returns-in_default-clause-unheaded : goal.returns-in_default-clause-unheaded
returns-in_default-clause-unheaded g c = λ out text e.
    let begun = c.in-Ok.ensures.header text e in
    fault-unplaced 1 (records_in comma text) _ _ begun.1 (sym c.in_default.ensures)

pub returns-clause-headed : goal.returns-clause-headed
returns-clause-headed g c = λ text e.
    let begun = c.in-Ok.ensures.header text e in
    no-fault-first 1 (records_in comma text) _ _ begun.1 c.in-Some.columns (sym c.in-Some.ensures)
