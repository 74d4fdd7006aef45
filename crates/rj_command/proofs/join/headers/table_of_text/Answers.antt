use Rattle.std.proofs.Common.{◌∙◌}
use Rattle.std.proofs.lemmas.Result.{IfErr-weaker, IfOk-weaker}
use Rattle.rj_csv_io.specs.Pieces.{names_in}
use Rattle.rj_command.proofs.HeaderFacts.{header_missing, header_taken}
use Rattle.rj_command.proofs.join.headers.table_of_text.Goals as goal

pub returns-in-Ok-Some-clause-table : goal.returns-in-Ok-Some-clause-table
returns-in-Ok-Some-clause-table c =
    let found = rw c.in-Ok-Some.field-0-is at c.in-Ok-Some.ensures in
    let taken = header_taken c.args.request.now c.args.side c.requires c.args.text.now c.without_bom.result.now c.without_bom.ensures
    c.delimiter_of.result c.delimiter_of.ensures.value (names_in c.in-Ok-Some.header) found.0 found.1 in
    IfOk-weaker c.table_under.result _ _ (λ t made. taken ∙ made) c.table_under.ensures.table

pub returns-in-Ok-Some-clause-fault : goal.returns-in-Ok-Some-clause-fault
returns-in-Ok-Some-clause-fault c =
    let found = rw c.in-Ok-Some.field-0-is at c.in-Ok-Some.ensures in
    let taken = header_taken c.args.request.now c.args.side c.requires c.args.text.now c.without_bom.result.now c.without_bom.ensures
    c.delimiter_of.result c.delimiter_of.ensures.value (names_in c.in-Ok-Some.header) found.0 found.1 in
    IfErr-weaker c.table_under.result _ _ (λ f told not. taken ∙ told not) c.table_under.ensures.fault

pub returns-in-Ok-None-clause-fault : goal.returns-in-Ok-None-clause-fault
returns-in-Ok-None-clause-fault c = λ not.
    header_missing c.args.request.now c.args.side c.requires c.args.text.now c.without_bom.result.now c.without_bom.ensures
    c.delimiter_of.result c.delimiter_of.ensures.value (rw c.in-Ok-None.field-0-is at c.in-Ok-None.ensures)
