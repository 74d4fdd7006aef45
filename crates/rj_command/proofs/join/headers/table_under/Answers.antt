use Rattle.std.proofs.Common.{◌∙◌, rules}
use Rattle.rj_csv_io.specs.Pieces.{names_in}
use Rattle.rj_command.proofs.HeaderFacts.{header_made, header_name_fault, header_refused}
use Rattle.rj_command.proofs.join.headers.table_under.Goals as goal

pub returns-in_err-types-clause-fault : goal.returns-in_err-types-clause-fault
returns-in_err-types-clause-fault c =
    let told = header_name_fault c.args.request.now c.args.side c.requires (names_in c.args.header.now) c.types_of.result.now c.types_of.ensures
    c.in_err-types.field-0.0 c.in_err-types.ensures.fault in
    search (rules, told)

pub returns-in-Ok-clause-table : goal.returns-in-Ok-clause-table
returns-in-Ok-clause-table c =
    header_made c.args.request.now c.args.side c.requires (names_in c.args.header.now) c.types_of.result.now c.types_of.ensures c.as_slice.result.now
    c.in_ok-types.ensures.named (c.as_slice.ensures.value ∙ c.in_ok-types.ensures.types) c.in-Ok.table c.in-Ok.ensures.table

pub returns-clause-fault : goal.returns-clause-fault
returns-clause-fault c =
    header_refused c.args.request.now c.args.side c.requires (names_in c.args.header.now) c.types_of.result.now c.types_of.ensures c.as_slice.result.now
    c.in_ok-types.ensures.named (c.as_slice.ensures.value ∙ c.in_ok-types.ensures.types) c.in-Err.refused c.fault_of_read.result c.in-Err.ensures.fault
    c.fault_of_read.ensures
