use Rattle.std.proofs.Common.{◌∙◌, map}
use Rattle.std.specs.Prelude.{string_bytes}
use Rattle.rj_engine.specs.Naming.{HasLawfulNames}
use Rattle.rj_engine.proofs.SelectedNames.{chosen_lawful, chosen_many, listed_lawful}
use Rattle.rj_command.proofs.PreparedFacts.{unnamed}
use Rattle.rj_command.proofs.join.naming.names_of.Goals as goal

pub returns-in-Ok-clause-names : goal.returns-in-Ok-clause-names
returns-in-Ok-clause-names c =
    let o = c.args.operands.now in
    let choice = c.args.request.now.choice in
    let names = map string_bytes c.in-Ok.names.items in
    let written = c.in-Ok.ensures.names in
    let left : HasLawfulNames o.left = (c.columns.ensures.lawful, c.columns.ensures.named ∙ c.columns.ensures.count) in
    let right : HasLawfulNames o.right = (c.columns-2.ensures.lawful, c.columns-2.ensures.named ∙ c.columns-2.ensures.count) in
    record {
      written = written;
      many = chosen_many choice o.join o.left o.right names written;
      lawful = λ other. chosen_lawful choice o.join o.left o.right names c.requires left right other written;
      selected = λ entries listed. listed_lawful choice o.join o.left o.right names entries listed written;
    }

pub returns-in-Err-clause-fault : goal.returns-in-Err-clause-fault
returns-in-Err-clause-fault c =
    let o = c.args.operands.now in
    unnamed c.args.request.now o.join o.left o.right c.in-Err.refused c.fault_of_naming.result c.in-Err.ensures.fault c.fault_of_naming.ensures
