use Rattle.std.proofs.Common.{ap, codes, rules}
use Rattle.std.specs.Prelude.{is_some}
use Rattle.clap.specs.Words.{first_value, found_of}
use Rattle.rj_line.specs.Line.{texts_found}
use Rattle.shards.specs.Lines.{GiveTypes, IsTableFault}
use Rattle.shards.proofs.LineFacts.{few_given, gives_types, left_delimiter_fault, right_delimiter_fault, right_nulls_fault}
use Rattle.shards.proofs.line.operands_of.Goals as goal

pub returns-in_err-right_nulls-clause-fault : goal.returns-in_err-right_nulls-clause-fault
returns-in_err-right_nulls-clause-fault c =
    let word = first_value (found_of c.args.matches.now) in
    let texts = texts_found (found_of c.args.matches.now) in
    let types : GiveTypes word = (
      gives_types (word (codes "left-types")) c.text_of.result.now c.in_ok-left_types.left_types.items c.text_of.ensures c.in_ok-left_types.ensures.types,
      gives_types (word (codes "right-types")) c.text_of-2.result.now c.in_ok-right_types.right_types.items c.text_of-2.ensures c.in_ok-right_types.ensures.types,
    ) in
    let few = few_given c.in_ok-left_nulls.left_nulls.items (texts (codes "left-null")) c.text_of-null.result.now c.in_ok-left_nulls.ensures.texts c.in_ok-left_nulls.ensures.few in
    let told : IsTableFault word texts c.in_err-right_nulls.field-0.0 = right_nulls_fault word texts c.in_err-right_nulls.field-0.0 types few c.in_err-right_nulls.ensures.fault in
    search (rules, told)

pub returns-in_err-delimiter_given-clause-fault : goal.returns-in_err-delimiter_given-clause-fault
returns-in_err-delimiter_given-clause-fault c =
    let word = first_value (found_of c.args.matches.now) in
    let texts = texts_found (found_of c.args.matches.now) in
    let types : GiveTypes word = (
      gives_types (word (codes "left-types")) c.text_of.result.now c.in_ok-left_types.left_types.items c.text_of.ensures c.in_ok-left_types.ensures.types,
      gives_types (word (codes "right-types")) c.text_of-2.result.now c.in_ok-right_types.right_types.items c.text_of-2.ensures c.in_ok-right_types.ensures.types,
    ) in
    let left = few_given c.in_ok-left_nulls.left_nulls.items (texts (codes "left-null")) c.text_of-null.result.now c.in_ok-left_nulls.ensures.texts c.in_ok-left_nulls.ensures.few in
    let right = few_given c.in_ok-right_nulls.right_nulls.items (texts (codes "right-null")) c.text_of-null.result.now c.in_ok-right_nulls.ensures.texts c.in_ok-right_nulls.ensures.few in
    let told : IsTableFault word texts c.in_err-delimiter_given.field-0.0 =
    left_delimiter_fault word texts c.in_err-delimiter_given.field-0.0 (types, left, right) c.in_err-delimiter_given.ensures.fault in
    search (rules, told)

pub returns-in_err-delimiter_given-2-clause-fault : goal.returns-in_err-delimiter_given-2-clause-fault
returns-in_err-delimiter_given-2-clause-fault c =
    let word = first_value (found_of c.args.matches.now) in
    let texts = texts_found (found_of c.args.matches.now) in
    let types : GiveTypes word = (
      gives_types (word (codes "left-types")) c.text_of.result.now c.in_ok-left_types.left_types.items c.text_of.ensures c.in_ok-left_types.ensures.types,
      gives_types (word (codes "right-types")) c.text_of-2.result.now c.in_ok-right_types.right_types.items c.text_of-2.ensures c.in_ok-right_types.ensures.types,
    ) in
    let left = few_given c.in_ok-left_nulls.left_nulls.items (texts (codes "left-null")) c.text_of-null.result.now c.in_ok-left_nulls.ensures.texts c.in_ok-left_nulls.ensures.few in
    let right = few_given c.in_ok-right_nulls.right_nulls.items (texts (codes "right-null")) c.text_of-null.result.now c.in_ok-right_nulls.ensures.texts c.in_ok-right_nulls.ensures.few in
    let told : IsTableFault word texts c.in_err-delimiter_given-2.field-0.0 =
    right_delimiter_fault word texts c.in_err-delimiter_given-2.field-0.0 (types, left, right) c.in_err-delimiter_given-2.ensures.fault in
    search (rules, told)

pub returns-clause-given : goal.returns-clause-given
returns-clause-given c =
    let word = first_value (found_of c.args.matches.now) in
    let texts = texts_found (found_of c.args.matches.now) in
    let types : GiveTypes word = (
      gives_types (word (codes "left-types")) c.text_of.result.now c.in_ok-left_types.left_types.items c.text_of.ensures c.in_ok-left_types.ensures.types,
      gives_types (word (codes "right-types")) c.text_of-2.result.now c.in_ok-right_types.right_types.items c.text_of-2.ensures c.in_ok-right_types.ensures.types,
    ) in
    let left = few_given c.in_ok-left_nulls.left_nulls.items (texts (codes "left-null")) c.text_of-null.result.now c.in_ok-left_nulls.ensures.texts c.in_ok-left_nulls.ensures.few in
    let right = few_given c.in_ok-right_nulls.right_nulls.items (texts (codes "right-null")) c.text_of-null.result.now c.in_ok-right_nulls.ensures.texts c.in_ok-right_nulls.ensures.few in
    ((types, left, right), ap is_some c.in_ok-delimiter_given.ensures.delimiter, ap is_some c.in_ok-delimiter_given-2.ensures.delimiter)
