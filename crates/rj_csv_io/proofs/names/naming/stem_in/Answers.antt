use Rattle.std.proofs.Common.{◌<◌, length, rules}
use Rattle.rj_csv_io.proofs.NumberFacts.{stem-is, stem-not}
use Rattle.rj_csv_io.proofs.names.naming.stem_in.Goals as goal

pub returns-in-Ok-clause-some : goal.returns-in-Ok-clause-some
returns-in-Ok-clause-some c =
    let some : 0 < length c.args.field.now = search rules in
    (stem-is c.args.field.now some c.if-field-gt-MOST_STEM.false c.in-Ok.ensures.cases.1, c.in-Ok.ensures.cases.0)

pub returns-in-Err-clause-none : goal.returns-in-Err-clause-none
returns-in-Err-clause-none c =
    let some : 0 < length c.args.field.now = search rules in
    stem-not c.args.field.now some c.if-field-gt-MOST_STEM.false c.in-Err.ensures.cases.0
