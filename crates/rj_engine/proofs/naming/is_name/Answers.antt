use Rattle.std.proofs.Common.{◌<◌, length, rules}
use Rattle.rj_engine.proofs.NamingFacts.{name_by_length}
use Rattle.rj_engine.proofs.naming.is_name.Goals as goal

pub returns-then-not-is_empty : goal.returns-then-not-is_empty
returns-then-not-is_empty c =
    let some : 0 < length c.args.text.now = search rules in
    name_by_length c.args.text.now c.utf8.text some
