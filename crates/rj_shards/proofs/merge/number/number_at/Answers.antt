use Rattle.std.proofs.Common.{sym}
use Rattle.csv.specs.Records.{fields_of}
use Rattle.csv.proofs.RecordFacts.{field-get}
use Rattle.rj_shards.proofs.NumberFacts.{field-none}
use Rattle.rj_shards.proofs.merge.number.number_at.Goals as goal

pub returns-in-Some : goal.returns-in-Some
returns-in-Some c = rw (field-get (fields_of c.args.fields.now) c.args.at c.in-Some.field.now (sym c.in-Some.ensures.value)) c.told_number.ensures

pub returns-in-None : goal.returns-in-None
returns-in-None c = rw (field-none (fields_of c.args.fields.now) c.args.at (sym c.in-None.ensures.value)) c.told_number-in-None.ensures
