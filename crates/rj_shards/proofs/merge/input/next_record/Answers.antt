use Rattle.csv.specs.Records.{fields_of}
use Rattle.rj_shards.proofs.TextFacts.{read-next}
use Rattle.rj_shards.proofs.merge.input.next_record.Goals as goal

pub returns-in-Ok-clause-next : goal.returns-in-Ok-clause-next
returns-in-Ok-clause-next g c = λ between.
    read-next g.R.Read.remaining c.args.reader.now c.read_byte_record.new.self c.in-Ok.found (fields_of c.read_byte_record.new.row) between c.in-Ok.ensures.reads c.in-Ok.ensures.ready
