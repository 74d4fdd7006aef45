use Rattle.std.proofs.Common.{Ok, ap, arith, length}
use Rattle.shards.proofs.StorageFacts.{none-taken, read-fault, taken-first, whole-or-long}
use Rattle.shards.proofs.storage.read_beginning.Goals as goal

pub returns-in-Ok-read_up_to-clause-beginning : goal.returns-in-Ok-read_up_to-clause-beginning
returns-in-Ok-read_up_to-clause-beginning g c =
    let file = g.S.Storage.holds c.args.storage.now c.args.name.now in
    let tells = g.S.Reader.Input.tells c.in-Ok.input in
    let left = g.S.Reader.Input.tells c.read_up_to.new.input in
    let bytes = c.read_up_to.new.bytes in
    let is = c.in-Ok-read_up_to in
    taken-first file tells left bytes.items c.in-Ok.ensures.bytes (is.ensures.bytes tells (rw c.new-bytes.ensures.items (none-taken tells)))
    (whole-or-long is._is_whole (length bytes.items) left (λ whole. is.ensures.end (ap Ok whole)) (λ part. omega (arith, is.ensures.full (ap Ok part), bytes.ok.0)))

pub returns-clause-fault : goal.returns-clause-fault
returns-clause-fault g c =
    read-fault c.args.side c.in-Err-read_up_to.refused c.fault_of_read.result c.in-Err-read_up_to.ensures.fault c.fault_of_read.ensures
