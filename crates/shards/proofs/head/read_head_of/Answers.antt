use Rattle.std.proofs.Common.{◌++◌, Ok, ap, arith, refl, subst, sym}
use Rattle.std.specs.Io.KnownBytes.{Consumes}
use Rattle.shards.proofs.HeadFacts.{continues-by, some-text, told-text, unread}
use Rattle.shards.proofs.head.read_head_of.Goals as goal

pub returns-in-Err-clause-fault : goal.returns-in-Err-clause-fault
returns-in-Err-clause-fault g c =
    let told = some-text (g.I.Input.tells c.args.input.now) in
    (told.0, told.1, unread c.args.strict c.args.delimiter c.args.side told.0 c.in-Err.refused c.fault_of_read.result c.in-Err.ensures.fault c.fault_of_read.ensures)

pub returns-in-Ok-Some-clause-head : goal.returns-in-Ok-Some-clause-head
returns-in-Ok-Some-clause-head g c =
    let bytes = c.as_slice.result.now in
    let tells = g.I.Input.tells c.args.input.now in
    let left = g.I.Input.tells c.read_up_to.new.input in
    let taken = subst (Consumes tells left) (sym c.as_slice.ensures.value) (c.in-Ok.ensures.bytes tells c.loop-turn.invariant.bytes) in
    let told = told-text tells left bytes taken in
    let continues = continues-by c.in-Ok.is_whole bytes told.0 (λ whole. told.2 (c.in-Ok.ensures.end (ap Ok whole)))
    (λ part. omega (arith, c.in-Ok.ensures.full (ap Ok part), c.as_slice.ensures.len, c.loop-turn.invariant.size)) in
    let head = rw c.in-Ok-Some.field-0-is at c.in-Ok-Some.ensures.head in
    (bytes ++ told.0, told.1, head told.0 continues)

pub returns-in-Err-head_in-clause-fault : goal.returns-in-Err-head_in-clause-fault
returns-in-Err-head_in-clause-fault g c =
    let bytes = c.as_slice.result.now in
    let tells = g.I.Input.tells c.args.input.now in
    let left = g.I.Input.tells c.read_up_to.new.input in
    let taken = subst (Consumes tells left) (sym c.as_slice.ensures.value) (c.in-Ok.ensures.bytes tells c.loop-turn.invariant.bytes) in
    let told = told-text tells left bytes taken in
    let continues = continues-by c.in-Ok.is_whole bytes told.0 (λ whole. told.2 (c.in-Ok.ensures.end (ap Ok whole)))
    (λ part. omega (arith, c.in-Ok.ensures.full (ap Ok part), c.as_slice.ensures.len, c.loop-turn.invariant.size)) in
    (bytes ++ told.0, told.1, c.in-Err-head_in.ensures.fault told.0 continues)

pub returns-clause-fault : goal.returns-clause-fault
returns-clause-fault g c =
    let told = some-text (g.I.Input.tells c.args.input.now) in
    (told.0, told.1, λ not. absurd (not refl))
