use Rattle.std.proofs.lemmas.Result.{IfErr-weaker, IfOk-weaker}
use Rattle.shards.specs.Heads.{HasHead, HasHeadFault}
use Rattle.shards.proofs.StorageFacts.{told-fault, told-head, unopened}
use Rattle.shards.proofs.storage.read_head.Goals as goal

pub returns-in-Ok-clause-head : goal.returns-in-Ok-clause-head
returns-in-Ok-clause-head g c =
    let file = g.S.Storage.holds c.args.storage.now c.args.name.now in
    let tells = g.S.Reader.Input.tells c.in-Ok.input in
    IfOk-weaker c.read_head_of.result _ (HasHead c.args.strict c.args.delimiter file)
    (λ h is. told-head c.args.strict c.args.delimiter file tells h c.in-Ok.ensures.bytes is) c.read_head_of.ensures.head

pub returns-in-Ok-clause-fault : goal.returns-in-Ok-clause-fault
returns-in-Ok-clause-fault g c =
    let file = g.S.Storage.holds c.args.storage.now c.args.name.now in
    let tells = g.S.Reader.Input.tells c.in-Ok.input in
    IfErr-weaker c.read_head_of.result _ (HasHeadFault c.args.strict c.args.delimiter c.args.side file)
    (λ f is. told-fault c.args.strict c.args.delimiter c.args.side file tells f c.in-Ok.ensures.bytes is) c.read_head_of.ensures.fault

pub returns-in-Err-clause-fault : goal.returns-in-Err-clause-fault
returns-in-Err-clause-fault g c =
    unopened c.args.strict c.args.delimiter c.args.side (g.S.Storage.holds c.args.storage.now c.args.name.now) c.in-Err.fault c.in-Err.ensures.fault
