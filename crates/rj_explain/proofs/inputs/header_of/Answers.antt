use Rattle.std.proofs.lemmas.Result.{IfOk-weaker}
use Rattle.rj_explain.proofs.InputFacts.{header-is}
use Rattle.rj_explain.proofs.inputs.header_of.Goals as goal

pub returns : goal.returns
returns c =
    let found = rw c.without_bom.ensures at c.of.ensures in
    IfOk-weaker c.of.result _ _ (λ o h. header-is o _ h) found
