use Rattle.std.proofs.lemmas.Result.{IfOk-weaker}
use Rattle.rj_explain.proofs.joined.paired_line.Goals as goal

pub returns : goal.returns
returns c = IfOk-weaker c.format.result _ _ (λ s told. rw c.in_ok-pairs.ensures at told) c.format.ensures.ok
