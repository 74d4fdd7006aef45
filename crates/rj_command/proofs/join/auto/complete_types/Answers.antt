use Rattle.std.proofs.Common.{inr}
use Rattle.std.proofs.lemmas.Result.{IfOk-weaker}
use Rattle.rj_command.proofs.join.auto.complete_types.Goals as goal

pub returns : goal.returns
returns c = IfOk-weaker c.take_suggested.result _ _ (λ _ takes. inr (c.if-not-request.false, takes)) c.take_suggested.ensures
