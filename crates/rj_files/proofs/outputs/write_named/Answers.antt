use Rattle.std.proofs.Common.{inr}
use Rattle.std.proofs.lemmas.Result.{IfErr-weaker}
use Rattle.rj_files.proofs.outputs.write_named.Goals as goal

pub returns-in-None-clause-asked : goal.returns-in-None-clause-asked
returns-in-None-clause-asked g c asks =
    IfErr-weaker c.write_streams-written.result.0 _ _ (λ e told other. inr (told other)) (c.write_streams-written.ensures.asked asks)
