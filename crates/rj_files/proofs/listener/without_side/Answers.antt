use Rattle.std.specs.Prelude.{string_bytes}
use Rattle.std.proofs.lemmas.Result.{IfOk-weaker}
use Rattle.rj_files.proofs.ToldFacts.{without}
use Rattle.rj_files.proofs.listener.without_side.Goals as goal

pub returns : goal.returns
returns c = IfOk-weaker c.replacen.result _ _ (λ s told. without c.args.line.now (string_bytes s) told) c.replacen.ensures.ok
