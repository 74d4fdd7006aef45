use Rattle.std.proofs.Common.{inl}
use Rattle.std.proofs.lemmas.Result.{IfErr-weaker}
use Rattle.shards.proofs.dividing.print_counts.Goals as goal

pub returns-clause-fault : goal.returns-clause-fault
returns-clause-fault g c = IfErr-weaker c.print_text.result _ _ (λ e is. inl is) c.print_text.ensures.fault
