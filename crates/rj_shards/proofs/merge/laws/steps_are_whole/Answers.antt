use Rattle.std.proofs.Common.{subst}
use Rattle.rj_shards.specs.Wholes.{RisesFrom}
use Rattle.rj_shards.proofs.StepFacts.{gave_fault, gave_faultless, gave_merge}
use Rattle.rj_shards.proofs.merge.laws.steps_are_whole.Goals as goal

pub returns : goal.returns
returns g c = record {
  merge = λ inputs rows h. gave_merge g.S.Source.copies g.S.Source.reading inputs rows h;
  faults = λ inputs rows h. gave_faultless g.S.Source.copies g.S.Source.reading inputs rows h;
  fault = λ inputs rows now e h f. gave_fault g.S.Source.copies g.S.Source.reading inputs rows now e h f;
  rises = λ old new row later up more. (up.0, subst (λ p. RisesFrom p later) up.1 more);
}
