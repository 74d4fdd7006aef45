use Rattle.std.proofs.Common.{None}
use Rattle.rj_shards.proofs.RangeLaws.{last_fault, ranges_joined}
use Rattle.rj_shards.proofs.merge.laws.ranges_are_whole.Goals as goal

pub returns-clause-text : goal.returns-clause-text
returns-clause-text c = λ how copies texts cuts parts. ranges_joined how copies texts None cuts parts

pub returns-clause-faults : goal.returns-clause-faults
returns-clause-faults c = λ how texts from. last_fault how texts from None
