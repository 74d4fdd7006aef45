use Rattle.std.proofs.Common.{[], arith}
use Rattle.rj_columns.proofs.NullFacts.{no-values}
use Rattle.rj_columns.proofs.PackFacts.{packed, none-packed, no-texts}
use Rattle.rj_columns.proofs.texts.Texts.new.Goals as goal

pub invariant_of-result : goal.invariant_of-result
invariant_of-result c = rw (c.new.ensures.items, c.new-2.ensures, c.new-3.ensures.items) record { texts = packed [] [] [] none-packed; nulls = omega arith }

pub returns : goal.returns
returns c = rw (c.new-2.ensures, no-texts c.new.result.items) (no-values c.new-3.result.items)
