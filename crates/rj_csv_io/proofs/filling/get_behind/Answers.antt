use Rattle.std.proofs.Common.{arith, length-take-le}
use borrow.Rule.Slice.PartMut.{take_put}
use Rattle.rj_csv_io.proofs.InputFacts.{consumes-behind}
use Rattle.rj_csv_io.proofs.filling.get_behind.Goals as goal

pub returns-clause-front : goal.returns-clause-front
returns-clause-front g c = take_put _ _ c.args.buffer.now _ (omega (arith, c.requires.room))

pub returns-clause-bytes : goal.returns-clause-bytes
returns-clause-bytes g c =
    consumes-behind _ _ c.get.result _ c.get.new.buffer _ c.args.filled (length-take-le _ c.args.buffer.now (omega (arith, c.requires.room))) c.get.ensures.bound c.get.ensures.bytes
