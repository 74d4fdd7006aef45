use Rattle.std.proofs.Common.{subst, sym}
use Rattle.rj_command.specs.Internal.Prepared.{IsOutcome}
use Rattle.rj_command.proofs.PreparedFacts.{forgotten}
use Rattle.rj_command.proofs.join.expected.join_as_expected.Goals as goal

pub returns-clause-joined : goal.returns-clause-joined
returns-clause-joined g c =
    subst (IsOutcome c.args.request.now c.args.operands.now) (sym c.forget_delivered.ensures)
    (forgotten c.args.request.now c.args.operands.now c.in_ok-joined.joined c.in_ok-joined.ensures)
