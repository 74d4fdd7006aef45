use Rattle.rj_workers.specs.Sharing.{IsMadeOfEach}
use Rattle.rj_workers.proofs.sharing.make_rest.Given as goal

abbrev pub invariant-loop-number : goal.invariant-loop-number
invariant-loop-number g l = IsMadeOfEach (g.S.Shares.makes l.shares) l.number l.made.items
