use Rattle.rj_workers.proofs.MadeShares.{each_more}
use Rattle.rj_workers.proofs.sharing.make_rest.Goals as goal

pub loop-number-preserved : goal.loop-number-preserved
loop-number-preserved g c =
    each_more (g.S.Shares.makes c.args.shares.now) c.loop-number.number c.loop-number.made.items c.add_share.new.made.items c.loop-number.invariant c.in_ok-add_share.ensures
