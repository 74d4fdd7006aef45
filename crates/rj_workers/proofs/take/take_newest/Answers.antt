use Rattle.std.proofs.lemmas.List.Elements.{All-set}
use Rattle.rj_workers.specs.Internal.Takes.{IsOwned}
use Rattle.rj_workers.proofs.take.take_newest.Goals as goal

pub returns : goal.returns
returns g c = All-set (IsOwned (g.J.Job.builds c.args.shared.now.job.now) c.args.shared.now) c.args.all.now.items _ c.take_at.new.held c.in_ok-found.ensures c.requires.all
