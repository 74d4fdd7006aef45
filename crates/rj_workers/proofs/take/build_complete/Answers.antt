use Rattle.std.proofs.Common.{◌+◌, ℕ, sym, ap, ◌∙◌}
use Rattle.rj_workers.proofs.Ledgers.{senders_opened}
use Rattle.rj_workers.proofs.take.build_complete.Goals as goal

pub try_build-requires : goal.try_build-requires
try_build-requires g c = let t = c.requires.held.taking in let a = t.1 in senders_opened c.args.held.now.ledger _ _ _ a.0 a.2 ∙ ap (λ (n : ℕ). n + n) (sym c.requires.job)
