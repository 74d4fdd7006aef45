use Rattle.rj_exchange.proofs.Striping.{gives, accounts, never_full}
use Rattle.rj_exchange.proofs.stripes.calls.give.Goals as goal

pub push_as-requires-clause-rule : goal.push_as-requires-clause-rule
push_as-requires-clause-rule g c = let r = c.requires.view in (gives _ _ _ _ r.0 r.1, accounts _ _ r.0)

pub unreachable-requires : goal.unreachable-requires
unreachable-requires g c = let r = c.requires.view in let f = c.in_default.ensures.rule.2 in never_full _ _ _ f.0 r.1 r.2 f.1 f.2
