use Rattle.std.proofs.Common.{rules, arith}
use Rattle.rj_exchange.proofs.Halting.{looks}
use Rattle.rj_exchange.proofs.halt.Halt.raised.Goals as goal

pub load-requires : goal.load-requires
load-requires c = let s = c.args.seat.now in let t = c.args.self.now in (search rules, (let o = t.one_word.0 in omega arith), looks _ _ _ _ s.whole.1)
