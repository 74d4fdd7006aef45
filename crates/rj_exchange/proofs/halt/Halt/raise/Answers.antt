use Rattle.std.proofs.Common.{rules, arith}
use Rattle.rj_exchange.proofs.Halting.{raises}
use Rattle.rj_exchange.proofs.HaltSeats.{most_one}
use Rattle.rj_exchange.proofs.halt.Halt.raise.Goals as goal

pub fetch_max-requires : goal.fetch_max-requires
fetch_max-requires c = let s = c.args.seat.now in let t = c.args.self.now in (search rules, (let o = t.one_word.0 in omega arith), raises _ _ _ _ s.whole.1 (most_one _ _ s.tells.0))
