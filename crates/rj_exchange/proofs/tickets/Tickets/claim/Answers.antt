use Rattle.std.proofs.Common.{rules, sym, ap, ◌∙◌, cond, arith}
use Rattle.rj_exchange.proofs.Drawing.{draws}
use Rattle.rj_exchange.proofs.tickets.Tickets.claim.Goals as goal

pub fetch_add-found-requires : goal.fetch_add-found-requires
fetch_add-found-requires c = let s = c.args.seat.now in let t = c.args.self.now in (
  search rules,
  (let o = t.one_word.0 in omega arith),
  draws _ _ _ _ s.whole.1 (s.tells ∙ ap (λ b. cond b 1 0) c.if-seat.false) (c.requires.1 ∙ sym t.limited.0) (let l = t.limited in omega arith) t.few.1,
)
