use Rattle.std.proofs.Common.{Bool, ◌&&◌, nat_lt, ◌∙◌, ap, sym}
use Rattle.rj_exchange.proofs.HeldFacts.{holds_close_below_last, last_from}
use Rattle.rj_exchange.proofs.ledger.intake.holds_close_below.Goals as goal

pub returns-then-is_close : goal.returns-then-is_close
returns-then-is_close c =
    ap (λ (t : Bool). t && nat_lt c.in-Some.last.now c.args.number) (sym c.if-is_close.true ∙ c.is_close.ensures)
    ∙ holds_close_below_last c.args.number c.args.held.now.entries c.requires.0 c.in-Some.last.now c.in-Some.body.now c.requires.1 (last_from c.args.held.now.entries _ _ c.in-Some.ensures.last)

pub returns-else-is_close : goal.returns-else-is_close
returns-else-is_close c =
    c.if-is_close.false
    ∙ ap (λ (t : Bool). t && nat_lt c.in-Some.last.now c.args.number) (sym c.if-is_close.false ∙ c.is_close.ensures)
    ∙ holds_close_below_last c.args.number c.args.held.now.entries c.requires.0 c.in-Some.last.now c.in-Some.body.now c.requires.1 (last_from c.args.held.now.entries _ _ c.in-Some.ensures.last)
