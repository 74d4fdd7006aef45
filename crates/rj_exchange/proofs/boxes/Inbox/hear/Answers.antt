use Rattle.std.proofs.Common.{◌*◌, ◌+◌, length, get_or, sym, refl, ap, subst, arith}
use Rattle.crossbeam_queue.specs.Passes.{view}
use Rattle.rj_exchange.specs.declared.boxes.Stub.{Stub}
use Rattle.rj_exchange.specs.Boxes.{where_at, IsStubOf}
use Rattle.rj_exchange.specs.Internal.Ends.{IsGrown}
use Rattle.rj_exchange.proofs.Stubs.{stub_self}
use Rattle.rj_exchange.proofs.Hearing.{Grows, counted, still_taken, heard_more, hears_on}
use Rattle.rj_exchange.proofs.boxes.Inbox.hear.Goals as goal

pub round-requires-clause-ends : goal.round-requires-clause-ends
round-requires-clause-ends c = (c.requires.0.takes.many, λ k l s lt. counted _ _ _ k l s c.requires.0 lt)

pub round-requires-clause-stubs : goal.round-requires-clause-stubs
round-requires-clause-stubs c = let given = c.requires.1 in let rest = c.into_iter-left.ensures.rest in let x = c.args.exchange.now in (
  (let a = given.many in let b = ap length rest in omega arith),
  λ k l s lt. subst (λ (z : Stub). IsStubOf (view z.pass).place c.args.outbox (get_or x.queues.items (c.args.self.now.partition * x.lanes + k) l) z) (ap (λ m. get_or m k s) (sym rest))
      (stub_self (where_at x c.args.self.now.partition k) c.args.outbox (get_or x.queues.items (c.args.self.now.partition * x.lanes + k) l) (get_or c.args.stubs.items k s) (given.stubs k l s lt)),
)

grows : (c : goal.After-drop-left) → Grows c.args.exchange.now c.args.self.now (record { partition = c.args.self.now.partition; ends = c.round.new.ends }) c.args.outbox c.args.stubs.items
grows c = let r = c.round.ensures.ends in let x = c.args.exchange.now in record {
  heard = c.requires.0;
  partition = refl;
  given = c.requires.1.many;
  many = r.0;
  grown = λ k l s t u lt. subst (λ (z : Stub). IsGrown (get_or x.queues.items (c.args.self.now.partition * x.lanes + k) l) (get_or c.args.self.now.ends.items k s) z (get_or c.round.new.ends.items k u))
      (ap (λ m. get_or m k t) c.into_iter-left.ensures.rest) (r.1 k l s t u lt);
}

pub returns-clause-same : goal.returns-clause-same
returns-clause-same c = (hears_on _ _ _ _ _ (grows c), refl, still_taken _ _ _ _ _ (grows c))

pub returns-clause-heard : goal.returns-clause-heard
returns-clause-heard c = heard_more _ _ _ _ _ (grows c)
