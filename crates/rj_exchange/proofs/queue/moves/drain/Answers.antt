use Rattle.std.proofs.Common.{◌≡◌, ◌∷◌, ◌++◌, length, subst, arith}
use Rattle.crossbeam_queue.specs.Passes.{view}
use Rattle.rj_exchange.specs.declared.queue.Trace.{Trace}
use Rattle.rj_exchange.specs.Passing.{Interleaves}
use Rattle.rj_exchange.proofs.Of.{room}
use Rattle.rj_exchange.proofs.queue.moves.drain.Goals as goal

pub push_reserved-requires : goal.push_reserved-requires
push_reserved-requires g c = let v = view c.args.pass.now in let look = c.len_as.ensures.rule in let found = look.1 in let told = c.in-Some-take.ensures.view.2 in let x = c.in-Some-take.posted in let i = c.loop.invariant in
    let all = c.requires.view.1 in
    let now = subst (λ (u : Trace). length u.known ≡ u.made → Interleaves u.known (u.taken ++ x ∷ told.0)) i.view told.1.1.1 all in
    let less = room v.known v.taken found.0 c.loop.rest.items told.0 x (found.2.1.1 all) now in let n = found.1 in let m = look.0 in let r = i.room in omega (arith, c.loop.rest.ok)
