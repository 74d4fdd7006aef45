use Rattle.std.proofs.Common.{◌++◌, ◌∷◌, [], List, refl}
use Rattle.std.specs.Vec.Iter.{into_iter_items}
use Rattle.rj_workers.proofs.Posts.{next_is, next_len}
use Rattle.rj_workers.proofs.MadeShares.{gathered_more}
use Rattle.rj_workers.proofs.sharing.gather.Goals as goal

pub loop-result-preserved : goal.loop-result-preserved
loop-result-preserved g c =
    let v = c.loop-result.invariant in let xs : List _ = c.loop-result.yielded in let ys : List _ = into_iter_items c.loop-result.result-iterator in
    let zs : List _ = into_iter_items c.next.new.self in let x = c.in-Some.result in let steps = c.in-Some.ensures.steps in record {
      rest = next_is xs ys zs c.args.results.items x steps.0 v.rest;
      rest_len = next_len ys zs x _ _ steps.0 v.rest_len steps.1;
      gathered = gathered_more xs (xs ++ x ∷ []) c.loop-result.draws.items c.push.new.self.items c.loop-result.seats.items c.push-in-loop-result.new.self.items
          c.loop-result.all.items c.append.new.self.items x c.in_ok-drawer.field-0 refl c.in_ok-drawer.was
          c.in_ok-push.ensures.items c.in_ok-push-2.ensures.items c.in_ok-append.ensures.items v.gathered;
    }
