use Rattle.std.proofs.Common.{◌≡◌, ◌++◌, ◌∷◌, [], length, ap, arith}
use Rattle.std.proofs.lemmas.List.{length-append}
use Rattle.rj_line.proofs.SuggestFacts.{each-pushed}
use Rattle.rj_line.specs.Misfits.{IsMisfitOf}
use Rattle.rj_line.proofs.suggest.misfits.misfits_of.Goals as goal

pub loop-col-preserved : goal.loop-col-preserved
loop-col-preserved c =
    let before = c.loop-col.misfits.items in
    let new = c.in_ok-misfit.misfit in
    let pushed : c.push.new.self.items ≡ before ++ new ∷ [] = c.in_ok-push.ensures.items in
    record {
      count = omega (arith, ap length pushed, length-append before (new ∷ []), c.loop-col.invariant.count);
      each = λ col misfit is.
          each-pushed (IsMisfitOf c.args.table.now) before c.loop-col.col new c.loop-col.invariant.count c.in_ok-misfit.ensures c.loop-col.invariant.each
          col misfit (rw (← pushed) is);
      end = c.loop-col.invariant.end;
    }
