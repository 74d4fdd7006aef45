use Rattle.std.proofs.Common.{◌≡◌, ◌++◌, ◌∷◌, [], length, ap, arith}
use Rattle.std.proofs.lemmas.List.{length-append}
use Rattle.rj_line.proofs.SuggestFacts.{each-pushed}
use Rattle.rj_line.specs.Suggested.{IsSuggested}
use Rattle.rj_line.proofs.suggest.columns.kinds_of.Goals as goal

pub loop-col-preserved : goal.loop-col-preserved
loop-col-preserved c =
    let before = c.loop-col.kinds.items in
    let pushed : c.push.new.self.items ≡ before ++ c.kind_of.result ∷ [] = c.in_ok-push.ensures.items in
    record {
      count = omega (arith, ap length pushed, length-append before (c.kind_of.result ∷ []), c.loop-col.invariant.count);
      each = λ col kind is.
          each-pushed (IsSuggested c.args.table.now) before c.loop-col.col c.kind_of.result c.loop-col.invariant.count c.kind_of.ensures c.loop-col.invariant.each
          col kind (rw (← pushed) is);
      end = c.loop-col.invariant.end;
    }
