use Rattle.std.proofs.Common.{◌∙◌, ◌<◌, ◌++◌, ap, arith, length, sym, take}
use Rattle.std.specs.List.{concat}
use Rattle.std.proofs.lemmas.List.{take_all}
use Rattle.rj_csv_io.specs.Ends.{but_last}
use Rattle.rj_csv_io.proofs.EndFacts.{concat-next}
use Rattle.rj_csv_io.proofs.ends.text_of_fronts.Goals as goal

pub loop-k-preserved : goal.loop-k-preserved
loop-k-preserved c = record {
  text = λ records same each.
      let k = c.loop-k.k in
      let inside : k < length c.args.fronts.now = omega (arith, c.loop-k-test.true, c.loop-k.invariant.end) in
      let there : k < length records = omega (arith, same, inside) in
      let before = c.loop-k.invariant.text records same each in
      c.in_ok-add_record.ensures
      ∙ ((λ t. before t ++ (but_last (c.get.ensures t) ++ c.get-end.ensures t)) ∙ (ap (λ r. concat (take k records) ++ r) (sym (each k inside)) ∙ sym (concat-next records k there)));
  end = c.loop-k.invariant.end;
}

pub returns : goal.returns
returns c = λ records same each.
    c.loop-k.invariant.text records same each ∙ ap concat (take_all c.loop-k.k records (omega (arith, same, c.loop-k.invariant.end, c.loop-k-test.false)))
