use Rattle.std.proofs.Common.{◌∙◌, ◌<◌, refl, arith, length}
use Rattle.std.proofs.KnownBytes.{Appends-nil, Appends-trans}
use Rattle.rj_csv_io.proofs.RowPartFacts.{concat-take}
use Rattle.rj_csv_io.proofs.texts.put_all.Goals as goal

pub loop-i-init : goal.loop-i-init
loop-i-init g c = record { told = Appends-nil (g.O.Output.told c.args.output.now); count = refl; end = refl }

pub loop-i-preserved : goal.loop-i-preserved
loop-i-preserved g c =
    let h : c.loop-i.i < length c.args.texts.now = omega (arith, c.loop-i-test.true, c.loop-i.invariant.end) in
    let step = concat-take c.args.texts.now c.loop-i.i c.index-texts-i.result h c.index-texts-i.is in
    let put = rw c.as_slice.ensures.value at c.in_ok-put.ensures.ok in
    record {
      told = rw step (Appends-trans (g.O.Output.told c.args.output.now) (g.O.Output.told c.loop-i.output) (g.O.Output.told c.put.new.self) _ _ c.loop-i.invariant.told put);
      count = c.in_ok-put.ensures.kept ∙ c.loop-i.invariant.count;
      end = c.loop-i.invariant.end;
    }
