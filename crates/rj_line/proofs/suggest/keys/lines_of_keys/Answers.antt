use Rattle.std.proofs.Common.{◌∙◌, ◌<◌, arith, false, length, slice_index_or}
use Rattle.std.proofs.lemmas.List.{drop_more}
use Rattle.rj_line.proofs.KeyFacts.{key-lines-step}
use Rattle.rj_line.proofs.suggest.keys.lines_of_keys.Goals as goal

pub loop-col-preserved : goal.loop-col-preserved
loop-col-preserved c =
    let col = c.loop-col.col in
    let keys = c.args.keys.now in
    let inside : col < length keys = omega (arith, c.loop-col-test.true, c.loop-col.invariant.end, c.requires.keys) in
    record {
      so_far = key-lines-step keys c.args.table.now.names c.args.kinds.now col (slice_index_or keys col false) c.name.result.now c.index-kinds-col.result
          c.loop-col.lines.items c.push_key_line.new.out.items
          inside
          (omega (arith, c.loop-col-test.true, c.loop-col.invariant.end, c.loop-col.invariant.names))
          (omega (arith, c.loop-col-test.true, c.loop-col.invariant.end, c.requires.kinds))
          (drop_more keys col false inside) c.name.ensures c.index-kinds-col.is c.in_ok-push_key_line.ensures ∙ c.loop-col.invariant.so_far;
      end = c.loop-col.invariant.end;
      names = c.loop-col.invariant.names;
    }
