use Rattle.std.proofs.Common.{◌-◌, None, map, get_or, ap, sym, ◌∙◌}
use Rattle.rj_columns.specs.Contents.{nothing}
use Rattle.rj_columns.specs.Internal.Stores.{number_content}
use Rattle.rj_columns.proofs.HashFacts.{inside, Taking-none, Taking-more, Taking-all, shown-at}
use Rattle.rj_columns.proofs.hashing.hash_ints.Goals as goal

pub loop-i-init : goal.loop-i-init
loop-i-init g c = Taking-none (g.H.CellHash.added c.args.by.now) (λ r. get_or (map number_content c.args.numbers.now) (r - c.args.from) nothing) c.args.rows.now c.args.hashes.now

pub loop-i-preserved : goal.loop-i-preserved
loop-i-preserved g c =
    let at = shown-at number_content c.args.numbers.now (get_or c.args.rows.now c.loop-i.i 0 - c.args.from) c.get.result (inside (c.requires.rows c.loop-i.i 0 c.loop-i-test.true)) c.get.ensures in
    Taking-more (g.H.CellHash.added c.args.by.now) (λ r. get_or (map number_content c.args.numbers.now) (r - c.args.from) nothing) c.args.rows.now c.args.hashes.now c.loop-i.hashes c.loop-i.i c.add.result
    (rw c.requires.len c.loop-i-test.true) c.loop-i.invariant (c.add.ensures ∙ ap (g.H.CellHash.added c.args.by.now (get_or c.loop-i.hashes c.loop-i.i None)) (c.int_cell-cell.ensures ∙ sym at))

pub returns : goal.returns
returns g c = Taking-all (g.H.CellHash.added c.args.by.now) (λ r. get_or (map number_content c.args.numbers.now) (r - c.args.from) nothing) c.args.rows.now c.args.hashes.now c.loop-i.hashes c.loop-i.i c.loop-i-test.false c.loop-i.invariant
