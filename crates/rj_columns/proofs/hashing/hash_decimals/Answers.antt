use Rattle.std.proofs.Common.{◌-◌, None, map, get_or, ap, sym, subst, ◌∙◌}
use Rattle.std.proofs.lemmas.List.{length-map}
use Rattle.rj_columns.specs.Contents.{IsInLimits, nothing}
use Rattle.rj_columns.specs.Internal.Stores.{decimal_content}
use Rattle.rj_columns.proofs.HashFacts.{inside, Taking-none, Taking-more, Taking-all, shown-at}
use Rattle.rj_columns.proofs.hashing.hash_decimals.Goals as goal

pub loop-i-init : goal.loop-i-init
loop-i-init g c = Taking-none (g.H.CellHash.added c.args.by.now) (λ r. get_or (map (decimal_content c.args.scale) c.args.numbers.now) (r - c.args.from) nothing) c.args.rows.now c.args.hashes.now

pub add-requires : goal.add-requires
add-requires g c =
    let at = shown-at (decimal_content c.args.scale) c.args.numbers.now (get_or c.args.rows.now c.loop-i.i 0 - c.args.from) c.get.result (inside (c.requires.rows c.loop-i.i 0 c.loop-i-test.true)) c.get.ensures in
    let low = inside (c.requires.rows c.loop-i.i 0 c.loop-i-test.true) in
    let size = length-map c.args.numbers.now (decimal_content c.args.scale) in
    subst IsInLimits (at ∙ sym c.decimal_cell-cell.ensures) (c.requires.limits (get_or c.args.rows.now c.loop-i.i 0 - c.args.from) nothing (rw size low))

pub loop-i-preserved : goal.loop-i-preserved
loop-i-preserved g c =
    let at = shown-at (decimal_content c.args.scale) c.args.numbers.now (get_or c.args.rows.now c.loop-i.i 0 - c.args.from) c.get.result (inside (c.requires.rows c.loop-i.i 0 c.loop-i-test.true)) c.get.ensures in
    Taking-more (g.H.CellHash.added c.args.by.now) (λ r. get_or (map (decimal_content c.args.scale) c.args.numbers.now) (r - c.args.from) nothing) c.args.rows.now c.args.hashes.now c.loop-i.hashes c.loop-i.i c.add.result
    (rw c.requires.len c.loop-i-test.true) c.loop-i.invariant (c.add.ensures ∙ ap (g.H.CellHash.added c.args.by.now (get_or c.loop-i.hashes c.loop-i.i None)) (c.decimal_cell-cell.ensures ∙ sym at))

pub returns : goal.returns
returns g c = Taking-all (g.H.CellHash.added c.args.by.now) (λ r. get_or (map (decimal_content c.args.scale) c.args.numbers.now) (r - c.args.from) nothing) c.args.rows.now c.args.hashes.now c.loop-i.hashes c.loop-i.i c.loop-i-test.false c.loop-i.invariant
