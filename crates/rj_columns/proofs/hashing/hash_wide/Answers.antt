use Rattle.std.proofs.Common.{◌-◌, None, Some, ℤ, map, get_or, ap, sym, rules, w64, ◌∙◌}
use Rattle.std.proofs.Math.Facts.{to_z-of_z}
use Rattle.std.proofs.lemmas.List.{get_or-map, length-map}
use lib.IntN.{pos}
use mir.Val.{SFits}
use Rattle.rj_columns.specs.Contents.{nothing, whole}
use Rattle.rj_columns.specs.Internal.Stores.{number_content}
use Rattle.rj_columns.proofs.HashFacts.{inside, Taking-none, Taking-more, Taking-all}
use Rattle.rj_columns.proofs.hashing.hash_wide.Goals as goal

pub loop-i-init : goal.loop-i-init
loop-i-init g c = Taking-none (g.H.CellHash.added c.args.by.now) (λ r. get_or (map number_content (map Some c.args.values.now)) (r - c.args.from) nothing) c.args.rows.now c.args.hashes.now

pub loop-i-preserved : goal.loop-i-preserved
loop-i-preserved g c =
    let low = inside (c.requires.rows c.loop-i.i 0 c.loop-i-test.true) in
    let row = get_or c.args.rows.now c.loop-i.i 0 - c.args.from in
    let fit : SFits w64 (get_or c.args.values.now (get_or c.args.rows.now c.loop-i.i 0 - c.args.from) (pos 0)) = search rules in
    let shown = get_or-map number_content (map Some c.args.values.now) row None nothing (rw (length-map c.args.values.now (λ (n : ℤ). Some n)) low) ∙ ap number_content (get_or-map (λ (n : ℤ). Some n) c.args.values.now row (pos 0) None low) in
    Taking-more (g.H.CellHash.added c.args.by.now) (λ r. get_or (map number_content (map Some c.args.values.now)) (r - c.args.from) nothing) c.args.rows.now c.args.hashes.now c.loop-i.hashes c.loop-i.i c.add.result
    (rw c.requires.len c.loop-i-test.true) c.loop-i.invariant (c.add.ensures ∙ ap (g.H.CellHash.added c.args.by.now (get_or c.loop-i.hashes c.loop-i.i None)) (c.int_cell-cell.ensures ∙ (ap whole (to_z-of_z fit) ∙ sym shown)))

pub returns : goal.returns
returns g c = Taking-all (g.H.CellHash.added c.args.by.now) (λ r. get_or (map number_content (map Some c.args.values.now)) (r - c.args.from) nothing) c.args.rows.now c.args.hashes.now c.loop-i.hashes c.loop-i.i c.loop-i-test.false c.loop-i.invariant
