use Rattle.std.proofs.Common.{◌∙◌, ap, map}
use Rattle.rj_engine.specs.Cells.{shown_scale}
use Rattle.rj_engine.proofs.Sources.{members-there, columns-there}
use Rattle.rj_engine.proofs.shown.Shown.all.Goals as goal

pub returns-clause-there : goal.returns-clause-there
returns-clause-there c =
    let members = rw (← c.requires.joined) at (members-there c.args.join.now c.args.left.now c.args.right.now) in
    let columns = columns-there c.args.join.now c.args.left.now c.args.right.now c.requires.bound in
    (members, (rw (c.in_ok-origins.ensures, c.partners.ensures, c.columns.ensures.count) columns, c.in_ok-scales.ensures ∙ ap (map (shown_scale c.args.left.now c.args.right.now)) c.deref.ensures.value))

pub scales_of-requires : goal.scales_of-requires
scales_of-requires c =
    rw (c.deref.ensures.value, c.in_ok-origins.ensures, c.partners.ensures, c.columns.ensures.count) (columns-there c.args.join.now c.args.left.now c.args.right.now c.requires.bound)
