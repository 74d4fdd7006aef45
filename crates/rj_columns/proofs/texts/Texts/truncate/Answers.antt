use Rattle.std.proofs.Common.{rules, ◌<◌, ◌≤◌, length}
use Rattle.rj_columns.proofs.TextFacts.{cut-packed, cut-shown, uncut}
use Rattle.rj_columns.proofs.texts.Texts.truncate.Goals as goal

pub invariant_of-self : goal.invariant_of-self
invariant_of-self c =
    let low : c.args.rows < length c.self.inside.ends = search rules in
    rw (c.truncate.ensures.items, c.truncate-then-rows-len.ensures, c.truncate-then-rows-len-2.ensures.items)
    (cut-packed c.self.inside.bytes.items c.self.inside.ends c.self.inside.nulls.items c.args.rows c.start.result c.self.invariant low c.start.ensures)

pub returns-then-rows-len : goal.returns-then-rows-len
returns-then-rows-len c =
    let low : c.args.rows < length c.self.inside.ends = search rules in
    rw (c.truncate.ensures.items, c.truncate-then-rows-len.ensures, c.truncate-then-rows-len-2.ensures.items, ← c.self.view_is)
    (cut-shown c.self.inside.bytes.items c.self.inside.ends c.self.inside.nulls.items c.args.rows c.start.result c.self.invariant low c.start.ensures)

pub returns-else-rows-len : goal.returns-else-rows-len
returns-else-rows-len c =
    let all : length c.self.inside.ends ≤ c.args.rows = search rules in
    rw (← c.self.view_is) (uncut c.self.inside.bytes.items c.self.inside.ends c.self.inside.nulls.items c.args.rows all)
