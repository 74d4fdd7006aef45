use Rattle.std.proofs.Common.{rules, ◌≡◌, ◌∙◌, ◌<◌, ◌≤◌, length}
use Rattle.std.specs.List.{remove_range}
use Rattle.rj_columns.specs.Internal.Packed.{texts_from}
use Rattle.rj_columns.proofs.PackFacts.{bounds}
use Rattle.rj_columns.proofs.TextFacts.{removed-packed, removed-shown, unremoved}
use Rattle.rj_columns.proofs.texts.Texts.remove.Goals as goal

pub drain-requires-clause-start_le_end : goal.drain-requires-clause-start_le_end
drain-requires-clause-start_le_end c =
    let low : c.args.row < length c.self.inside.ends = search rules in
    let within = bounds c.self.inside.bytes.items c.self.inside.ends (texts_from 0 c.self.inside.bytes.items c.self.inside.ends) c.args.row c.self.invariant.texts low in
    rw (c.start-start.ensures, c.end-end.ensures) within.0

pub drain-requires-clause-in_bounds : goal.drain-requires-clause-in_bounds
drain-requires-clause-in_bounds c =
    let low : c.args.row < length c.self.inside.ends = search rules in
    let within = bounds c.self.inside.bytes.items c.self.inside.ends (texts_from 0 c.self.inside.bytes.items c.self.inside.ends) c.args.row c.self.invariant.texts low in
    let inside : c.end-end.result ≤ length c.self.inside.bytes.items = rw c.end-end.ensures within.1 in
    search rules

pub overflow_sub-end : goal.overflow_sub-end
overflow_sub-end c =
    let low : c.args.row < length c.self.inside.ends = search rules in
    let within = bounds c.self.inside.bytes.items c.self.inside.ends (texts_from 0 c.self.inside.bytes.items c.self.inside.ends) c.args.row c.self.invariant.texts low in
    rw (c.start-start.ensures, c.end-end.ensures) within.0

pub invariant_of-self : goal.invariant_of-self
invariant_of-self c =
    let low : c.args.row < length c.self.inside.ends = search rules in
    let bytes : c.drop-drain.new.self.0.items ≡ remove_range c.self.inside.bytes.items c.start-start.result c.end-end.result = c.drop-drain.ensures.items ∙ c.drain.ensures.kept in
    rw (bytes, c.remove.ensures, c.remove_at.ensures)
    (removed-packed c.self.inside.bytes.items c.self.inside.ends c.self.inside.nulls.items c.args.row c.start-start.result c.end-end.result c.self.invariant low c.start-start.ensures c.end-end.ensures)

pub returns-then-row-len : goal.returns-then-row-len
returns-then-row-len c =
    let low : c.args.row < length c.self.inside.ends = search rules in
    let bytes : c.drop-drain.new.self.0.items ≡ remove_range c.self.inside.bytes.items c.start-start.result c.end-end.result = c.drop-drain.ensures.items ∙ c.drain.ensures.kept in
    rw (bytes, c.remove.ensures, c.remove_at.ensures, ← c.self.view_is)
    (removed-shown c.self.inside.bytes.items c.self.inside.ends c.self.inside.nulls.items c.args.row c.start-start.result c.end-end.result c.self.invariant low c.start-start.ensures c.end-end.ensures)

pub returns-else-row-len : goal.returns-else-row-len
returns-else-row-len c =
    let all : length c.self.inside.ends ≤ c.args.row = search rules in
    rw (← c.self.view_is) (unremoved c.self.inside.bytes.items c.self.inside.ends c.self.inside.nulls.items c.args.row all)
