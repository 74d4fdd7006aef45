use Rattle.std.proofs.Common.{◌∙◌, arith, sym}
use Rattle.rj_columns.specs.Internal.Packed.{texts_from}
use Rattle.rj_columns.proofs.PackFacts.{bounds, texts-utf8}
use Rattle.rj_columns.proofs.TextFacts.{row-inside, shown-null, shown-text}
use Rattle.rj_columns.proofs.texts.Texts.get.Goals as goal

pub start-requires : goal.start-requires
start-requires c =
    let low = row-inside c.self.inside.bytes.items c.self.inside.ends c.self.inside.nulls.items c.args.i (rw (← c.self.view_is) at c.requires) in
    omega (arith, low)

pub end-requires : goal.end-requires
end-requires c = row-inside c.self.inside.bytes.items c.self.inside.ends c.self.inside.nulls.items c.args.i (rw (← c.self.view_is) at c.requires)

pub slice_bounds-bytes-count : goal.slice_bounds-bytes-count
slice_bounds-bytes-count c =
    let low = row-inside c.self.inside.bytes.items c.self.inside.ends c.self.inside.nulls.items c.args.i (rw (← c.self.view_is) at c.requires) in
    let within = bounds c.self.inside.bytes.items c.self.inside.ends (texts_from 0 c.self.inside.bytes.items c.self.inside.ends) c.args.i c.self.invariant.texts low in
    rw (c.start.ensures, c.end.ensures) within.0

pub slice_bounds-bytes-start : goal.slice_bounds-bytes-start
slice_bounds-bytes-start c = slice_bounds-bytes-count c

pub slice_bounds-bytes-end : goal.slice_bounds-bytes-end
slice_bounds-bytes-end c =
    let low = row-inside c.self.inside.bytes.items c.self.inside.ends c.self.inside.nulls.items c.args.i (rw (← c.self.view_is) at c.requires) in
    let within = bounds c.self.inside.bytes.items c.self.inside.ends (texts_from 0 c.self.inside.bytes.items c.self.inside.ends) c.args.i c.self.invariant.texts low in
    rw (c.end.ensures, c.as_slice.ensures.value) within.1

pub returns-then-is_marked : goal.returns-then-is_marked
returns-then-is_marked c =
    let low = row-inside c.self.inside.bytes.items c.self.inside.ends c.self.inside.nulls.items c.args.i (rw (← c.self.view_is) at c.requires) in
    let mark = sym c.is_marked.ensures ∙ c.if-is_marked.true in
    rw (← c.self.view_is) (shown-null c.self.inside.bytes.items c.self.inside.ends c.self.inside.nulls.items c.args.i low mark)

pub from_utf8_unchecked-requires : goal.from_utf8_unchecked-requires
from_utf8_unchecked-requires c =
    let low = row-inside c.self.inside.bytes.items c.self.inside.ends c.self.inside.nulls.items c.args.i (rw (← c.self.view_is) at c.requires) in
    rw (c.start.ensures, c.end.ensures, c.as_slice.ensures.value) (texts-utf8 c.self.inside.bytes.items c.self.inside.ends c.args.i c.self.invariant.texts low)

pub returns : goal.returns
returns c =
    let low = row-inside c.self.inside.bytes.items c.self.inside.ends c.self.inside.nulls.items c.args.i (rw (← c.self.view_is) at c.requires) in
    let mark = sym c.is_marked.ensures ∙ c.if-is_marked.false in
    rw (← c.self.view_is)
    (shown-text c.self.inside.bytes.items c.self.inside.ends c.self.inside.nulls.items c.args.i c.from_utf8_unchecked.result.now low mark
    (c.from_utf8_unchecked.ensures ∙ rw (c.start.ensures, c.end.ensures, c.as_slice.ensures.value)))
