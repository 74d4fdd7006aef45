use Rattle.std.proofs.Common.{refl, arith}
use Rattle.rj_columns.proofs.RowFacts.{Filling-start, empty-typed, no-rows}
use Rattle.rj_columns.proofs.segment_builder.SegmentBuilder.new.Goals as goal

pub invariant_of-result : goal.invariant_of-result
invariant_of-result c =
    let columns = c.in_ok-empty_columns.field-0.items in
    let full = c.in_ok-empty_columns.ensures.1 in
    record { filling = Filling-start c.in_ok-empty_columns.field-0.items 0 full; typed = empty-typed c.in_ok-empty_columns.field-0.items full; within = omega arith }

pub returns : goal.returns
returns c = rw (c.in_ok-empty_columns.ensures.0, no-rows) refl
