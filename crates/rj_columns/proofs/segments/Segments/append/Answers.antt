use Rattle.std.proofs.Common.{◌∙◌, ◌++◌, ap, sym}
use Rattle.std.specs.Vec.Iter.{into_iter_items}
use Rattle.rj_columns.specs.Internal.Placed.{segments_in}
use Rattle.rj_columns.proofs.SegmentFacts.{next-fits}
use Rattle.rj_columns.proofs.segments.Segments.append.Goals as goal

pub push-requires : goal.push-requires
push-requires c =
    let rest = segments_in (into_iter_items c.next.new.self) in
    next-fits c.loop-next.self rest c.args.self.now c.args.other c.in-Some.next.segment _ (ap (λ l. c.loop-next.self ++ segments_in l) (sym c.in-Some.ensures.items) ∙ c.loop-next.invariant) c.requires
