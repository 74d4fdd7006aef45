use Rattle.std.proofs.Common.{◌≡◌, ◌∙◌, ◌++◌, ◌∷◌, [], map, sym, ap, subst}
use Rattle.std.specs.Prelude.{All}
use Rattle.std.specs.Vec.Iter.{into_iter_items}
use Rattle.std.proofs.lemmas.List.Elements.{All-tail}
use Rattle.rj_columns.specs.Internal.Placed.{segments_in}
use Rattle.rj_columns.specs.Internal.Segments.{AreSegments, table_in}
use Rattle.rj_columns.proofs.ConcatFacts.{made-more}
use Rattle.rj_columns.proofs.concat.tables_of_segments.Goals as goal

pub loop-next-preserved : goal.loop-next-preserved
loop-next-preserved c =
    let rest = segments_in (into_iter_items c.next.new.self) in
    let left : into_iter_items c.loop-next.left ≡ c.in-Some.next ∷ into_iter_items c.next.new.self = c.in-Some.ensures.items in
    record {
      lawful =
          All-tail (AreSegments c.args.names.now []) c.in-Some.next.segment (segments_in (into_iter_items c.next.new.self))
          (subst (λ l. All (AreSegments c.args.names.now []) (segments_in l)) left c.loop-next.invariant.lawful);
      made =
          made-more c.args.names.now c.loop-next.tables.items c.push.new.self.items (map (table_in c.args.names.now []) c.args.segments) (segments_in (into_iter_items c.next.new.self))
          c.in_ok-table_of_segment.field-0 c.in-Some.next.segment c.in_ok-push.ensures.items c.in_ok-table_of_segment.ensures
          (ap (λ l. c.loop-next.tables.items ++ map (table_in c.args.names.now []) (segments_in l)) (sym left) ∙ c.loop-next.invariant.made);
    }
