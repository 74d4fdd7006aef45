use Rattle.std.proofs.Common.{◌≡◌, ◌∙◌, ◌∷◌, sym, ap, subst}
use Rattle.std.specs.Vec.Iter.{into_iter_items}
use Rattle.rj_columns.specs.Tables.{AreAlike, concatenated}
use Rattle.rj_columns.proofs.ConcatFacts.{alike-joined, same-joined}
use Rattle.rj_columns.proofs.table.Table.concat.Goals as goal

pub loop-part-preserved : goal.loop-part-preserved
loop-part-preserved c =
    let left : into_iter_items c.loop-part.left ≡ c.in-Some-next.part ∷ into_iter_items c.next-in-loop-part.new.self = c.in-Some-next.ensures.items in
    record {
      alike =
          alike-joined c.loop-part.whole c.in-Some-next.part c.in_ok-whole.whole (into_iter_items c.next-in-loop-part.new.self)
          (subst (λ l. AreAlike (c.loop-part.whole ∷ l)) left c.loop-part.invariant.alike) c.in_ok-whole.ensures;
      same =
          same-joined c.loop-part.whole c.in-Some-next.part c.in_ok-whole.whole (into_iter_items c.next-in-loop-part.new.self) c.in_ok-whole.ensures
          ∙ (ap (λ l. concatenated (c.loop-part.whole ∷ l)) (sym left) ∙ c.loop-part.invariant.same);
    }
