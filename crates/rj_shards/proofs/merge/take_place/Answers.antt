use Rattle.std.proofs.Common.{◌≡◌, ◌+◌, ◌<◌, ◌∷◌, ◌∙◌, Some, true, refl, sym, ap, subst, inl, inr, arith, min}
use Rattle.std.specs.List.Sorted.{IsPermutation}
use Rattle.std.specs.Option.{option_to_list}
use Rattle.std.specs.BinaryHeap.{heap_items}
use Rattle.std.proofs.lemmas.List.Elements.{All-head, All-tail}
use Rattle.std.proofs.lemmas.List.Sorted.{Contains-permutation, IsPermutation-refl, IsPermutation-sym, IsPermutation-trans}
use Rattle.rj_shards.specs.Copies.{needed}
use Rattle.rj_shards.specs.Merging.{AllTell, AreAmong, Passes, faults_of_heads, rows_of_heads}
use Rattle.rj_shards.specs.Places.{IsAbove, IsNotBelow}
use Rattle.rj_shards.proofs.HeadFacts.{faults_taken, has_fault, holds_first, holds_rest, rows_taken}
use Rattle.rj_shards.proofs.PlaceFacts.{not_below}
use Rattle.rj_shards.proofs.ToldFacts.{told_among}
use Rattle.rj_shards.proofs.MergeTakenFacts.{Takes, passes_short, passes_whole, takes_first, takes_more, takes_often}
use Rattle.rj_shards.proofs.merge.take_place.Goals.{then-times-needed, else-times-needed}
use Rattle.rj_shards.proofs.merge.take_place.Goals as goal

pub returns-in-Err-clause-fault : goal.returns-in-Err-clause-fault
returns-in-Err-clause-fault g c = λ out all.
    let old = heap_items c.args.heads.now in
    let first = c.args.first in
    let tells = All-head (λ h. g.S.Source.tells h.source) first old all in
    let spared = c.with_spare.ensures in
    inl (has_fault g.S.Source.copies g.S.Source.reading (first ∷ old) old first c.in-Err.e (IsPermutation-refl (first ∷ old)) (rw spared.reading at (c.in-Err.ensures.fault out (spared.tells tells))))

pub returns-in-Err-clause-input : goal.returns-in-Err-clause-input
returns-in-Err-clause-input g c = λ numbers all.
    told_among numbers _ c.in-Err.e c.in-Err.ensures.input
    (subst (λ n. numbers n ≡ true) (sym c.with_spare.ensures.number) (All-head (λ h. numbers (g.S.Source.number h.source) ≡ true) c.args.first (heap_items c.args.heads.now) all))

pub heads-init : goal.heads-init
heads-init g c =
    let old = heap_items c.args.heads.now in
    let new = heap_items c.put_next.new.heads in
    let first = c.args.first in
    let place = first.next.place in
    let number : c.needed-needed.result ≡ needed (g.S.Source.copies first.source) place = c.needed-needed.ensures.needed ∙ ap (λ k. needed k place) c.copies.ensures in
    let spared = c.with_spare.ensures in
    let newest = spared.last ∙ All-head (λ h. g.S.Source.last h.source ≡ Some h.next.place) first old c.requires.newest in
    let first_tells = λ (all : AllTell g.S.Source.tells (first ∷ old)). spared.tells (All-head (λ h. g.S.Source.tells h.source) first old all) in
    record {
      small = c.needed-needed.ensures.small;
      heap = c.in-Ok.ensures.heap c.requires.heap;
      newest = c.in-Ok.ensures.newest (All-tail (λ h. g.S.Source.last h.source ≡ Some h.next.place) first old c.requires.newest);
      low = c.in-Ok.ensures.above (Some place) (λ p up. not_below (Some place) p (subst (λ l. IsAbove l p) newest up)) c.requires.low;
      tells = λ all. c.in-Ok.ensures.tells (first_tells all) (All-tail (λ h. g.S.Source.tells h.source) first old all);
      among = λ numbers all.
          c.in-Ok.ensures.among numbers (subst (λ n. numbers n ≡ true) (sym spared.number) (All-head (λ h. numbers (g.S.Source.number h.source) ≡ true) first old all))
          (All-tail (λ h. numbers (g.S.Source.number h.source) ≡ true) first old all);
      rows = λ all.
          subst (λ n. Takes first.next n 1 (rows_of_heads g.S.Source.copies g.S.Source.reading (first ∷ old)) (rows_of_heads g.S.Source.copies g.S.Source.reading new)) (sym number)
          (takes_first (g.S.Source.copies first.source) first.next _ _
          (rows_taken g.S.Source.copies g.S.Source.reading (first ∷ old) old first new (IsPermutation-refl (first ∷ old)) (rw (spared.copies, spared.reading) at (c.in-Ok.ensures.rows (first_tells all)))));
      faults = λ all.
          faults_taken g.S.Source.copies g.S.Source.reading (first ∷ old) old first new (IsPermutation-refl (first ∷ old)) (rw spared.reading at (c.in-Ok.ensures.faults (first_tells all)));
    }

pub returns-in_default-clause-rows : goal.returns-in_default-clause-rows
returns-in_default-clause-rows g c = λ all passed up.
    let first = c.args.first in
    let before = rows_of_heads g.S.Source.copies g.S.Source.reading (first ∷ heap_items c.args.heads.now) in
    let kept = heap_items c.heads.heads in
    let taken = c.heads.invariant.rows all in
    subst (λ l. Passes passed (Some first.next.place) before (rows_of_heads g.S.Source.copies g.S.Source.reading l) (option_to_list c.if-times-needed.result)) (sym c.in_default.ensures.none)
    (elim c.if-times-needed.branch [
      | then-times-needed w ↦ subst (λ o. Passes passed (Some first.next.place) before (rows_of_heads g.S.Source.copies g.S.Source.reading kept) (option_to_list o)) (sym w.result-is)
          (passes_whole first.next c.heads.needed c.heads.times before (rows_of_heads g.S.Source.copies g.S.Source.reading kept) taken passed up w.if-times-needed.true)
      | else-times-needed w ↦
          let test = c.heads-test.true in
          let other = w.if-times-needed.false in
          let low : c.heads.times < c.heads.needed = omega arith in
          subst (λ o. Passes passed (Some first.next.place) before (rows_of_heads g.S.Source.copies g.S.Source.reading kept) (option_to_list o)) (sym w.result-is)
          (passes_short first.next c.heads.needed c.heads.times before (rows_of_heads g.S.Source.copies g.S.Source.reading kept) taken passed up low)
    ])

pub returns-in-Err-put_next-clause-fault : goal.returns-in-Err-put_next-clause-fault
returns-in-Err-put_next-clause-fault g c = λ out all.
    let kept = heap_items c.heads.heads in
    let before = faults_of_heads g.S.Source.reading (c.args.first ∷ heap_items c.args.heads.now) in
    let tells = holds_first (λ h. g.S.Source.tells h.source) kept _ c.in-Some.head c.in-Some.ensures.taken (c.heads.invariant.tells all) in
    inl (Contains-permutation (faults_of_heads g.S.Source.reading kept) before c.in-Err-put_next.e (IsPermutation-sym before (faults_of_heads g.S.Source.reading kept) (c.heads.invariant.faults all))
    (has_fault g.S.Source.copies g.S.Source.reading kept _ c.in-Some.head c.in-Err-put_next.e c.in-Some.ensures.taken (c.in-Err-put_next.ensures.fault out tells)))

pub returns-in_default-clause-among : goal.returns-in_default-clause-among
returns-in_default-clause-among g c = λ numbers all.
    subst (λ l. AreAmong g.S.Source.number numbers l) (sym c.in_default.ensures.none) (c.heads.invariant.among numbers all)

pub returns-in-Err-put_next-clause-input : goal.returns-in-Err-put_next-clause-input
returns-in-Err-put_next-clause-input g c = λ numbers all.
    told_among numbers _ c.in-Err-put_next.e c.in-Err-put_next.ensures.input
    (holds_first (λ h. numbers (g.S.Source.number h.source) ≡ true) (heap_items c.heads.heads) _ c.in-Some.head c.in-Some.ensures.taken (c.heads.invariant.among numbers all))

pub heads-preserved : goal.heads-preserved
heads-preserved g c =
    let first = c.args.first in
    let place = first.next.place in
    let head = c.in-Some.head in
    let kept = heap_items c.heads.heads in
    let rest = heap_items c.pop_at.new.heads in
    let new = heap_items c.put_next-in-heads.new.heads in
    let inv = c.heads.invariant in
    let taken : IsPermutation kept (head ∷ rest) = c.in-Some.ensures.taken in
    let newest : g.S.Source.last head.source ≡ Some place = holds_first (λ h. g.S.Source.last h.source ≡ Some h.next.place) kept rest head taken inv.newest ∙ ap Some c.in-Some.ensures.place in
    let own : c.needed.result ≡ needed (g.S.Source.copies head.source) place = c.needed.ensures.needed ∙ ap (λ k. needed k place) c.copies-in-heads.ensures in
    let least : c.min-needed.result ≡ min c.heads.needed (needed (g.S.Source.copies head.source) place) = c.min-needed.ensures ∙ ap (λ n. min c.heads.needed n) own in
    let before = rows_of_heads g.S.Source.copies g.S.Source.reading (first ∷ heap_items c.args.heads.now) in
    record {
      small = let small = inv.small in omega (arith, least, small);
      heap = c.in-Ok-put_next.ensures.heap (c.pop_at.ensures.heap inv.heap);
      newest = c.in-Ok-put_next.ensures.newest (holds_rest (λ h. g.S.Source.last h.source ≡ Some h.next.place) kept rest head taken inv.newest);
      low = c.in-Ok-put_next.ensures.above (Some place) (λ p up. not_below (Some place) p (subst (λ l. IsAbove l p) newest up))
          (holds_rest (λ h. IsNotBelow (Some place) h.next.place) kept rest head taken inv.low);
      tells = λ all.
          let t = inv.tells all in
          c.in-Ok-put_next.ensures.tells (holds_first (λ h. g.S.Source.tells h.source) kept rest head taken t) (holds_rest (λ h. g.S.Source.tells h.source) kept rest head taken t);
      among = λ numbers all.
          let t = inv.among numbers all in
          c.in-Ok-put_next.ensures.among numbers (holds_first (λ h. numbers (g.S.Source.number h.source) ≡ true) kept rest head taken t)
          (holds_rest (λ h. numbers (g.S.Source.number h.source) ≡ true) kept rest head taken t);
      rows = λ all.
          let tells = holds_first (λ h. g.S.Source.tells h.source) kept rest head taken (inv.tells all) in
          subst (λ n. Takes first.next n (c.heads.times + 1) before (rows_of_heads g.S.Source.copies g.S.Source.reading new)) (sym least)
          (takes_more first.next c.heads.needed c.heads.times before (rows_of_heads g.S.Source.copies g.S.Source.reading kept) (rows_of_heads g.S.Source.copies g.S.Source.reading new) (inv.rows all)
          (g.S.Source.copies head.source) head.next c.in-Some.ensures.place
          (rows_taken g.S.Source.copies g.S.Source.reading kept rest head new taken (c.in-Ok-put_next.ensures.rows tells)));
      faults = λ all.
          let tells = holds_first (λ h. g.S.Source.tells h.source) kept rest head taken (inv.tells all) in
          IsPermutation-trans (faults_of_heads g.S.Source.reading (first ∷ heap_items c.args.heads.now)) (faults_of_heads g.S.Source.reading kept) (faults_of_heads g.S.Source.reading new) (inv.faults all)
          (faults_taken g.S.Source.copies g.S.Source.reading kept rest head new taken (c.in-Ok-put_next.ensures.faults tells));
    }

pub returns-clause-fault : goal.returns-clause-fault
returns-clause-fault g c = λ out all.
    inr (c.args.first.next.place, refl, takes_often c.args.first.next c.heads.needed c.heads.times _ _ (c.heads.invariant.rows all) c.heads-test.false)
