use Rattle.std.proofs.Common.{◌≡◌, ◌∷◌, ◌∙◌, [], true, false, Some, None, Option, refl, sym, subst}
use Rattle.std.specs.Option.{is_some}
use Rattle.std.specs.BinaryHeap.{heap_items}
use Rattle.std.proofs.lemmas.Bool.{false≢true}
use Rattle.std.proofs.lemmas.List.Sorted.{All-permutation}
use Rattle.rj_shards.specs.Merging.{AllTell}
use Rattle.rj_shards.specs.Places.{IsAbove}
use Rattle.rj_shards.specs.Steps.{IsStep, stage_of}
use Rattle.rj_shards.proofs.HeadFacts.{holds_first, step_popped}
use Rattle.rj_shards.proofs.PassFacts.{above_on}
use Rattle.rj_shards.proofs.StepFacts.{fault_earlier, step_on, step_same}
use Rattle.rj_shards.proofs.merge.Merge.next.Goals as goal

-- an option that has nothing is none
is_none : {X : Type 0} (o : Option X) → is_some o ≡ false → o ≡ None
is_none None h = refl
is_none (Some x) h = absurd (false≢true (sym h))

pub places-init : goal.places-init
places-init g c = record {
  lawful = c.requires;
  onward = λ place h. h;
  tells = λ all. all;
  among = λ numbers all. all;
  step = λ all. step_same _;
}

pub take_place-requires-clause-newest : goal.take_place-requires-clause-newest
take_place-requires-clause-newest g c =
    All-permutation (λ h. g.S.Source.last h.source ≡ Some h.next.place) (heap_items c.places.self.heads) (c.in-Some.head ∷ heap_items c.pop.new.self) c.in-Some.ensures.permutation c.places.invariant.lawful.newest

pub returns-in-Err-clause-fault : goal.returns-in-Err-clause-fault
returns-in-Err-clause-fault g c = λ out all.
    let heads = heap_items c.places.self.heads in
    let popped = c.in-Some.head ∷ heap_items c.pop.new.self in
    let tell = All-permutation (λ h. g.S.Source.tells h.source) heads popped c.in-Some.ensures.permutation (c.places.invariant.tells all) in
    let stage = stage_of g.S.Source.copies g.S.Source.reading in
    let passed = c.places.self.passed in
    let before = stage c.args.self.now.passed (heap_items c.args.self.now.heads) in
    let step = step_on before (stage passed heads) (stage passed popped) None (c.places.invariant.step all)
    (step_popped g.S.Source.copies g.S.Source.reading heads (heap_items c.pop.new.self) c.in-Some.head passed c.in-Some.ensures.permutation) in
    fault_earlier before (stage passed popped) [] c.in-Err.e step.rows step.faults (c.in-Err.ensures.fault out tell)

pub returns-then-is_some-clause-tells : goal.returns-then-is_some-clause-tells
returns-then-is_some-clause-tells g c = λ all.
    c.in-Ok.ensures.tells
    (All-permutation (λ h. g.S.Source.tells h.source) (heap_items c.places.self.heads) (c.in-Some.head ∷ heap_items c.pop.new.self) c.in-Some.ensures.permutation (c.places.invariant.tells all))

pub returns-in-Err-clause-input : goal.returns-in-Err-clause-input
returns-in-Err-clause-input g c = λ numbers all.
    c.in-Err.ensures.input numbers
    (All-permutation (λ h. numbers (g.S.Source.number h.source) ≡ true) (heap_items c.places.self.heads) (c.in-Some.head ∷ heap_items c.pop.new.self) c.in-Some.ensures.permutation (c.places.invariant.among numbers all))

pub returns-then-is_some-clause-among : goal.returns-then-is_some-clause-among
returns-then-is_some-clause-among g c = λ numbers all.
    c.in-Ok.ensures.among numbers
    (All-permutation (λ h. numbers (g.S.Source.number h.source) ≡ true) (heap_items c.places.self.heads) (c.in-Some.head ∷ heap_items c.pop.new.self) c.in-Some.ensures.permutation (c.places.invariant.among numbers all))

pub returns-then-is_some-clause-step : goal.returns-then-is_some-clause-step
returns-then-is_some-clause-step g c = λ all.
    let heads = heap_items c.places.self.heads in
    let head = c.in-Some.head in
    let rest = heap_items c.pop.new.self in
    let popped = c.in-Some.ensures.permutation in
    let passed = c.places.self.passed in
    let stage = stage_of g.S.Source.copies g.S.Source.reading in
    let tell = All-permutation (λ h. g.S.Source.tells h.source) heads (head ∷ rest) popped (c.places.invariant.tells all) in
    let up = holds_first (λ h. IsAbove passed h.next.place) heads rest head popped c.places.invariant.lawful.above in
    step_on (stage c.args.self.now.passed (heap_items c.args.self.now.heads)) (stage passed heads) (stage (Some head.next.place) (heap_items c.take_place.new.heads)) c.in-Ok.row (c.places.invariant.step all)
    (step_on (stage passed heads) (stage passed (head ∷ rest)) (stage (Some head.next.place) (heap_items c.take_place.new.heads)) c.in-Ok.row (step_popped g.S.Source.copies g.S.Source.reading heads rest head passed popped)
    record { rows = c.in-Ok.ensures.rows tell passed up; faults = c.in-Ok.ensures.faults tell })

pub places-preserved : goal.places-preserved
places-preserved g c =
    let heads = heap_items c.places.self.heads in
    let head = c.in-Some.head in
    let rest = heap_items c.pop.new.self in
    let popped = c.in-Some.ensures.permutation in
    let passed = c.places.self.passed in
    let stage = stage_of g.S.Source.copies g.S.Source.reading in
    let up = holds_first (λ h. IsAbove passed h.next.place) heads rest head popped c.places.invariant.lawful.above in
    let none = is_none c.in-Ok.row (sym c.is_some.ensures ∙ c.if-is_some.false) in
    let tell = λ (all : AllTell g.S.Source.tells (heap_items c.args.self.now.heads)). All-permutation (λ h. g.S.Source.tells h.source) heads (head ∷ rest) popped (c.places.invariant.tells all) in
    record {
      lawful = c.in-Ok.ensures.lawful;
      onward = λ place h. c.places.invariant.onward place (above_on passed head.next.place up place h);
      tells = λ all. c.in-Ok.ensures.tells (tell all);
      among = λ numbers all. c.in-Ok.ensures.among numbers (All-permutation (λ h. numbers (g.S.Source.number h.source) ≡ true) heads (head ∷ rest) popped (c.places.invariant.among numbers all));
      step = λ all.
          step_on (stage c.args.self.now.passed (heap_items c.args.self.now.heads)) (stage passed heads) (stage (Some head.next.place) (heap_items c.take_place.new.heads)) None (c.places.invariant.step all)
          (step_on (stage passed heads) (stage passed (head ∷ rest)) (stage (Some head.next.place) (heap_items c.take_place.new.heads)) None (step_popped g.S.Source.copies g.S.Source.reading heads rest head passed popped)
          (subst (λ o. IsStep (stage passed (head ∷ rest)) o (stage (Some head.next.place) (heap_items c.take_place.new.heads))) none
          record { rows = c.in-Ok.ensures.rows (tell all) passed up; faults = c.in-Ok.ensures.faults (tell all) }));
    }
