use Rattle.std.proofs.Common.{◌≡◌, ◌∷◌, [], true}
use Rattle.std.specs.Option.{option_to_list}
use Rattle.rj_shards.specs.Copies.{copied}
use Rattle.rj_shards.proofs.HeadFacts.{All-last, fault_first, last_in, last_put}
use Rattle.rj_shards.proofs.ToldFacts.{told_among}
use Rattle.rj_shards.proofs.merge.Merge.open.Goals as goal

pub inputs-preserved : goal.inputs-preserved
inputs-preserved g c = record {
  lawful = c.in-Ok.ensures.lawful;
  passed = c.in-Ok.ensures.passed;
  tells = λ all.
      let t = c.inputs.invariant.tells all in
      let p = All-last g.S.Source.tells _ _ c.in-Some.source c.in-Some.ensures.items t.0 in
      (p.0, c.in-Ok.ensures.tells p.1 t.1);
  among = λ numbers all.
      let t = c.inputs.invariant.among numbers all in
      let p = All-last (λ s. numbers (g.S.Source.number s) ≡ true) _ _ c.in-Some.source c.in-Some.ensures.items t.0 in
      (p.0, c.in-Ok.ensures.among numbers p.1 t.1);
  rows = λ all.
      let t = c.inputs.invariant.tells all in
      let p = All-last g.S.Source.tells _ _ c.in-Some.source c.in-Some.ensures.items t.0 in
      last_put (λ s. copied (g.S.Source.copies s) (g.S.Source.reading s).rows) (λ h. copied (g.S.Source.copies h.source) (h.next ∷ (g.S.Source.reading h.source).rows)) _ _ c.in-Some.source _ _ _ c.in-Some.ensures.items (c.inputs.invariant.rows all) (c.in-Ok.ensures.rows p.1);
  faults = λ all.
      let t = c.inputs.invariant.tells all in
      let p = All-last g.S.Source.tells _ _ c.in-Some.source c.in-Some.ensures.items t.0 in
      last_put (λ s. option_to_list (g.S.Source.reading s).fault) (λ h. option_to_list (g.S.Source.reading h.source).fault) _ _ c.in-Some.source _ _ _ c.in-Some.ensures.items (c.inputs.invariant.faults all) (c.in-Ok.ensures.faults p.1);
}

pub returns-in-Err-clause-fault : goal.returns-in-Err-clause-fault
returns-in-Err-clause-fault g c = λ out all.
    let t = c.inputs.invariant.tells all in
    let p = All-last g.S.Source.tells _ _ c.in-Some.source c.in-Some.ensures.items t.0 in
    last_in (λ s. option_to_list (g.S.Source.reading s).fault) (λ h. option_to_list (g.S.Source.reading h.source).fault) _ _ c.in-Some.source _ _ [] c.in-Err.e c.in-Some.ensures.items (c.inputs.invariant.faults all)
    (fault_first (g.S.Source.reading c.in-Some.source).fault c.in-Err.e (c.in-Err.ensures.fault out p.1))

pub returns-in-Err-clause-input : goal.returns-in-Err-clause-input
returns-in-Err-clause-input g c = λ numbers all.
    let t = c.inputs.invariant.among numbers all in
    told_among numbers _ c.in-Err.e c.in-Err.ensures.input (All-last (λ s. numbers (g.S.Source.number s) ≡ true) _ _ c.in-Some.source c.in-Some.ensures.items t.0).1

pub returns-clause-among : goal.returns-clause-among
returns-clause-among g c = λ numbers all. (c.inputs.invariant.among numbers all).1
