use Rattle.std.proofs.Common.{◌≡◌, Some, true, subst, sym}
use Rattle.rj_shards.proofs.HeadFacts.{faults_put, holds_put, rows_put}
use Rattle.rj_shards.specs.Places.{IsNotBelow}
use Rattle.rj_shards.proofs.merge.put_next.Goals as goal

pub returns-clause-newest : goal.returns-clause-newest
returns-clause-newest g c = λ all.
    let rises = rw c.in-Ok-Some.field-0-is at c.in-Ok-Some.ensures.rises in
    holds_put (λ h. g.S.Source.last h.source ≡ Some h.next.place) _ _ _ c.in-Ok.ensures.permutation rises.1 all

pub returns-clause-above : goal.returns-clause-above
returns-clause-above g c = λ given low all.
    let rises = rw c.in-Ok-Some.field-0-is at c.in-Ok-Some.ensures.rises in
    holds_put (λ h. IsNotBelow given h.next.place) _ _ _ c.in-Ok.ensures.permutation (low _ rises.0) all

pub returns-clause-tells : goal.returns-clause-tells
returns-clause-tells g c = λ here all.
    holds_put (λ h. g.S.Source.tells h.source) _ _ _ c.in-Ok.ensures.permutation (c.in-Ok-Some.ensures.tells here) all

pub returns-clause-among : goal.returns-clause-among
returns-clause-among g c = λ numbers here all.
    holds_put (λ h. numbers (g.S.Source.number h.source) ≡ true) _ _ _ c.in-Ok.ensures.permutation (subst (λ n. numbers n ≡ true) (sym c.in-Ok-Some.ensures.number) here) all

pub returns-clause-rows : goal.returns-clause-rows
returns-clause-rows g c = λ here.
    let gives = rw c.in-Ok-Some.field-0-is at (c.in-Ok-Some.ensures.gives here) in
    rows_put g.S.Source.copies g.S.Source.reading _ _ _ _ c.in-Ok-Some.ensures.copies _ gives.0 c.in-Ok.ensures.permutation

pub returns-clause-faults : goal.returns-clause-faults
returns-clause-faults g c = λ here.
    let gives = rw c.in-Ok-Some.field-0-is at (c.in-Ok-Some.ensures.gives here) in
    faults_put g.S.Source.copies g.S.Source.reading _ _ _ _ gives.1 c.in-Ok.ensures.permutation
