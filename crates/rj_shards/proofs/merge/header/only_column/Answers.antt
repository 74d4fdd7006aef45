use Rattle.std.proofs.Common.{◌∙◌, ◌+◌, refl, sym, ap, rules, tests}
use Rattle.rj_shards.specs.MergeHeaders.{only_one}
use Rattle.rj_shards.proofs.MergeHeaderFacts.{alone, placed}
use Rattle.rj_shards.proofs.merge.header.only_column.Goals as goal

pub returns-in_err-place : goal.returns-in_err-place
returns-in_err-place c =
    let found = placed c.args.name.now _ _ (λ x b q k. search (rules, tests)) _ _ c.position.result c.position.ensures.ran in
    rw (c.from_residual.ensures, rw (c.in_err-place.was, c.iter-fields.ensures.row, c.iter-fields.ensures.at) at found) refl

pub returns-then-any : goal.returns-then-any
returns-then-any c =
    let found = placed c.args.name.now _ _ (λ x b q k. search (rules, tests)) _ _ c.position.result c.position.ensures.ran in
    let last = alone c.args.name.now _ _ (λ x b q k. search (rules, tests)) c.in_ok-place.place (c.in_ok-place.place + 1) _ _ c.any.result c.any.ensures.ran in
    sym (ap only_one (rw (c.in_ok-place.was, c.iter-fields.ensures.row, c.iter-fields.ensures.at) at found) ∙ rw c.if-any.true at last)

pub returns : goal.returns
returns c =
    let found = placed c.args.name.now _ _ (λ x b q k. search (rules, tests)) _ _ c.position.result c.position.ensures.ran in
    let last = alone c.args.name.now _ _ (λ x b q k. search (rules, tests)) c.in_ok-place.place (c.in_ok-place.place + 1) _ _ c.any.result c.any.ensures.ran in
    sym (ap only_one (rw (c.in_ok-place.was, c.iter-fields.ensures.row, c.iter-fields.ensures.at) at found) ∙ rw c.if-any.false at last)
