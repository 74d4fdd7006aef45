use Rattle.std.proofs.Common.{◌≡◌, ◌∙◌, sym, true, false}
use Rattle.rj_condition.specs.Names.{matches}
use Rattle.rj_condition.proofs.StepFacts.{place_found, place_next}
use Rattle.rj_condition.proofs.names.column_named.Goals as goal

pub returns-then-is_name_of-clause-place : goal.returns-then-is_name_of-clause-place
returns-then-is_name_of-clause-place c =
    let is : matches c.args.name.now c.name.result.now ≡ true = sym c.is_name_of.ensures ∙ c.if-is_name_of.true in
    sym (c.loop-i.invariant.0 ∙ place_found (matches c.args.name.now) c.args.table.now.names c.loop-i.i c.name.result.now c.name.ensures is)

pub loop-i-preserved : goal.loop-i-preserved
loop-i-preserved c =
    let is : matches c.args.name.now c.name.result.now ≡ false = sym c.is_name_of.ensures ∙ c.if-is_name_of.false in
    (c.loop-i.invariant.0 ∙ place_next (matches c.args.name.now) c.args.table.now.names c.loop-i.i c.name.result.now c.name.ensures is, c.loop-i.invariant.1)
