use Rattle.std.proofs.Common.{◌∙◌, ◌+◌, Bool, ap, sym}
use Rattle.rj_condition.specs.Names.{matches}
use Rattle.rj_engine.specs.Cells.{name_of}
use Rattle.rj_engine.specs.declared.origin.Origin.{Origin}
use Rattle.rj_engine.proofs.SelectedFacts.{only_again, only_behind, only_end, only_first, only_other, only_this}
use Rattle.rj_engine.proofs.chosen_columns.only_named.Goals as goal
use Rattle.rj_engine.proofs.chosen_columns.only_named.Goals.{else-is_named, then-is_named+else-is_some}

pub loop-origin-init : goal.loop-origin-init
loop-origin-init c = only_first (λ o. matches c.args.name.now (name_of c.args.left.now c.args.right.now o)) c.args.columns.now

pub returns-then-is_some : goal.returns-then-is_some
returns-then-is_some c =
    let p : Origin → Bool = λ o. matches c.args.name.now (name_of c.args.left.now c.args.right.now o) in
    sym (c.loop-origin.invariant
    ∙ only_again p c.args.columns.now c.loop-origin.origin-index _ c.loop-origin.found c.loop-origin-test.true
    (sym c.is_named.ensures ∙ c.if-is_named.true) (sym c.is_some.ensures ∙ c.if-is_some.true))

pub loop-origin-preserved : goal.loop-origin-preserved
loop-origin-preserved c =
    let p : Origin → Bool = λ o. matches c.args.name.now (name_of c.args.left.now c.args.right.now o) in
    let os = c.args.columns.now in
    let i = c.loop-origin.origin-index in
    let found = c.loop-origin.found in
    c.loop-origin.invariant
    ∙ elim c.if-is_named.branch [
      | then-is_named+else-is_some w ↦
          only_this p os i _ found c.loop-origin-test.true (sym c.is_named.ensures ∙ w.if-is_named.true) (sym w.is_some.ensures ∙ w.if-is_some.false)
          ∙ ap (only_behind p os (i + 1)) (sym w.found-is)
      | else-is_named w ↦
          only_other p os i _ found c.loop-origin-test.true (sym c.is_named.ensures ∙ w.if-is_named.false) ∙ ap (only_behind p os (i + 1)) (sym w.found-is)
    ]

pub returns : goal.returns
returns c =
    let p : Origin → Bool = λ o. matches c.args.name.now (name_of c.args.left.now c.args.right.now o) in
    sym (c.loop-origin.invariant ∙ only_end p c.args.columns.now c.loop-origin.origin-index c.loop-origin.found c.loop-origin-test.false)
