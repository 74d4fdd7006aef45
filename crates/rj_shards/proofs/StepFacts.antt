-- The steps of a merge taken together.
use Rattle.std.proofs.Common.{◌≡◌, List, [], ◌∷◌, ◌++◌, Option, None, Some, refl, sym, subst, inl, inr}
use mathlib.Core.Logic.{⊎_elim}
use Rattle.std.specs.List.Sorted.{IsPermutation}
use Rattle.std.specs.Option.{option_to_list}
use Rattle.std.proofs.lemmas.List.Sorted.{Contains-permutation, IsPermutation-refl, IsPermutation-sym, IsPermutation-trans}
use Rattle.rj_shards.specs.declared.merge.copies.Copies.{Copies}
use Rattle.rj_shards.specs.declared.merge.place.Placed.{Placed}
use Rattle.rj_shards.specs.declared.merge.refused.MergeRefused.{MergeRefused}
use Rattle.rj_shards.specs.Copies.{copied_rows}
use Rattle.rj_shards.specs.Merging.{IsFaultOf, Passes, faults_of_inputs, lists_of_inputs, rows_of_inputs}
use Rattle.rj_shards.specs.Sources.{Reading}
use Rattle.rj_shards.specs.Steps.{AreSteps, GaveAll, GaveSoFar, IsStep, Stage}
use Rattle.rj_shards.specs.Wholes.{IsMergeOf}
use Rattle.rj_shards.proofs.HeadFacts.{rows_listed}
use Rattle.rj_shards.proofs.PassFacts.{pass_all, pass_end, pass_more, pass_none, pass_often, pass_start}
use Rattle.rj_shards.proofs.WholeFacts.{none_given}

module _ {T : Type 0} where
  pub step_same : (a : Stage T) → IsStep a None a
  step_same a = record { rows = pass_none a.passed a.rows a.rows (IsPermutation-refl a.rows); faults = IsPermutation-refl a.faults }

  -- a step behind one that gave nothing
  pub step_on : (a b c : Stage T) (given : Option (Placed T)) → IsStep a None b → IsStep b given c → IsStep a given c
  step_on a b c given p q = record {
    rows = pass_more a.passed b.passed c.passed a.rows b.rows c.rows [] (option_to_list given) p.rows q.rows;
    faults = IsPermutation-trans a.faults b.faults c.faults p.faults q.faults;
  }

  -- a fault of what is left was one before
  pub fault_earlier : (a b : Stage T) (rows : List (Placed T)) (e : MergeRefused) → Passes a.passed b.passed a.rows b.rows rows → IsPermutation a.faults b.faults
      → IsFaultOf b.rows b.faults e → IsFaultOf a.rows a.faults e
  fault_earlier a b rows e p q fault = ⊎_elim
      (λ f. inl (Contains-permutation b.faults a.faults e (IsPermutation-sym a.faults b.faults q) f))
      (λ r. inr (r.0, r.1, pass_often a.passed b.passed a.rows b.rows rows p r.0 r.2))
      fault

  steps_pass : (old : Stage T) (rows : List (Placed T)) (new : Stage T) → AreSteps old rows new → Passes old.passed new.passed old.rows new.rows rows
  steps_pass old [] new same = subst (λ (s : Stage T). Passes old.passed s.passed old.rows s.rows []) same (step_same old).rows
  steps_pass old (row ∷ rows) new (mid, step, more) =
      pass_more old.passed mid.passed new.passed old.rows mid.rows new.rows (row ∷ []) rows step.rows (steps_pass mid rows new more)

  steps_keep : (old : Stage T) (rows : List (Placed T)) (new : Stage T) → AreSteps old rows new → IsPermutation old.faults new.faults
  steps_keep old [] new same = subst (λ (s : Stage T). IsPermutation old.faults s.faults) same (IsPermutation-refl old.faults)
  steps_keep old (row ∷ rows) new (mid, step, more) = IsPermutation-trans old.faults mid.faults new.faults step.faults (steps_keep mid rows new more)

  steps_more : (old : Stage T) (rows : List (Placed T)) (now new : Stage T) (row : Placed T) → AreSteps old rows now → IsStep now (Some row) new → AreSteps old (rows ++ row ∷ []) new
  steps_more old [] now new row same step = (new, subst (λ (s : Stage T). IsStep s (Some row) new) (sym same) step, refl)
  steps_more old (r ∷ rows) now new row (mid, first, more) step = (mid, first, steps_more mid rows now new row more step)

module _ {T S : Type 0} (copies : S → Copies) (reading : S → Reading T) (inputs : List S) (rows : List (Placed T)) where
  abbrev whole : Stage T
  whole = record { passed = None; rows = rows_of_inputs copies reading inputs; faults = faults_of_inputs reading inputs }

  pub gave_passes : (now : Stage T) → GaveSoFar copies reading inputs rows now → Passes None now.passed whole.rows now.rows rows
  gave_passes now g =
      pass_more None g.opened.passed now.passed whole.rows g.opened.rows now.rows [] rows (pass_start g.opened.passed whole.rows g.opened.rows [] g.passed refl g.all)
      (steps_pass g.opened rows now g.steps)

  gave_keeps : (now : Stage T) → GaveSoFar copies reading inputs rows now → IsPermutation whole.faults now.faults
  gave_keeps now g = IsPermutation-trans whole.faults g.opened.faults now.faults g.faults (steps_keep g.opened rows now g.steps)

  pub gave_more : (now new : Stage T) (row : Placed T) → GaveSoFar copies reading inputs rows now → IsStep now (Some row) new → GaveSoFar copies reading inputs (rows ++ row ∷ []) new
  gave_more now new row g step = record { opened = g.opened; passed = g.passed; all = g.all; faults = g.faults; steps = steps_more g.opened rows now new row g.steps step }

  pub gave_merge : GaveAll copies reading inputs rows → IsMergeOf (copied_rows (lists_of_inputs copies reading inputs)) rows
  gave_merge h =
      subst (λ l. IsMergeOf l rows) (sym (rows_listed copies reading inputs))
      (pass_all None h.end.passed whole.rows h.end.rows rows (pass_end None h.last.passed h.end.passed whole.rows h.last.rows h.end.rows rows (gave_passes h.last h.gave) h.none.rows) h.no_rows)

  pub gave_faultless : GaveAll copies reading inputs rows → faults_of_inputs reading inputs ≡ []
  gave_faultless h = none_given whole.faults h.end.faults (IsPermutation-trans whole.faults h.last.faults h.end.faults (gave_keeps h.last h.gave) h.none.faults) h.no_faults

  pub gave_fault : (now : Stage T) (e : MergeRefused) → GaveSoFar copies reading inputs rows now → IsFaultOf now.rows now.faults e
      → IsFaultOf (copied_rows (lists_of_inputs copies reading inputs)) (faults_of_inputs reading inputs) e
  gave_fault now e g fault =
      subst (λ l. IsFaultOf l whole.faults e) (sym (rows_listed copies reading inputs)) (fault_earlier whole now rows e (gave_passes now g) (gave_keeps now g) fault)
