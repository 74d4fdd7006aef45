use Rattle.std.proofs.lemmas.Result.{IfOk-weaker}
use Rattle.std.proofs.lemmas.Simd.{map-map}
use Rattle.rj_explain.proofs.selected.names_from.Goals as goal

pub returns-in-Left : goal.returns-in-Left
returns-in-Left c = rw c.in-Left.is (IfOk-weaker c.names_of.result _ _ (λ v told. rw map-map told) c.names_of.ensures)

pub returns-in-Right : goal.returns-in-Right
returns-in-Right c = rw c.in-Right.is (IfOk-weaker c.names_of-in-Right.result _ _ (λ v told. rw map-map told) c.names_of-in-Right.ensures)
