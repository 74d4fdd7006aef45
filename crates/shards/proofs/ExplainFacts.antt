-- What a join in one go with some words tells of a fault.
use Rattle.std.proofs.Common.{◌≡◌, List, Option, Result, false, ℕ, inr}
use Rattle.std.specs.Prelude.{IfOk}
use Rattle.std.proofs.lemmas.Result.{IfOk-weaker}
use Rattle.clap.specs.Words.{Text}
use Rattle.rj_explain.specs.Explained.{IsExplained}
use Rattle.rj_explain.specs.declared.inputs.Inputs.{Inputs}
use Rattle.rj_line.specs.declared.fault.Fault.{Fault}
use Rattle.rj_line.specs.Line.{IsLineOf}
use Rattle.rj_line.specs.declared.line.Line.{Line}
use Rattle.shards.specs.Explained.{AreHeadersTold, without_own}
use Rattle.shards.specs.Heads.{Begins}

-- the lines of a fault over these inputs, which are those of a line for such a join
pub told-by : {X E : Type 0} (holds : Text → Option Text) (fails : Type 0) (f : Fault) (words : List Text) (l : Line) (bytes : X → List ℕ) (r : Result X E) (inputs : Inputs)
    → IfOk r (λ s. IsExplained f inputs (bytes s)) → IsLineOf 1 (without_own false words) l → inputs.request.now ≡ l.request → Begins (holds l.left.now) inputs.left.now
    → Begins (holds l.right.now) inputs.right.now → IfOk r (λ s. AreHeadersTold holds fails f words (bytes s))
told-by holds fails f words l bytes r inputs told read request left right = IfOk-weaker r (λ s. IsExplained f inputs (bytes s)) (λ s. AreHeadersTold holds fails f words (bytes s)) (λ s lines. inr record {
  line = l;
  read = read;
  inputs = inputs;
  request = request;
  left = left;
  right = right;
  lines_told = lines;
}) told
