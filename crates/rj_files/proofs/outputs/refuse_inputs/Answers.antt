use Rattle.std.proofs.Common.{◌≡◌, Bor, List, ℕ, subst}
use Rattle.std.specs.Prelude.{Err, Ok, OnOk, Option, Result, option_map}
use Rattle.rj_line.specs.declared.fault.Fault.{Fault}
use Rattle.rj_line.specs.declared.fault.Side.TheVariants as side
use Rattle.rj_files.specs.Identities.{Answer}
use Rattle.rj_files.specs.Outputs.{AreAccepted, IsJudged, input_path, output_path}
use Rattle.rj_files.proofs.outputs.refuse_inputs.Goals as goal

-- both tables, judged one after the other
accepted : (answers : List ℕ → Option Answer) (output : Option (List ℕ)) (path left right : List ℕ) (first second : Result (Unit {0}) Fault) (x : Unit {0})
    → path ≡ output_path output → IsJudged answers side.Left path (input_path left) first → first ≡ Ok x
    → IsJudged answers side.Right path (input_path right) second → OnOk second (AreAccepted answers output left right)
accepted answers output path left right first (Ok y) x is one ok two = (
  subst (λ (r : Result (Unit {0}) Fault). IsJudged answers side.Left (output_path output) (input_path left) r) ok
      (subst (λ (p : List ℕ). IsJudged answers side.Left p (input_path left) first) is one),
  subst (λ (p : List ℕ). IsJudged answers side.Right p (input_path right) (Ok y)) is two,
)
accepted answers output path left right first (Err f) x is one ok two = tt

pub returns-clause-accepted : goal.returns-clause-accepted
returns-clause-accepted g c =
    let line = c.args.line.now in
    accepted (g.I.Identities.answers c.args.files.now) (option_map (λ (name : Bor (List ℕ)). name.now) line.output) c.output_path-output.result.now line.left.now line.right.now
    c.refuse_input.result c.refuse_input-2.result c.in_ok-refuse_input.field-0 c.output_path-output.ensures c.refuse_input.ensures c.in_ok-refuse_input.was c.refuse_input-2.ensures
