use Rattle.std.proofs.Common.{◌∙◌, ◌⊎◌, Bor, List, ℕ, subst, sym}
use Rattle.std.specs.Prelude.{Option, option_map}
use Rattle.rj_line.specs.declared.fault.Fault.{Fault}
use Rattle.rj_files.specs.Explained.{AreLinesOf}
use Rattle.rj_files.specs.Streams.{IsFaultOf}
use Rattle.rj_files.specs.Told.{OptionalText}
use Rattle.rj_files.specs.Unwritten.{IsUnmade, IsUnplacedTold}
use Rattle.rj_files.proofs.outputs.write_output.Goals as goal

pub returns-in-Err-clause-fault : goal.returns-in-Err-clause-fault
returns-in-Err-clause-fault g c =
    subst (λ f. IsFaultOf c.args.line.now c.write_named.new.line (g.L.Stream.tells c.args.left.now) (g.S.Stream.tells c.args.right.now) f) (sym c.with_file.ensures.fault) c.in-Err.ensures.fault

pub returns-in-Err-clause-asked : goal.returns-in-Err-clause-asked
returns-in-Err-clause-asked g c asks other =
    let line = c.args.line.now in
    let joined = c.write_named.new.line in
    let l = g.L.Stream.tells c.args.left.now in
    let r = g.S.Stream.tells c.args.right.now in
    let told = c.in-Err.ensures.asked asks (λ is. other (c.with_file.ensures.fault ∙ is)) in
    let el = g.L.Stream.explains c.args.left.now in
    let er = g.S.Stream.explains c.args.right.now in
    let output : Option (List ℕ) = option_map (λ (name : Bor (List ℕ)). name.now) line.output in
    subst (λ (f : Fault). IsUnmade output f c.with_file.result.lines ⊎ AreLinesOf line joined l r el er f c.with_file.result.lines) (sym c.with_file.ensures.fault)
    (subst (λ (lines : OptionalText). IsUnmade output c.in-Err.e.fault lines ⊎ AreLinesOf line joined l r el er c.in-Err.e.fault lines) (sym c.with_file.ensures.lines) told)

pub returns-in-Err-clause-unwritten : goal.returns-in-Err-clause-unwritten
returns-in-Err-clause-unwritten g c asks is told =
    let output : Option (List ℕ) = option_map (λ (name : Bor (List ℕ)). name.now) c.args.line.now.output in
    subst (λ (lines : OptionalText). IsUnplacedTold output lines) (sym c.with_file.ensures.lines)
    (c.in-Err.ensures.unwritten asks (sym c.with_file.ensures.fault ∙ is) (sym c.with_file.ensures.told ∙ told))
