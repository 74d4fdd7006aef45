use Rattle.std.proofs.Common.{◌≡◌, ◌∙◌, Bool, inl, inr, refl, subst, sym}
use Rattle.rj_explain.specs.declared.inputs.Inputs.{Inputs}
use Rattle.rj_line.specs.declared.fault.Fault.{Fault}
use Rattle.rj_line.specs.declared.fault.Fault.TheVariants as fault
use Rattle.rj_files.specs.Explained.{IsToldOf}
use Rattle.rj_files.specs.Memory.{IsMemoryTold}
use Rattle.rj_files.specs.Told.{IsThere}
use Rattle.rj_files.proofs.joining.write_freed.Goals as goal

pub returns-in-Err-write_joined-clause-asked : goal.returns-in-Err-write_joined-clause-asked
returns-in-Err-write_joined-clause-asked g c = λ other.
    let line = c.args.line.now in
    let inputs : Inputs = record {
      left = record { ref_ptr = (0, 0); now = c.args.tables.left.items };
      right = record { ref_ptr = (0, 0); now = c.args.tables.right.items };
      request = record { ref_ptr = (0, 0); now = line.request };
    } in
    let lines = c.told_by_sizes.result.lines in
    let same = c.told_by_sizes.ensures.fault in
    let memory : c.in-Err-write_joined.unwritten.fault ≡ fault.Memory = elim (c.in-Err-write_joined.ensures.taken c.requires.taken c.in-Ok.ensures.named) [
      | inl is ↦ is
      | inr device ↦ absurd (other (same ∙ device))
    ] in
    let told : IsThere lines (IsMemoryTold line.count inputs)
    = subst (λ (b : Bool). IsThere lines (IsMemoryTold b inputs)) (sym c.requires.joined)
    (c.told_by_sizes.ensures.lines inputs (c.in-Ok.operands, c.in-Ok.ensures.operands, c.in-Err-write_joined.ensures.known) c.sizes-files.ensures refl memory) in
    (inputs, refl, refl, refl, subst (λ (f : Fault). IsThere lines (IsToldOf line f inputs)) (sym (same ∙ memory)) told)
