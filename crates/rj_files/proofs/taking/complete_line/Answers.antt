use Rattle.std.proofs.Common.{refl, subst}
use Rattle.rj_command.specs.Auto.{IsCompleted}
use Rattle.rj_files.proofs.taking.complete_line.Goals as goal

pub returns-clause-completed : goal.returns-clause-completed
returns-clause-completed g c =
    let q = c.args.line.now.request in
    let p = c.complete_types.new.request in (
      subst (λ r. IsCompleted c.args.tables.now.left.items r q p) c.as_slice-right.ensures.value
          (subst (λ l. IsCompleted l c.as_slice-right.result.now q p) c.as_slice-left.ensures.value c.in_ok-complete_types.ensures),
      refl,
    )
