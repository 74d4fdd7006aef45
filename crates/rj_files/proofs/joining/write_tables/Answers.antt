use Rattle.std.proofs.Common.{◌∙◌, subst, sym}
use Rattle.std.specs.Prelude.{◌≢◌}
use Rattle.rj_line.specs.declared.fault.Fault.TheVariants as fault
use Rattle.rj_files.specs.Explained.{AreLinesBy}
use Rattle.rj_files.specs.declared.explained.ExplainedFault.{ExplainedFault}
use Rattle.rj_files.proofs.joining.write_tables.Goals as goal

pub returns-in-Err-clause-asked : goal.returns-in-Err-clause-asked
returns-in-Err-clause-asked g c asks other =
    let apart : c.in-Err.e.fault ≢ fault.WriteDevice = λ is. other (c.with_write_error.ensures.fault ∙ is) in
    let same = c.with_write_error.ensures.other apart in
    subst (λ (e : ExplainedFault). AreLinesBy c.args.line.now c.args.tables.left.items c.args.tables.right.items e.fault e.lines) (sym same) (c.in-Err.ensures.asked asks apart)
