use Rattle.std.proofs.Common.{◌≢◌, inl, inr, rules}
use Rattle.rj_line.specs.declared.fault.Fault.TheVariants as fault
use Rattle.rj_files.proofs.explaining.violation_lines.Goals as goal

pub returns : goal.returns
returns g c =
    let other : c.in-Err.field-0 ≢ fault.Memory = search rules in
    inl (inr (c.in-Err.field-0, other, c.in-Err.ensures.fault other), c.new-in-Err.ensures.bytes)
