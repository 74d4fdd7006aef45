use Rattle.std.proofs.Common.{◌≡◌, ◌⊎◌, Result, sym, subst}
use Rattle.std.specs.Prelude.{IfErr, OnOk}
use Rattle.rj_command.specs.Expected.{IsExpected, IsUnexpected}
use Rattle.rj_line.specs.declared.fault.Fault.{Fault}
use Rattle.rj_line.specs.declared.fault.Fault.TheVariants as fault
use Rattle.rj_command.proofs.ExpectedFacts.{expected_told, unexpected_told}
use Rattle.rj_command.proofs.join.expected.refuse_unexpected.Goals as goal

pub returns-clause-expected : goal.returns-clause-expected
returns-clause-expected c =
    let o = c.args.operands.now in
    let P = IsExpected c.args.request.now o.join o.left o.right in
    subst (λ (r : Result (Unit {0}) Fault). OnOk r P) (sym c.refusal.ensures) (expected_told P c.is_as_expected.result c.is_as_expected.ensures)

pub returns-clause-fault : goal.returns-clause-fault
returns-clause-fault c =
    let o = c.args.operands.now in
    let P = IsExpected c.args.request.now o.join o.left o.right in
    subst (λ (r : Result (Unit {0}) Fault). IfErr r (λ f. (f ≡ fault.Memory) ⊎ IsUnexpected c.args.request.now o.join o.left o.right f)) (sym c.refusal.ensures)
    (unexpected_told P c.is_as_expected.result c.is_as_expected.ensures)
