use Rattle.std.proofs.Common.{◌≡◌, ◌≢◌, ◌++◌, ◌+◌, ◌-◌, ℕ, List, ap, arith, length, rules, subst, sym}
use Rattle.rj_csv_io.proofs.MarkedParts.{body-short}
use Rattle.rj_csv_io.specs.StrictFaults.{HasFault}
use Rattle.rj_csv_io.specs.Grammar.{Derives}
use Rattle.rj_csv_io.specs.declared.strict.header.HeaderPlace.TheVariants.{First}
use Rattle.rj_line.specs.declared.fault.Fault.TheVariants as fault
use Rattle.shards.specs.Heads.{Continues, HasNoLine, blank, broken}
use Rattle.shards.proofs.HeadFacts.{begin-is, line-is, line-more, whole-end}
use Rattle.shards.proofs.first_line.head_of_lines.Goals as goal

pub returns-in-Err-clause-fault : goal.returns-in-Err-clause-fault
returns-in-Err-clause-fault c = λ not more continues.
    let bytes = c.args.bytes.now in
    let text = c.without_bom-text.result.now in
    let n = c.in-Some.length in
    let ends : c.min.result ≡ length bytes - length text + n =
    omega (arith, body-short First bytes, ap length c.without_bom-text.ensures, c.in-Some.ensures.within, c.saturating_sub-mark.ensures, c.saturating_add.ensures, c.min.ensures) in
    let is = line-is c.args.is_whole bytes more text c.min.result n c.without_bom-text.ensures continues c.in-Some.ensures.within ends in
    let first = line-more c.args.is_whole bytes more text n c.without_bom-text.ensures continues
    (c.in-Some.ensures.line more (λ e. whole-end c.args.is_whole bytes more e continues)) in
    subst (HasNoLine c.args.full c.args.delimiter c.args.side (bytes ++ more)) (sym c.fault_of_text.ensures)
    (broken n c.in-Err.fault first (subst (λ (t : List ℕ). HasFault c.args.delimiter First c.args.full t c.in-Err.fault) is c.in-Err.ensures.fault))

pub returns-in_err-header-clause-fault : goal.returns-in_err-header-clause-fault
returns-in_err-header-clause-fault c =
    let bytes = c.args.bytes.now in
    let text = c.without_bom-text.result.now in
    let n = c.in-Some.length in
    let ends : c.min.result ≡ length bytes - length text + n =
    omega (arith, body-short First bytes, ap length c.without_bom-text.ensures, c.in-Some.ensures.within, c.saturating_sub-mark.ensures, c.saturating_add.ensures, c.min.ensures) in
    let told : c.in_err-header.field-0.0 ≢ fault.Memory → (more : List ℕ) → Continues c.args.is_whole bytes more
    → HasNoLine c.args.full c.args.delimiter c.args.side (bytes ++ more) c.in_err-header.field-0.0 = λ not more continues.
    let derived = c.in_default-check.ensures.derived in
    let none = c.in_err-header.ensures.fault not in
    let is = line-is c.args.is_whole bytes more text c.min.result n c.without_bom-text.ensures continues c.in-Some.ensures.within ends in
    let first = line-more c.args.is_whole bytes more text n c.without_bom-text.ensures continues
    (c.in-Some.ensures.line more (λ e. whole-end c.args.is_whole bytes more e continues)) in
    subst (HasNoLine c.args.full c.args.delimiter c.args.side (bytes ++ more)) (sym none.0)
    (blank n derived.0 first (subst (λ (t : List ℕ). Derives c.args.delimiter First c.args.full t derived.0) is derived.1) (none.1 c.args.full derived.0 derived.1)) in
    search (rules, told)

pub returns-clause-head : goal.returns-clause-head
returns-clause-head c = λ more continues.
    let bytes = c.args.bytes.now in
    let text = c.without_bom-text.result.now in
    let n = c.in-Some.length in
    let ends : c.min.result ≡ length bytes - length text + n =
    omega (arith, body-short First bytes, ap length c.without_bom-text.ensures, c.in-Some.ensures.within, c.saturating_sub-mark.ensures, c.saturating_add.ensures, c.min.ensures) in
    let derived = c.in_default-check.ensures.derived in
    let named = c.in_ok-header.ensures.names c.args.full derived.0 derived.1 in
    let is = line-is c.args.is_whole bytes more text c.min.result n c.without_bom-text.ensures continues c.in-Some.ensures.within ends in
    record {
      line = n;
      first = line-more c.args.is_whole bytes more text n c.without_bom-text.ensures continues
          (c.in-Some.ensures.line more (λ e. whole-end c.args.is_whole bytes more e continues));
      file = derived.0;
      derived = subst (λ (t : List ℕ). Derives c.args.delimiter First c.args.full t derived.0) is derived.1;
      rest = named.0;
      names = named.1;
      begin = begin-is c.args.is_whole bytes more text c.min.result n c.without_bom-text.ensures continues c.in-Some.ensures.within ends;
    }
