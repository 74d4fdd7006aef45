use Rattle.std.proofs.Common.{◌≡◌, ◌∙◌, false, refl, rules, subst, sym, true}
use Rattle.rj_line.specs.declared.fault.Fault.TheVariants as fault
use Rattle.shards.specs.Plans.{IsOwnFailure, has_lawful_nulls, of_head, of_nulls, of_table}
use Rattle.shards.specs.declared.failure.Failure.TheVariants.{Told}
use Rattle.shards.proofs.PlanFacts.{head-read, lawful-nulls, side-fault, side-head, side-table, table-fault}
use Rattle.shards.proofs.dividing.read_own.Goals as goal

pub returns-then-not-have_lawful_nulls-clause-failure : goal.returns-then-not-have_lawful_nulls-clause-failure
returns-then-not-have_lawful_nulls-clause-failure g c =
    let holds = g.S.Storage.holds c.args.storage.now in
    let l = c.args.line.now in
    let own = c.operand-own.result.now in
    let told_nulls : has_lawful_nulls l ≡ c.have_lawful_nulls.result =
    lawful-nulls l c.have_lawful_nulls.result c.as_slice-nulls.result.now c.as_slice.result.now own c.operand-other.result.now c.other_side.result c.have_lawful_nulls.ensures.both c.as_slice-nulls.ensures.value c.as_slice.ensures.value c.operand-own.ensures c.operand-other.ensures c.other_side.ensures in
    let no : c.have_lawful_nulls.result ≡ false = search rules in
    subst (IsOwnFailure holds l) (sym c.unlawful_null.ensures)
    (of_nulls c.read_head-head.result (head-read holds l l.side l.side own refl c.operand-own.ensures c.read_head-head.result c.read_head-head.ensures.head c.read_head-head.ensures.fault) (told_nulls ∙ no))

pub returns-in_err-head-clause-failure : goal.returns-in_err-head-clause-failure
returns-in_err-head-clause-failure g c =
    let holds = g.S.Storage.holds c.args.storage.now in
    let l = c.args.line.now in
    let own = c.operand-own.result.now in
    let told_nulls : has_lawful_nulls l ≡ c.have_lawful_nulls.result =
    lawful-nulls l c.have_lawful_nulls.result c.as_slice-nulls.result.now c.as_slice.result.now own c.operand-other.result.now c.other_side.result c.have_lawful_nulls.ensures.both c.as_slice-nulls.ensures.value c.as_slice.ensures.value c.operand-own.ensures c.operand-other.ensures c.other_side.ensures in
    let yes : c.have_lawful_nulls.result ≡ true = search rules in
    let lawful = told_nulls ∙ yes in
    let f = c.in_err-head.field-0.0 in
    let told : IsOwnFailure holds l (Told f) = of_head f lawful (side-fault holds l l.side l.side own refl c.operand-own.ensures f c.in_err-head.ensures.fault) in
    search (rules, told)

pub returns-in_err-table-clause-failure : goal.returns-in_err-table-clause-failure
returns-in_err-table-clause-failure g c =
    let holds = g.S.Storage.holds c.args.storage.now in
    let l = c.args.line.now in
    let own = c.operand-own.result.now in
    let told_nulls : has_lawful_nulls l ≡ c.have_lawful_nulls.result =
    lawful-nulls l c.have_lawful_nulls.result c.as_slice-nulls.result.now c.as_slice.result.now own c.operand-other.result.now c.other_side.result c.have_lawful_nulls.ensures.both c.as_slice-nulls.ensures.value c.as_slice.ensures.value c.operand-own.ensures c.operand-other.ensures c.other_side.ensures in
    let yes : c.have_lawful_nulls.result ≡ true = search rules in
    let lawful = told_nulls ∙ yes in
    let f = c.in_err-table.field-0.0 in
    let h = c.in_ok-head.head in
    let told : IsOwnFailure holds l (Told f) =
    of_table h f lawful (side-head holds l l.side l.side own refl c.operand-own.ensures h c.in_ok-head.ensures.head)
    (table-fault holds l l.side l.side own refl c.operand-own.ensures h f c.in_err-table.ensures.fault) in
    search (rules, told)

pub returns-in_err-types-clause-failure : goal.returns-in_err-types-clause-failure
returns-in_err-types-clause-failure g c =
    let holds = g.S.Storage.holds c.args.storage.now in
    let l = c.args.line.now in
    let own = c.operand-own.result.now in
    let told_nulls : has_lawful_nulls l ≡ c.have_lawful_nulls.result =
    lawful-nulls l c.have_lawful_nulls.result c.as_slice-nulls.result.now c.as_slice.result.now own c.operand-other.result.now c.other_side.result c.have_lawful_nulls.ensures.both c.as_slice-nulls.ensures.value c.as_slice.ensures.value c.operand-own.ensures c.operand-other.ensures c.other_side.ensures in
    let yes : c.have_lawful_nulls.result ≡ true = search rules in
    let lawful = told_nulls ∙ yes in
    let h = c.in_ok-head.head in
    let told : IsOwnFailure holds l (Told fault.Memory) =
    of_table h fault.Memory lawful (side-head holds l l.side l.side own refl c.operand-own.ensures h c.in_ok-head.ensures.head) (λ not. absurd (not refl)) in
    search (rules, told)

pub returns-clause-lawful : goal.returns-clause-lawful
returns-clause-lawful g c =
    let l = c.args.line.now in
    let own = c.operand-own.result.now in
    let told_nulls : has_lawful_nulls l ≡ c.have_lawful_nulls.result =
    lawful-nulls l c.have_lawful_nulls.result c.as_slice-nulls.result.now c.as_slice.result.now own c.operand-other.result.now c.other_side.result c.have_lawful_nulls.ensures.both c.as_slice-nulls.ensures.value c.as_slice.ensures.value c.operand-own.ensures c.operand-other.ensures c.other_side.ensures in
    let yes : c.have_lawful_nulls.result ≡ true = search rules in
    told_nulls ∙ yes

pub returns-clause-head : goal.returns-clause-head
returns-clause-head g c =
    side-head (g.S.Storage.holds c.args.storage.now) c.args.line.now c.args.line.now.side c.args.line.now.side c.operand-own.result.now refl c.operand-own.ensures c.in_ok-head.head c.in_ok-head.ensures.head

pub returns-clause-table : goal.returns-clause-table
returns-clause-table g c =
    side-table (g.S.Storage.holds c.args.storage.now) c.args.line.now c.args.line.now.side c.args.line.now.side c.operand-own.result.now refl c.operand-own.ensures c.in_ok-head.head c.in_ok-table.table c.in_ok-table.ensures.table
