use Rattle.std.proofs.Common.{rules, subst, sym}
use Rattle.std.proofs.lemmas.Result.{IfErr-weaker, IfOk-weaker}
use Rattle.rj_columns.specs.Tables.{TableValue}
use Rattle.rj_csv_io.specs.Ambiguous.{AreApart}
use Rattle.rj_csv_io.proofs.LawFacts.{null_texts_read_as_null}
use Rattle.rj_line.specs.declared.fault.Side.TheVariants as side
use Rattle.rj_command.specs.Operands.{IsJoinAsked}
use Rattle.rj_command.specs.Sides.{IsTable}
use Rattle.rj_command.proofs.ApartFacts.{table-apart}
use Rattle.rj_command.proofs.OperandFacts.{clause_fault, header_fault, left_fault, right_fault}
use Rattle.rj_command.proofs.join.operands.read_operands.Goals as goal

pub returns-in_err-refuse_by_headers-clause-fault : goal.returns-in_err-refuse_by_headers-clause-fault
returns-in_err-refuse_by_headers-clause-fault g c =
    let refused = c.in_err-refuse_by_headers in
    let told = header_fault c.args.named (g.B.AsSlice.items c.args.left) (g.B.AsSlice.items c.args.right) c.args.request.now refused.field-0.0
    (rw (c.as_slice.ensures, c.as_slice-2.ensures) at refused.ensures.fault) in
    search (rules, told)

pub returns-in_err-left-clause-fault : goal.returns-in_err-left-clause-fault
returns-in_err-left-clause-fault g c =
    let left = c.in_err-left in
    let none = rw (c.as_slice.ensures, c.as_slice-2.ensures) at c.in_ok-refuse_by_headers.ensures.none in
    let told = left_fault c.args.named (g.B.AsSlice.items c.args.left) (g.B.AsSlice.items c.args.right) c.args.request.now none left.field-0.0 left.ensures.fault in
    search (rules, told)

pub returns-in_err-right-clause-fault : goal.returns-in_err-right-clause-fault
returns-in_err-right-clause-fault g c =
    let left = c.in_ok-left in
    let right = c.in_err-right in
    let none = rw (c.as_slice.ensures, c.as_slice-2.ensures) at c.in_ok-refuse_by_headers.ensures.none in
    let told = right_fault c.args.named (g.B.AsSlice.items c.args.left) (g.B.AsSlice.items c.args.right) c.args.request.now none left.left right.field-0.0 left.ensures.table right.ensures.fault in
    search (rules, told)

pub returns-clause-operands : goal.returns-clause-operands
returns-clause-operands g c =
    let left = c.in_ok-left in
    let right = c.in_ok-right in
    let lefts = g.B.AsSlice.items c.args.left in
    let rights = g.B.AsSlice.items c.args.right in
    IfOk-weaker c.bind_tables.result _ _ (λ o are. record {
      left_read = subst (IsTable c.args.request.now side.Left lefts) (sym are.0) left.ensures.table;
      right_read = subst (IsTable c.args.request.now side.Right rights) (sym are.1) right.ensures.table;
      join_bound = subst (λ (t : TableValue). IsJoinAsked c.args.request.now o.left t o.join) (sym are.1)
          (subst (λ (t : TableValue). IsJoinAsked c.args.request.now t right.right o.join) (sym are.0) are.2);
    }) c.bind_tables.ensures.tables

pub returns-clause-fault : goal.returns-clause-fault
returns-clause-fault g c =
    let left = c.in_ok-left in
    let right = c.in_ok-right in
    let none = rw (c.as_slice.ensures, c.as_slice-2.ensures) at c.in_ok-refuse_by_headers.ensures.none in
    IfErr-weaker c.bind_tables.result _ _
    (λ f told. clause_fault c.args.named (g.B.AsSlice.items c.args.left) (g.B.AsSlice.items c.args.right) c.args.request.now none left.left right.right f left.ensures.table right.ensures.table told)
    c.bind_tables.ensures.fault

pub returns-clause-apart : goal.returns-clause-apart
returns-clause-apart g c =
    let left = c.in_ok-left in
    let right = c.in_ok-right in
    let law = null_texts_read_as_null in
    let q = c.args.request.now in
    let null = q.out_null.now in
    let Apart : TableValue → Type 0 = λ t. AreApart null t.rows in
    IfOk-weaker c.bind_tables.result _ _
    (λ o are. (
      λ among. subst Apart (sym are.0) (table-apart law q side.Left (g.B.AsSlice.items c.args.left) null left.left among left.ensures.table),
      λ among. subst Apart (sym are.1) (table-apart law q side.Right (g.B.AsSlice.items c.args.right) null right.right among right.ensures.table),
    ))
    c.bind_tables.ensures.tables
