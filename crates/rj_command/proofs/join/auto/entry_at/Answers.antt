use Rattle.std.proofs.Common.{◌≡◌, ◌<◌, ◌∙◌, ap, length, subst, sym, Some}
use Rattle.std.specs.Prelude.{slice_get}
use Rattle.rj_columns.specs.Tables.{TableValue}
use Rattle.rj_command.specs.Auto.{compares}
use Rattle.rj_command.proofs.AutoFacts.{declared_none, entry_some, uncompared_none, undeclared_by, untyped_none}
use Rattle.rj_command.proofs.join.auto.entry_at.Goals as goal

pub name-name-requires : goal.name-name-requires
name-name-requires c = subst (λ (t : TableValue). c.args.column < length t.types) (sym c.table.ensures) c.requires

pub returns-then-not-is_undeclared : goal.returns-then-not-is_undeclared
returns-then-not-is_undeclared c =
    let q = c.args.request.now in
    let s = c.args.side in
    let compared = compares c.args.compared.now.left.now c.args.compared.now.right.now c.args.compared.now.clause.now s in
    let name = c.name-name.result.now in (
      name,
      subst (λ (t : TableValue). slice_get t.names c.args.column ≡ Some name) c.table.ensures c.name-name.ensures,
      declared_none q s compared c.args.kinds.now c.args.column name (undeclared_by q s compared c.args.kinds.now c.args.column name c.is_undeclared.result _ c.leaves_open.result c.types_of.result.now c.is_undeclared.ensures
          c.leaves_open.ensures c.types_of.ensures c.if-not-is_undeclared.true),
    )

pub returns-then-not-branch : goal.returns-then-not-branch
returns-then-not-branch c =
    let q = c.args.request.now in
    let s = c.args.side in
    let compared = compares c.args.compared.now.left.now c.args.compared.now.right.now c.args.compared.now.clause.now s in
    let name = c.name-name.result.now in (
      name,
      subst (λ (t : TableValue). slice_get t.names c.args.column ≡ Some name) c.table.ensures c.name-name.ensures,
      uncompared_none q s compared c.args.kinds.now c.args.column name (undeclared_by q s compared c.args.kinds.now c.args.column name c.is_undeclared.result _ c.leaves_open.result c.types_of.result.now c.is_undeclared.ensures
          c.leaves_open.ensures c.types_of.ensures c.if-not-is_undeclared.false) (sym c.in_ok-compares.ensures ∙ c.if-not-branch.true),
    )

pub returns-in_ok-entry_for-in-Some : goal.returns-in_ok-entry_for-in-Some
returns-in_ok-entry_for-in-Some c =
    let q = c.args.request.now in
    let s = c.args.side in
    let compared = compares c.args.compared.now.left.now c.args.compared.now.right.now c.args.compared.now.clause.now s in
    let name = c.name-name.result.now in (
      name,
      subst (λ (t : TableValue). slice_get t.names c.args.column ≡ Some name) c.table.ensures c.name-name.ensures,
      entry_some q s compared c.args.kinds.now c.args.column name c.in-Some.kind c.in_ok-entry_for-in-Some.field-0
          (undeclared_by q s compared c.args.kinds.now c.args.column name c.is_undeclared.result _ c.leaves_open.result c.types_of.result.now c.is_undeclared.ensures
          c.leaves_open.ensures c.types_of.ensures c.if-not-is_undeclared.false) (sym c.in_ok-compares.ensures ∙ c.if-not-branch.false)
          (sym c.kind_at.ensures ∙ c.in-Some.is) c.in_ok-entry_for-in-Some.ensures,
    )

pub returns-in-None : goal.returns-in-None
returns-in-None c =
    let q = c.args.request.now in
    let s = c.args.side in
    let compared = compares c.args.compared.now.left.now c.args.compared.now.right.now c.args.compared.now.clause.now s in
    let name = c.name-name.result.now in (
      name,
      subst (λ (t : TableValue). slice_get t.names c.args.column ≡ Some name) c.table.ensures c.name-name.ensures,
      untyped_none q s compared c.args.kinds.now c.args.column name (undeclared_by q s compared c.args.kinds.now c.args.column name c.is_undeclared.result _ c.leaves_open.result c.types_of.result.now c.is_undeclared.ensures
          c.leaves_open.ensures c.types_of.ensures c.if-not-is_undeclared.false) (sym c.in_ok-compares.ensures ∙ c.if-not-branch.false)
          (sym c.kind_at.ensures ∙ c.in-None.is),
    )
