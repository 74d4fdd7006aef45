use Rattle.std.proofs.Common.{List, inr, rules, subst, ℕ}
use Rattle.std.specs.Prelude.{None}
use Rattle.rj_files.specs.Labels.{IsListError, IsWordError}
use Rattle.rj_files.proofs.ListFacts.{of-fault}
use Rattle.rj_files.proofs.lists.with_list.Goals as goal

pub returns-in_err-list-clause-fault : goal.returns-in_err-list-clause-fault
returns-in_err-list-clause-fault g c =
    let named = c.in-Some.ensures in
    let e = c.in_err-list.field-0.0 in
    let l = c.in-Some.field-0.label in
    of-fault (IsWordError None c.args.word.now c.args.explain) c.from_residual.result e (search rules)
    (inr (l, named.0, subst (λ (n : List ℕ). IsListError c.args.explain e l n) named.2 c.in_err-list.ensures.fault))
