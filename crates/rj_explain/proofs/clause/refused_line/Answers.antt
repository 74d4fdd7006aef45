use Rattle.std.proofs.lemmas.Result.{IfOk-weaker}
use Rattle.std.proofs.Common.{sym, subst, List, ℕ}
use Rattle.rj_explain.specs.Unknown.{IsReasonTold, both_names}
use Rattle.rj_explain.proofs.clause.refused_line.Goals as goal

pub returns : goal.returns
returns c =
    let found = c.args.found.now in
    let names = both_names c.args.columns.now.left c.args.columns.now.right in
    let words : IsReasonTold found.refused c.args.clause.now found names c.as_str.result.now =
    subst (λ (w : List ℕ). IsReasonTold found.refused c.args.clause.now found names w) (sym c.as_str.ensures.value) c.in_ok-words.ensures in
    IfOk-weaker c.name_line.result _ _ (λ s told. (c.as_str.result.now, words, told)) c.name_line.ensures
