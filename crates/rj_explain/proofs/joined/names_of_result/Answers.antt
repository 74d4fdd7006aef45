use Rattle.std.proofs.lemmas.Result.{IfOk-weaker}
use Rattle.rj_condition.proofs.Answer.{one_clause}
use Rattle.rj_explain.proofs.JoinFacts.{names-of}
use Rattle.rj_explain.proofs.joined.names_of_result.Goals as goal

pub returns-in-Some : goal.returns-in-Some
returns-in-Some c =
    let columns = c.args.columns.now in
    let asked = rw c.in-Some.is at c.in_ok-join.ensures.asked in
    IfOk-weaker c.names_of.result _ _ (names-of one_clause c.args.inputs.now.request.now columns.left columns.right c.in-Some.join asked) c.names_of.ensures

pub returns-in-None : goal.returns-in-None
returns-in-None c = λ names a.
    let none = rw c.in-None.is at c.in_ok-join.ensures.asked in
    none a.join a.asked
