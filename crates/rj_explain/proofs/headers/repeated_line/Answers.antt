use Rattle.std.proofs.Common.{◌∙◌, arith, map}
use Rattle.std.proofs.lemmas.Result.{IfOk-weaker}
use Rattle.rj_explain.proofs.NameFacts.{index-is, repeated-is}
use Rattle.rj_explain.proofs.headers.repeated_line.Goals as goal

pub returns : goal.returns
returns c =
    let names = map (λ n. n.now) c.args.names.now in
    let i = c.in-Some.i in
    IfOk-weaker c.format.result _ _
    (λ s told. told ∙ repeated-is names c.args.name.now _ i _ c.in-Some.ensures.place (index-is c.args.names.now i _ (omega (arith, c.in-Some.ensures.within)))) c.format.ensures.ok
