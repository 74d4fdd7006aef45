use Rattle.std.proofs.Common.{map, subst}
use Rattle.std.specs.Prelude.{IfErr, IfSome}
use Rattle.rj_shards.specs.Texts.{HaveFirstRows}
use Rattle.rj_shards.specs.declared.division.reading.Reading.{Reading}
use Rattle.shards.specs.Ranges.{range_dividing}
use Rattle.shards.proofs.dividing.divide_input.Goals as goal

pub returns-clause-partly : goal.returns-clause-partly
returns-clause-partly g c =
    let told = g.O.Output.told in
    subst (λ (how : Reading). IfErr c.divide.result (λ e. IfSome (g.I.Input.tells c.args.input.now) (λ text.
    HaveFirstRows (range_dividing (g.W.Route.part c.args.route.now) c.args.range.now) how text (map told c.args.outputs.now) (map told c.divide.new.outputs) e))) c.reading_of-reading.ensures c.divide.ensures.partly
