use Rattle.std.proofs.Common.{◌≡◌, ◌∙◌, false, rules, true}
use Rattle.rj_condition.specs.Names.{matches}
use Rattle.rj_explain.proofs.LookFacts.{any-here, any-more}
use Rattle.rj_explain.proofs.clause.has_column.Goals as goal

pub returns-then-means : goal.returns-then-means
returns-then-means c =
    let name = c.args.name.now in
    let other = c.name-other.result.now in
    let means : matches name other ≡ true = search rules in
    any-here (matches name) c.args.table.now.names c.loop-column.column other c.name-other.ensures means ∙ c.loop-column.invariant

pub loop-column-preserved : goal.loop-column-preserved
loop-column-preserved c =
    let name = c.args.name.now in
    let other = c.name-other.result.now in
    let apart : matches name other ≡ false = search rules in
    any-more (matches name) c.args.table.now.names c.loop-column.column other c.name-other.ensures apart ∙ c.loop-column.invariant
