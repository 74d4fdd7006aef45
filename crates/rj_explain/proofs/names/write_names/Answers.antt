use Rattle.std.proofs.Common.{◌≡◌, ◌∙◌, ◌+◌, ◌++◌, ap, rules, sym, take}
use Rattle.std.proofs.Output.{has_written_append, has_written_of_eq}
use Rattle.rj_explain.specs.Shown.{listed}
use Rattle.rj_explain.proofs.NameFacts.{listed-more}
use Rattle.rj_explain.proofs.names.write_names.Goals as goal

pub loop-column-preserved : goal.loop-column-preserved
loop-column-preserved g c = λ plain.
    let names = c.args.table.now.names in
    let i = c.loop-column.column in
    let name = c.name-name.result.now in
    let more : listed (take i names) ++ (c.before_name-before.result.now ++ name) ≡ listed (take (i + 1) names) =
    ap (λ before. listed (take i names) ++ (before ++ name)) c.before_name-before.ensures ∙ sym (listed-more names i name c.name-name.ensures) in
    has_written_of_eq _ _ _ _ _ more (has_written_append _ _ _ _ _ _ (c.loop-column.invariant plain) (search rules))
