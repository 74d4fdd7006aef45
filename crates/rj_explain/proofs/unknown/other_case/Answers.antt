use Rattle.std.proofs.Common.{◌≡◌, ◌∙◌, List, ℕ, false, rules, true}
use Rattle.std.specs.Str.{str_eq_ignore_ascii_case}
use Rattle.rj_explain.proofs.LookFacts.{find-here, find-more}
use Rattle.rj_explain.proofs.unknown.other_case.Goals as goal

pub returns-then-eq_ignore_ascii_case : goal.returns-then-eq_ignore_ascii_case
returns-then-eq_ignore_ascii_case c =
    let name = c.args.name.now in
    let other = c.name-other.result.now in
    let alike : str_eq_ignore_ascii_case other name ≡ true = search rules in
    find-here (λ (x : List ℕ). str_eq_ignore_ascii_case x name) c.args.table.now.names c.loop-column.column other c.name-other.ensures alike
    ∙ c.loop-column.invariant

pub loop-column-preserved : goal.loop-column-preserved
loop-column-preserved c =
    let name = c.args.name.now in
    let other = c.name-other.result.now in
    let apart : str_eq_ignore_ascii_case other name ≡ false = search rules in
    find-more (λ (x : List ℕ). str_eq_ignore_ascii_case x name) c.args.table.now.names c.loop-column.column other c.name-other.ensures apart
    ∙ c.loop-column.invariant
