use Rattle.std.proofs.Common.{◌≡◌, ◌≤◌, ◌<◌, ◌-◌, All, List, ℕ, drop, length, subst, sym, take}
use Rattle.rj_engine.specs.declared.joined.JoinedRow.{JoinedRow}
use Rattle.rj_engine.specs.Chosen.{shown_rows}
use Rattle.rj_engine.specs.Join.{JoinedValue}
use Rattle.rj_engine.specs.Shown.{StandsWithin, rows_between}
use Rattle.rj_engine.proofs.MatchFacts.{matches_between}
use Rattle.rj_engine.proofs.runs.match_end.Goals as goal

pub returns-in-None-clause-rows : goal.returns-in-None-clause-rows
returns-in-None-clause-rows c =
    let P : JoinedRow → Type 0 = StandsWithin c.args.first c.args.end in let v : JoinedValue = c.args.joined.now.members in
    let from : ℕ = c.args.from in let to : ℕ = c.end_within.result in
    let long = subst (λ (ps : List (ℕ × ℕ)). length (drop from (take to ps)) ≡ to - from) c.kept_pairs.ensures c.end_within.ensures.places in
    let all = subst (λ (ps : List (ℕ × ℕ)). All (λ p. (c.args.first ≤ p.0) × (p.0 < c.args.end)) (drop from (take to ps))) c.kept_pairs.ensures c.end_within.ensures.rows in
    subst (λ o. All P (rows_between from to (shown_rows o v))) (sym c.in-None.is) (matches_between P v from to c.end_within.ensures.from long all)
