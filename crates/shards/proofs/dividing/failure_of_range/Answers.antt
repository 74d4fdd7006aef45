use Rattle.std.proofs.Common.{◌≡◌, ◌∙◌, false, inl, refl, rules, sym, true, true≢false}
use Rattle.shards.specs.Plans.{is_after_rows}
use Rattle.shards.proofs.PlanFacts.{looked-at}
use Rattle.shards.proofs.dividing.failure_of_range.Goals as goal

pub returns-then-not-is_after_rows : goal.returns-then-not-is_after_rows
returns-then-not-is_after_rows g c =
    let no : c.is_after_rows.result ≡ false = search rules in
    inl (refl, ((λ after. absurd (true≢false (sym after ∙ (sym c.is_after_rows.ensures ∙ no)))), λ before. refl))

pub returns : goal.returns
returns g c =
    let yes : c.is_after_rows.result ≡ true = search rules in
    looked-at (is_after_rows c.args.failure) (sym c.is_after_rows.ensures ∙ yes) c.look_at_rows.ensures
