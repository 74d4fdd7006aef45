use Rattle.std.proofs.Common.{◌≡◌, ◌≢◌, ◌∷◌, [], ℕ, List, true, false, true≢false, suc, refl, sym, ◌∙◌, ap, arith, length}
use Rattle.std.specs.Prelude.{◌==◌}
use Rattle.std.proofs.lemmas.Bool.Decides.{nat_tests}
use Rattle.rj_settings.proofs.SelectedFacts.{entry_ends, entry_missing, entry_more, entry_run_on}
use Rattle.rj_settings.proofs.types.selected.entry_at.Goals as goal

-- whether a text is empty
is_nothing : (text : List ℕ) → (length text == 0) ≡ true → text ≡ []
is_nothing [] is = refl
is_nothing (b ∷ text) is = absurd (no_length (length text) is)
  where
    no_length : (n : ℕ) → (suc n == 0) ≡ true → ⊥
    no_length n is = grind (arith, nat_tests)

is_something : (text : List ℕ) → (length text == 0) ≡ false → text ≢ []
is_something text is nothing = true≢false (sym (ap (λ (t : List ℕ). length t == 0) nothing) ∙ is)

pub returns-in_default : goal.returns-in_default
returns-in_default c = entry_missing c.args.text.now (rw c.in_default.is at c.in_ok-entry.ensures)

pub returns-then-is_empty : goal.returns-then-is_empty
returns-then-is_empty c =
    entry_ends c.in-Some.entry c.args.text.now c.in-Some.after.now (rw c.in-Some.is at c.in_ok-entry.ensures)
    (is_nothing c.in-Some.after.now (sym c.is_empty.ensures ∙ c.if-is_empty.true))

pub returns-in-Some-behind : goal.returns-in-Some-behind
returns-in-Some-behind c =
    entry_more c.in-Some.entry c.args.text.now c.in-Some.after.now c.in-Some-behind.rest.now (rw c.in-Some.is at c.in_ok-entry.ensures) c.in-Some-behind.ensures

pub returns-in-None : goal.returns-in-None
returns-in-None c =
    entry_run_on c.in-Some.entry c.args.text.now c.in-Some.after.now (rw c.in-Some.is at c.in_ok-entry.ensures)
    (is_something c.in-Some.after.now (sym c.is_empty.ensures ∙ c.if-is_empty.false)) c.in-None.ensures
