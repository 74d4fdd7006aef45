-- A delimiter is none of the bytes that may not be one.
use Rattle.std.proofs.Common.{◌≡◌, ◌∙◌, ℕ, true, false, sym, ap, inl, inr}
use Rattle.std.specs.Prelude.{◌==◌}
use Rattle.std.proofs.lemmas.Bool.{cases_Bool, eqb-true, false≢true}
use Rattle.rj_csv_io.specs.Grammar.{may_delimit}

module _ (d : ℕ) (lawful : may_delimit d ≡ true) (c : ℕ) (other : may_delimit c ≡ false) where
  pub no-delimiter : (c == d) ≡ false
  no-delimiter = elim (cases_Bool (c == d)) [
    | inl same ↦ absurd (false≢true (sym other ∙ (ap may_delimit (eqb-true c d same) ∙ lawful)))
    | inr differs ↦ differs
  ]

  -- the same, from the delimiter
  pub delimiter-other : (d == c) ≡ false
  delimiter-other = elim (cases_Bool (d == c)) [
    | inl same ↦ absurd (false≢true (sym other ∙ (ap may_delimit (sym (eqb-true d c same)) ∙ lawful)))
    | inr differs ↦ differs
  ]
