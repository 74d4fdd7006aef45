-- What a lawful delimiter is not.
use Rattle.std.specs.Prelude.{ℕ, ◌==◌, ◌≡◌, true, false}
use Rattle.std.proofs.Common.{refl, sym, ap, ◌∙◌, inl, inr}
use Rattle.std.proofs.lemmas.Bool.{cases_Bool, eqb-true, eq-eqb, false≢true}
use Rattle.rj_csv_io.specs.Grammar.{may_delimit}

pub record Lawful (d : ℕ) : Type 0 where
  pub is-self : (d == d) ≡ true
  pub no-lf : (d == 10) ≡ false
  pub no-cr : (d == 13) ≡ false
  pub no-dquote : (d == 34) ≡ false
  pub lf-not : (10 == d) ≡ false
  pub cr-not : (13 == d) ≡ false
  pub letter-not : (97 == d) ≡ false

-- two bytes are not the same if one of them may delimit and the other one may not
differs : (a b : ℕ) → may_delimit a ≡ true → may_delimit b ≡ false → (a == b) ≡ false
differs a b may never = elim (cases_Bool (a == b)) [
  | inl same ↦ absurd (false≢true (sym never ∙ (ap may_delimit (sym (eqb-true a b same)) ∙ may)))
  | inr other ↦ other
]

differs-back : (a b : ℕ) → may_delimit a ≡ false → may_delimit b ≡ true → (a == b) ≡ false
differs-back a b never may = elim (cases_Bool (a == b)) [
  | inl same ↦ absurd (false≢true (sym never ∙ (ap may_delimit (eqb-true a b same) ∙ may)))
  | inr other ↦ other
]

pub lawful-is : (d : ℕ) → may_delimit d ≡ true → Lawful d
lawful-is d may = record {
  is-self = eq-eqb d d refl;
  no-lf = differs d 10 may refl;
  no-cr = differs d 13 may refl;
  no-dquote = differs d 34 may refl;
  lf-not = differs-back 10 d refl may;
  cr-not = differs-back 13 d refl may;
  letter-not = differs-back 97 d refl may;
}
