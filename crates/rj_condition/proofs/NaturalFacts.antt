-- One more left column of NATURAL.
use Rattle.std.proofs.Common.{◌≡◌, ℕ, ◌+◌, List, [], ◌∷◌, ◌++◌, length, drop, ap, ◌∙◌, Option, Some, Result, Ok, Err}
use Rattle.std.specs.Prelude.{slice_get}
use Rattle.std.specs.List.{position_from}
use Rattle.std.specs.Str.{str_eq_ignore_ascii_case}
use Rattle.rj_columns.specs.Tables.{TableValue}
use Rattle.rj_condition.specs.declared.refused.BindRefused.{BindRefused}
use Rattle.rj_condition.specs.Resolved.{and_then}
use Rattle.rj_condition.specs.Partners.{natural_partner, natural_from}
use Rattle.rj_condition.proofs.StepFacts.{drop_get}

module _ (l r : TableValue) (partners : List (Option ℕ)) (i : ℕ) (n : List ℕ) where
  abbrev partner_at : ℕ → Result (Option ℕ) BindRefused
  partner_at k = natural_partner l r k (position_from (str_eq_ignore_ascii_case n) 0 r.names)

  abbrev after : Result (Option ℕ) BindRefused → Result (List (Option ℕ)) BindRefused
  after z = and_then z (λ p. natural_from l r (partners ++ p ∷ []) (drop (i + 1) l.names))

  natural_step : slice_get l.names i ≡ Some n → length partners ≡ i → natural_from l r partners (drop i l.names) ≡ after (partner_at i)
  natural_step h len = ap (natural_from l r partners) (drop_get l.names i n h) ∙ ap (λ k. after (partner_at k)) len

  pub natural_next : (p : Option ℕ) → slice_get l.names i ≡ Some n → length partners ≡ i → partner_at i ≡ Ok p →
      natural_from l r partners (drop i l.names) ≡ natural_from l r (partners ++ p ∷ []) (drop (i + 1) l.names)
  natural_next p h len e = natural_step h len ∙ ap after e

  pub natural_fault : (f : BindRefused) → slice_get l.names i ≡ Some n → length partners ≡ i → partner_at i ≡ Err f → natural_from l r partners (drop i l.names) ≡ Err f
  natural_fault f h len e = natural_step h len ∙ ap after e
