-- Operands that differ, one after another.
use Rattle.std.proofs.Common.{◌≡◌, ℕ, ◌+◌, List, drop, refl, Option, Some, None, option_map}
use Rattle.std.specs.Prelude.{slice_get}
use Rattle.std.specs.List.{position_from}
use Rattle.std.specs.Str.{str_eq_ignore_ascii_case}
use Rattle.rj_columns.specs.Tables.{TableValue}
use Rattle.rj_condition.specs.declared.bound.BoundOperand.TheVariants as bound
use Rattle.rj_condition.specs.Mismatches.{Pair, apart, first_common}
use Rattle.rj_condition.proofs.StepFacts.{drop_get}

module _ (l r : TableValue) (i : ℕ) (n : List ℕ) where
  abbrev pub common_at : Option Pair
  common_at = apart l r (Some (bound.Left i)) (option_map bound.Right (position_from (str_eq_ignore_ascii_case n) 0 r.names))

  pub common_found : (found : Pair) → slice_get l.names i ≡ Some n → common_at ≡ Some found → first_common l r i (drop i l.names) ≡ Some found
  common_found found h e = rw (drop_get l.names i n h, e) refl

  pub common_next : slice_get l.names i ≡ Some n → common_at ≡ None → first_common l r i (drop i l.names) ≡ first_common l r (i + 1) (drop (i + 1) l.names)
  common_next h e = rw (drop_get l.names i n h, e) refl
