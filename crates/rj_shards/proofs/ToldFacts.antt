-- The inputs that faults tell.
use Rattle.std.proofs.Common.{◌≡◌, ◌≤◌, ℕ, Bool, true, Option, None, Some, IfSome, Err, refl, sym, subst}
use Rattle.std.specs.Prelude.{nat_le}
use Rattle.std.proofs.lemmas.Bool.{and_from, le-leb}
use Rattle.rj_settings.specs.declared.choice.RowOrder.{RowOrder}
use Rattle.rj_shards.specs.declared.merge.refused.MergeRefused.{MergeRefused}
use Rattle.rj_shards.specs.declared.merge.refused.MergeRefused.TheVariants as refused
use Rattle.rj_shards.specs.Inputs.{is_input}
use Rattle.rj_shards.specs.Sources.{TellsAmong, TellsOf, told_input}
use Rattle.rj_shards.specs.MergeTexts.{place_of}

some_among : (numbers : ℕ → Bool) (number : ℕ) (o : Option ℕ) → IfSome o (λ i. i ≡ number) → numbers number ≡ true → IfSome o (λ i. numbers i ≡ true)
some_among numbers number None is one = tt
some_among numbers number (Some i) is one = subst (λ n. numbers n ≡ true) (sym is) one

-- a fault that tells this number tells one of these
pub told_among : (numbers : ℕ → Bool) (number : ℕ) (e : MergeRefused) → TellsOf number e → numbers number ≡ true → TellsAmong numbers e
told_among numbers number e = some_among numbers number (told_input e)

-- a place that can't be told is one of this input
pub told_place : (order : RowOrder) (input row : ℕ) (left right : Option (Option ℕ)) (e : MergeRefused) → place_of order input row left right ≡ Err e → TellsOf input e
told_place order input row None right e is = let same : refused.BadPlace input row ≡ e = cc in subst (TellsOf input) same refl
told_place order input row (Some left) None e is = let same : refused.BadPlace input row ≡ e = cc in subst (TellsOf input) same refl
told_place order input row (Some None) (Some None) e is = let same : refused.NoPlace input row ≡ e = cc in subst (TellsOf input) same refl
told_place order input row (Some None) (Some (Some right)) e is = absurd (cc)
told_place order input row (Some (Some left)) (Some None) e is = absurd (cc)
told_place order input row (Some (Some left)) (Some (Some right)) e is = absurd (cc)

pub input_within : (count number : ℕ) → 1 ≤ number → number ≤ count → is_input count number ≡ true
input_within count number low high = and_from (nat_le 1 number) (nat_le number count) (le-leb 1 number low) (le-leb number count high)
