-- What texts of digits write.
use Rattle.std.proofs.Common.{◌≡◌, ◌∙◌, ◌<◌, ◌^◌, ◌&&◌, ℕ, Bool, List, [], ◌∷◌, length, true, false, None, Some, Result, Ok, Err, refl, sym, ap, subst, inl, inr, arith, rules, if◌then◌else◌}
use Rattle.std.specs.Prelude.{nat_le, option_map}
use Rattle.std.specs.Char.{is_ascii_digit}
use Rattle.std.specs.List.{list_all}
use Rattle.std.specs.Result.{OkIff, result_ok}
use Rattle.std.specs.Str.{all_ascii_digits}
use Rattle.std.specs.Str.Parse.{ParsesUnsigned, digits_value, without_leading_plus}
use Rattle.std.proofs.lemmas.Bool.{cases_Bool}
use Rattle.std.proofs.lemmas.Bool.Decides.{nat_tests}
use Rattle.std.proofs.lemmas.Str.Parse.{IsDigitsTest, IsNumeralModel, numerals_by_value, parse_digits, tells_all_ascii_digits}
use Rattle.merges.specs.Copies as copies
use Rattle.merges.specs.Lines as lines
use Rattle.merges.specs.Lines.{place_named}
use Rattle.rj_shards.specs.MergeTexts.{is_number}
use Rattle.rj_shards.specs.declared.merge.place.Place.TheVariants.{Pair}
use Rattle.rj_shards.proofs.NumberFacts.{number-Decides}

tells_digits : IsDigitsTest (λ ds. list_all is_ascii_digit ds ≡ true)
tells_digits = search rules

model : IsNumeralModel (λ ds. list_all is_ascii_digit ds ≡ true) (digits_value 10)
model = numerals_by_value _ tells_digits

-- what `parse` says of digits that are no number of 32 bits
pub number-err : {E : Type 0} (text : List ℕ) (r : Result ℕ E) (x : E) → list_all is_ascii_digit text ≡ true → ParsesUnsigned 32 10 text r → r ≡ Err x → copies.number_of text ≡ None
number-err {E} [] r x d h e = refl
number-err {E} (c ∷ cs) r x d h e =
    let P : Result ℕ E → Type 0 = λ r. OkIff r ((0 < length (c ∷ cs)) × (digits_value 10 (c ∷ cs) < 2 ^ 32)) (digits_value 10 (c ∷ cs)) in
    let at = subst P e (parse_digits model 32 (c ∷ cs) r h d) in
    let v = digits_value 10 (c ∷ cs) in
    let large : nat_le v 1048576 ≡ false = by_size v (λ small. at (omega arith, small)) in
    rw (d, large) (none v (nat_le 1 v))
  where
    by_size : (v : ℕ) → (v < 2 ^ 32 → ⊥) → nat_le v 1048576 ≡ false
    by_size v h = grind (arith, nat_tests)

    none : (x : ℕ) (b : Bool) → (if true && (b && false) then Some x else None) ≡ None
    none x true = refl
    none x false = refl

own : IsNumeralModel (λ ds. all_ascii_digits ds ≡ true) (digits_value 10)
own = numerals_by_value _ tells_all_ascii_digits

-- what `parse` says of a number of 64 bits
number-parsed : {E : Type 0} (text : List ℕ) (r : Result ℕ E) → ParsesUnsigned 64 10 text r → result_ok r ≡ lines.number_of (without_leading_plus text)
number-parsed {E} text (Ok n) q =
    let digits = without_leading_plus text in
    let is : is_number digits ≡ true = (number-Decides digits).1 ((q.0.0.0, own.from digits q.0.0.1), q.0.1) in
    rw (is, q.1) refl
number-parsed {E} text (Err x) q =
    let digits = without_leading_plus text in
    elim (cases_Bool (is_number digits)) [
      | inl holds ↦ let n = (number-Decides digits).0 holds in absurd (q ((n.0.0, own.to digits n.0.1), n.1))
      | inr fails ↦ rw fails refl
    ]

pub place-ok : {E : Type 0} (text : List ℕ) (r : Result ℕ E) (left : ℕ) → ParsesUnsigned 64 10 text r → r ≡ Ok left → Some (Pair left 0) ≡ place_named (Some text)
place-ok {E} text r left q e = ap (option_map (λ (n : ℕ). Pair n 0)) (sym (ap result_ok e) ∙ number-parsed text r q)

pub place-err : {E : Type 0} (text : List ℕ) (r : Result ℕ E) (x : E) → ParsesUnsigned 64 10 text r → r ≡ Err x → None ≡ place_named (Some text)
place-err {E} text r x q e = ap (option_map (λ (n : ℕ). Pair n 0)) (sym (ap result_ok e) ∙ number-parsed text r q)
