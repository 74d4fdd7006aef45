-- The number that an option's value writes.
use Rattle.std.proofs.Common.{◌≡◌, ◌<◌, ◌^◌, ℕ, List, length, true, Some, Result, Ok, Err, refl, sym, ap, ◌∙◌, inl, inr, rules}
use Rattle.std.specs.Prelude.{◌&&◌, nat_lt, unwrap_or}
use Rattle.std.specs.Bool.{Decides}
use Rattle.std.specs.Char.{is_ascii_digit}
use Rattle.std.specs.List.{list_all}
use Rattle.std.specs.Result.{result_ok}
use Rattle.std.specs.Str.Parse.{ParsesUnsigned, digits_value, without_leading_plus}
use Rattle.std.proofs.lemmas.Bool.{cases_Bool}
use Rattle.std.proofs.lemmas.Bool.Decides.{Decides-and, Decides-ltb}
use Rattle.std.proofs.lemmas.Str.Parse.{IsDigitsTest, IsNumeralModel, numerals_by_value}
use Rattle.arrivals.specs.Lines.{number_or}
use Rattle.rj_line.specs.Script.{is_numeral, number_of}

tells_digits : IsDigitsTest (λ ds. list_all is_ascii_digit ds ≡ true)
tells_digits = search rules

model : IsNumeralModel (λ ds. list_all is_ascii_digit ds ≡ true) (digits_value 10)
model = numerals_by_value _ tells_digits

number-Decides : (digits : List ℕ) → Decides (is_numeral digits && nat_lt (digits_value 10 digits) (2 ^ 32)) (((0 < length digits) × (list_all is_ascii_digit digits ≡ true)) × (digits_value 10 digits < 2 ^ 32))
number-Decides digits =
    Decides-and (is_numeral digits) (nat_lt (digits_value 10 digits) (2 ^ 32))
    (Decides-and (nat_lt 0 (length digits)) (list_all is_ascii_digit digits) (Decides-ltb 0 (length digits)) (λ e. e, λ e. e))
    (Decides-ltb (digits_value 10 digits) (2 ^ 32))

-- what `parse` reads of a value, or another number
read : {E : Type 0} (text : List ℕ) (r : Result ℕ E) → ParsesUnsigned 32 10 text r → result_ok r ≡ number_of (2 ^ 32) (without_leading_plus text)
read {E} text (Ok n) q =
    let digits = without_leading_plus text in
    let is = (number-Decides digits).1 ((q.0.0.0, model.from digits q.0.0.1), q.0.1) in
    rw (is, q.1) refl
read {E} text (Err x) q =
    let digits = without_leading_plus text in
    elim (cases_Bool (is_numeral digits && nat_lt (digits_value 10 digits) (2 ^ 32))) [
      | inl holds ↦ let n = (number-Decides digits).0 holds in absurd (q ((n.0.0, model.to digits n.0.1), n.1))
      | inr fails ↦ rw fails refl
    ]

pub number-ok : {E : Type 0} (text : List ℕ) (r : Result ℕ E) (n other : ℕ) → ParsesUnsigned 32 10 text r → r ≡ Ok n → n ≡ number_or other (Some text)
number-ok {E} text r n other q e = ap (λ o. unwrap_or o other) (sym (ap result_ok e) ∙ read text r q)

pub number-err : {E : Type 0} (text : List ℕ) (r : Result ℕ E) (x : E) (other : ℕ) → ParsesUnsigned 32 10 text r → r ≡ Err x → other ≡ number_or other (Some text)
number-err {E} text r x other q e = ap (λ o. unwrap_or o other) (sym (ap result_ok e) ∙ read text r q)
