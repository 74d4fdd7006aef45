-- Numerals, as std reads them.
use Rattle.std.proofs.Common.{◌≡◌, ℕ, ◌<◌, ◌^◌, ◌&&◌, Bool, true, false, List, length, nat_lt, ap, sym, ◌∙◌, arith, rules, Some, None, Result, Ok, Err, if◌then◌else◌}
use Rattle.std.specs.Result.{OkIff, result_ok}
use Rattle.std.specs.Char.{is_ascii_digit}
use Rattle.std.specs.List.{list_all}
use Rattle.std.specs.Str.{IsUtf8}
use Rattle.std.specs.Str.Parse.{ParsesUnsigned, digits_value}
use Rattle.std.proofs.lemmas.Str.{IsUtf8-from_ascii}
use Rattle.std.proofs.lemmas.Fmt.{IsAscii-from_digits}
use Rattle.std.proofs.lemmas.Str.Parse.{IsNumeralModel, IsDigitsTest, numerals_by_value, parse_digits}
use Rattle.std.proofs.lemmas.Bool.{and_parts, lt-ltb}
use Rattle.std.proofs.lemmas.Bool.Decides.{nat_tests}
use Rattle.rj_line.specs.Script.{is_numeral, number_of}

tells_digits : IsDigitsTest (λ ds. list_all is_ascii_digit ds ≡ true)
tells_digits = search rules

model : IsNumeralModel (λ ds. list_all is_ascii_digit ds ≡ true) (digits_value 10)
model = numerals_by_value _ tells_digits

above : (n : ℕ) → nat_lt 0 n ≡ true → 0 < n
above n h = grind (arith, nat_tests)

-- a numeral is text
pub numeral_is_text : (word : List ℕ) → is_numeral word ≡ true → IsUtf8 word
numeral_is_text word h = IsUtf8-from_ascii word (IsAscii-from_digits word (model.to word (and_parts _ _ h).1))

not_below : (n limit : ℕ) → ¬ (n < limit) → nat_lt n limit ≡ false
not_below n limit h = grind (arith, nat_tests)

-- what parsing it gives
pub numeral_is_parsed : {E : Type 0} (k : ℕ) (word : List ℕ) (r : Result ℕ E) → ParsesUnsigned k 10 word r → is_numeral word ≡ true → result_ok r ≡ number_of (2 ^ k) word
numeral_is_parsed k word r p h = by_case r (parse_digits model k word r p (and_parts _ _ h).1)
  where
    by_case : {E : Type 0} (r : Result ℕ E) → OkIff r ((0 < length word) × (digits_value 10 word < 2 ^ k)) (digits_value 10 word) → result_ok r ≡ number_of (2 ^ k) word
    by_case (Ok x) q = ap Some q.1 ∙ ap (λ (t : Bool). if t then Some (digits_value 10 word) else None) (sym (ap (λ (t : Bool). t && nat_lt (digits_value 10 word) (2 ^ k)) h ∙ lt-ltb _ _ q.0.1))
    by_case (Err e) q = ap (λ (t : Bool). if t then Some (digits_value 10 word) else None) (sym (ap (λ (t : Bool). t && nat_lt (digits_value 10 word) (2 ^ k)) h ∙ not_below _ _ (λ l. q (above _ (and_parts _ _ h).0, l))))
