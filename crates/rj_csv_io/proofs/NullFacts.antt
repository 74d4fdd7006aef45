-- Fields beside several null texts, and the texts of numbers beside them.
use Rattle.std.proofs.Common.{◌≡◌, ◌<◌, ◌+◌, ◌/◌, ◌%◌, ◌^◌, ◌∙◌, ℕ, ℤ, pos, negsuc, zero, suc, List, [], ◌∷◌, length, Bool, true, false, Bor, refl, sym, ap, arith}
use Rattle.std.specs.Prelude.{◌&&◌, not, ◌==◌, nat_lt, nat_le, if◌then◌else◌, slice_index_or}
use Rattle.std.specs.Char.{is_ascii_digit}
use Rattle.std.specs.Fmt.{decimal, digit_glyph, digits, digits_onto, signed_decimal}
use Rattle.std.specs.List.{list_all, list_any}
use Rattle.std.specs.Str.{bytes_eq}
use Rattle.std.proofs.lemmas.Bool.{false_from_ne_true, false≢true, and_parts, le-leb, lt-ltb}
use Rattle.std.proofs.Math.Bool.{or-true}
use Rattle.std.proofs.lemmas.List.Folds.{list_any-append, list_any_at}
use Rattle.std.proofs.lemmas.Slice.Eq.{bytes_eq-Decides}
use Rattle.rj_columns.specs.NumbersWritten.{size_text, text_of, fraction_text}
use Rattle.std.proofs.lemmas.List.{get_or-map, length-map}
use Rattle.rj_csv_io.specs.Tables.{may_stand_in_null, is_null_text}
use Rattle.rj_csv_io.specs.Typed.{is_null_field, null_texts}

-- a null text that a field is
pub null-found : (nulls : List (Bor (List ℕ))) (field text : List ℕ) (i : ℕ) (d : Bor (List ℕ)) → i < length nulls → text ≡ (slice_index_or nulls i d).now
    → true ≡ bytes_eq field text → is_null_field (null_texts nulls) field ≡ true
null-found nulls field text i d h at e =
    let size = length-map nulls (λ (n : Bor (List ℕ)). n.now) in
    let there = get_or-map (λ (n : Bor (List ℕ)). n.now) nulls i d [] h in
    list_any_at (λ null. bytes_eq field null) (null_texts nulls) i [] (omega (arith, size, h)) (ap (bytes_eq field) (there ∙ sym at) ∙ sym e)

-- a text with a digit
abbrev pub has_digit : List ℕ → Bool
has_digit text = list_any is_ascii_digit text

-- a null text has none
no-digit : (null : List ℕ) → list_all may_stand_in_null null ≡ true → has_digit null ≡ false
no-digit [] h = refl
no-digit (b ∷ null) h =
    let parts = and_parts (may_stand_in_null b) (list_all may_stand_in_null null) h in
    rw (go (nat_lt 32 b) (nat_lt b 127) (is_ascii_digit b) (not (b == 44)) (not (b == 34)) parts.0) (no-digit null parts.1)
  where
    go : (low high digit comma quote : Bool) → (low && high && not digit && comma && quote) ≡ true → digit ≡ false
    go low high false comma quote e = refl
    go true true true comma quote e = absurd (false≢true e)
    go true false true comma quote e = absurd (false≢true e)
    go false high true comma quote e = absurd (false≢true e)

glyph-digit : (n : ℕ) → is_ascii_digit (digit_glyph false (n % 10)) ≡ true
glyph-digit n =
    let low : n % 10 < 10 = omega arith in
    rw (lt-ltb (n % 10) 10 low, le-leb 48 (48 + n % 10) (omega arith), le-leb (48 + n % 10) 57 (omega arith)) refl

onto-keeps : (k n : ℕ) (more : List ℕ) → has_digit more ≡ true → has_digit (digits_onto k 10 false n more) ≡ true
onto-keeps zero n more h = h
onto-keeps (suc k) n more h =
    let here : has_digit (digit_glyph false (n % 10) ∷ more) ≡ true = rw h (or-true (is_ascii_digit (digit_glyph false (n % 10)))) in
    go (n / 10 == 0) here (onto-keeps k (n / 10) (digit_glyph false (n % 10) ∷ more) here)
  where
    go : (b : Bool) → has_digit (digit_glyph false (n % 10) ∷ more) ≡ true → has_digit (digits_onto k 10 false (n / 10) (digit_glyph false (n % 10) ∷ more)) ≡ true
        → has_digit (if b then digit_glyph false (n % 10) ∷ more else digits_onto k 10 false (n / 10) (digit_glyph false (n % 10) ∷ more)) ≡ true
    go true here later = here
    go false here later = later

onto-digit : (k n : ℕ) (more : List ℕ) → has_digit (digits_onto (suc k) 10 false n more) ≡ true
onto-digit k n more = go (n / 10 == 0)
  where
    here : has_digit (digit_glyph false (n % 10) ∷ more) ≡ true
    here = rw (glyph-digit n) refl

    go : (b : Bool) → has_digit (if b then digit_glyph false (n % 10) ∷ more else digits_onto k 10 false (n / 10) (digit_glyph false (n % 10) ∷ more)) ≡ true
    go true = here
    go false = onto-keeps k (n / 10) (digit_glyph false (n % 10) ∷ more) here

decimal-digit : (n : ℕ) → has_digit (decimal n) ≡ true
unfolding digits
decimal-digit n = onto-digit 63 n []

size-digit : (scale n : ℕ) → has_digit (size_text scale n) ≡ true
size-digit scale n = list_any-append is_ascii_digit (decimal (n / 10 ^ scale)) (fraction_text scale (n % 10 ^ scale)) ∙ rw (decimal-digit (n / 10 ^ scale)) refl

-- a text with a digit is no null text
apart : (text null : List ℕ) → is_null_text null ≡ true → has_digit text ≡ true → bytes_eq text null ≡ false
apart text null lawful digit = false_from_ne_true (bytes_eq text null) (λ same.
    let e = (bytes_eq-Decides text null).0 same in
    let none = no-digit null (and_parts (nat_le (length null) 16) (list_all may_stand_in_null null) lawful).1 in
    false≢true (sym none ∙ (ap has_digit (sym e) ∙ digit)))

-- the text of a number is no null text
pub whole-apart : (n : ℤ) (null : List ℕ) → is_null_text null ≡ true → bytes_eq (signed_decimal n) null ≡ false
whole-apart (pos n) null lawful = apart (decimal n) null lawful (decimal-digit n)
whole-apart (negsuc n) null lawful = apart (45 ∷ decimal (suc n)) null lawful (rw (decimal-digit (suc n)) (or-true (is_ascii_digit 45)))

pub decimal-apart : (scale : ℕ) (units : ℤ) (null : List ℕ) → is_null_text null ≡ true → bytes_eq (text_of scale units) null ≡ false
decimal-apart scale (pos n) null lawful = apart (size_text scale n) null lawful (size-digit scale n)
decimal-apart scale (negsuc n) null lawful = apart (45 ∷ size_text scale (suc n)) null lawful (rw (size-digit scale (suc n)) (or-true (is_ascii_digit 45)))
