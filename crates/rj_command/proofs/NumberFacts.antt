-- The text of a number is UTF-8, since it is ASCII.
use Rattle.std.proofs.Common.{ℕ, zero, suc, ℤ, pos, negsuc, ◌+◌, ◌/◌, ◌%◌, ◌^◌, ◌<◌, ◌==◌, Bool, true, false, [], ◌∷◌, arith}
use Rattle.std.specs.Prelude.{if◌then◌else◌, unsigned_abs, IsUtf8}
use Rattle.std.specs.Str.{IsAscii}
use Rattle.std.specs.Fmt.{decimal}
use Rattle.std.proofs.Math.Nat.{div-le_self}
use Rattle.std.proofs.lemmas.Fmt.{IsAscii-decimal_wide}
use Rattle.std.proofs.lemmas.List.Elements.{All-cons, All-nil}
use Rattle.std.proofs.lemmas.Nat.{mod_below}
use Rattle.std.proofs.lemmas.Str.{IsAscii-append, IsUtf8-from_ascii}
use Rattle.std.proofs.lemmas.Str.Ascii.{IsAscii-from_all, IsAscii-nil}
use Rattle.rj_columns.specs.NumbersWritten.{fraction_text, last_digits, size_text, text_of}

byte-ascii : (b : ℕ) → b < 128 → IsAscii (b ∷ [])
byte-ascii b low = IsAscii-from_all (b ∷ []) (All-cons (λ c. c < 128) b [] low (All-nil (λ c. c < 128)))

digits-ascii : (count n : ℕ) → IsAscii (last_digits count n)
unfolding last_digits
digits-ascii zero n = IsAscii-nil
digits-ascii (suc count) n =
    let low : n % 10 < 10 = mod_below n 10 (omega arith) in
    IsAscii-append (last_digits count (n / 10)) ((48 + n % 10) ∷ []) (digits-ascii count (n / 10)) (byte-ascii (48 + n % 10) (omega (arith, low)))

fraction-ascii : (scale n : ℕ) → IsAscii (fraction_text scale n)
fraction-ascii scale n = go (scale == 0)
  where
    go : (b : Bool) → IsAscii (if b then [] else 46 ∷ last_digits scale n)
    go true = IsAscii-nil
    go false = IsAscii-append (46 ∷ []) (last_digits scale n) (byte-ascii 46 (omega arith)) (digits-ascii scale n)

size-ascii : (scale n : ℕ) → n < 10 ^ 64 → IsAscii (size_text scale n)
size-ascii scale n low =
    let whole : n / 10 ^ scale < 10 ^ 64 = omega (arith, div-le_self n (10 ^ scale)) in
    IsAscii-append (decimal (n / 10 ^ scale)) (fraction_text scale (n % 10 ^ scale)) (IsAscii-decimal_wide (n / 10 ^ scale) whole) (fraction-ascii scale (n % 10 ^ scale))

text-ascii : (scale : ℕ) (u : ℤ) → unsigned_abs u < 10 ^ 64 → IsAscii (text_of scale u)
text-ascii scale (pos n) low = size-ascii scale n low
text-ascii scale (negsuc n) low = IsAscii-append (45 ∷ []) (size_text scale (suc n)) (byte-ascii 45 (omega arith)) (size-ascii scale (suc n) low)

pub text-utf8 : (scale : ℕ) (u : ℤ) → unsigned_abs u < 10 ^ 64 → IsUtf8 (text_of scale u)
text-utf8 scale u low = IsUtf8-from_ascii (text_of scale u) (text-ascii scale u low)
