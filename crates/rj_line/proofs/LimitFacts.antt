-- Numbers that options give are within the limits of settings.
use Rattle.std.proofs.Common.{◌≡◌, ◌≤◌, ℕ, true, nat_le, subst, arith, Option, Some, None}
use Rattle.std.specs.Prelude.{ℤ, pos, ◌≤ℤ◌}
use Rattle.std.specs.Cmp.Derive.{both_true}
use Rattle.std.proofs.lemmas.Bool.Decides.{nat_tests}
use Rattle.std.proofs.lemmas.Int.{ints}
use Rattle.clap.specs.Words.{Text}
use Rattle.rj_settings.specs.Limits.{between, in_limits}
use Rattle.rj_line.specs.Line.{IsNumberIn, IsNumberOr}

between_true : (low high n : ℕ) → low ≤ n → n ≤ high → between low high n ≡ true
between_true low high n l h =
    let a : nat_le low n ≡ true = grind (arith, nat_tests, l) in
    let b : nat_le n high ≡ true = grind (arith, nat_tests, h) in
    both_true a b

-- a number that an option gives, or that stands for it, is in the option's limits
pub number_between : (low high other : ℕ) (o : Option Text) (n : ℕ) → low ≤ other → other ≤ high → IsNumberIn low high o → IsNumberOr other o n → between low high n ≡ true
number_between low high other None n l h within is = between_true low high n (omega arith) (omega arith)
number_between low high other (Some text) n l h within is =
    let P : ℤ → Type 0 = λ z. (pos low ≤ℤ z) × (z ≤ℤ pos high) in
    let q : (pos low ≤ℤ pos n) × (pos n ≤ℤ pos high) = subst P is.1 (within.2, within.3) in
    between_true low high n (omega (arith, ints)) (omega (arith, ints))

pub all_between : (workers bits1 bits2 block lanes capacity retries : ℕ) → between 1 64 workers ≡ true → between 0 10 bits1 ≡ true → between 0 10 bits2 ≡ true
    → between 1 65536 block ≡ true → between 1 4 lanes ≡ true → between 1 4096 capacity ≡ true → between 0 3 retries ≡ true
    → in_limits workers bits1 bits2 block lanes capacity retries ≡ true
all_between workers bits1 bits2 block lanes capacity retries a b c d e f g =
    both_true (both_true (both_true (both_true (both_true (both_true a b) c) d) e) f) g
