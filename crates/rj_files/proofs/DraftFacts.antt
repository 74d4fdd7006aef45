-- A mode's bits, by its octal digits.
use Rattle.std.proofs.Common.{◌≡◌, ◌∙◌, ℕ, ◌+◌, ◌*◌, ◌/◌, ◌%◌, ◌^◌, ◌<◌, bit_and, bit_or, sym, ap, ap₂, zero-add, lit<, lit≤, arith}
use Rattle.std.proofs.Math.Nat.{mod-mod}
use Rattle.std.proofs.lemmas.Nat.{and_block, and_mask, div-add-mod', mod_below, or_block, or_comm, or_shifted, shl_whole, shr-shr}
use Rattle.rj_files.specs.Drafts.{without_group}

-- the two digits of the owner, that of the group and that of others
digits : (m : ℕ) → m ≡ m / 64 * 2 ^ 6 + (m / 8 % 8 * 2 ^ 3 + m % 8)
digits m =
    let low : m / 8 * 8 + m % 8 ≡ m = div-add-mod' m 8 in
    let middle : m / 8 / 8 * 8 + m / 8 % 8 ≡ m / 8 = div-add-mod' (m / 8) 8 in
    let high : m / 8 / 8 ≡ m / 64 = shr-shr m 3 3 in
    omega (arith, low, middle, high)

-- what stays: all of the owner's and of others' digits, and in the group's what others may do
kept : (others : ℕ) → others < 8 → bit_or 4039 (others * 8) ≡ 63 * 2 ^ 6 + (others * 2 ^ 3 + 7)
kept others small =
    ap (bit_or 4039) (sym (zero-add (others * 8)))
    ∙ or_block 6 63 0 7 (others * 8) (lit< tt) (omega (arith, small))
    ∙ ap (λ (x : ℕ). 63 * 2 ^ 6 + x) (or_comm 7 (others * 8) ∙ or_shifted others 3 7 (lit< tt))

pub without_group_is : (m : ℕ) → bit_and m (bit_or 4039 (bit_and m 7 * 2 ^ 3 % 2 ^ 32)) ≡ without_group m
without_group_is m =
    let others : m % 8 < 8 = mod_below m 8 (lit< tt) in
    let group : m / 8 % 8 < 8 = mod_below (m / 8) 8 (lit< tt) in
    ap (λ (x : ℕ). bit_and m (bit_or 4039 (x * 2 ^ 3 % 2 ^ 32))) (and_mask m 3)
    ∙ ap (λ (x : ℕ). bit_and m (bit_or 4039 x)) (shl_whole (m % 8) 3 3 32 others (lit≤ tt))
    ∙ ap (bit_and m) (kept (m % 8) others)
    ∙ ap (λ (x : ℕ). bit_and x (63 * 2 ^ 6 + (m % 8 * 2 ^ 3 + 7))) (digits m)
    ∙ and_block 6 (m / 64) 63 (m / 8 % 8 * 2 ^ 3 + m % 8) (m % 8 * 2 ^ 3 + 7) (omega (arith, others, group)) (omega (arith, others))
    ∙ ap₂ (λ (x y : ℕ). x * 2 ^ 6 + y) (and_mask (m / 64) 6)
    (and_block 3 (m / 8 % 8) (m % 8) (m % 8) 7 others (lit< tt)
    ∙ ap (λ (x : ℕ). bit_and (m / 8 % 8) (m % 8) * 2 ^ 3 + x) (and_mask (m % 8) 3 ∙ mod-mod m 8))
