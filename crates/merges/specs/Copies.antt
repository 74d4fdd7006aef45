-- The copies of each file, by the list of `--copies`.
use Rattle.std.specs.Prelude.{◌≡◌, ◌==◌, ◌&&◌, ℕ, nat_le, if◌then◌else◌, List, length, map, replicate, codes, Option, None, Some}
use Rattle.std.specs.Char.{is_ascii_digit}
use Rattle.std.specs.List.{after_first, before_first, list_all, slice_split}
use Rattle.std.specs.Str.{bytes_eq}
use Rattle.std.specs.Str.Parse.{digits_value}
use Rattle.rj_shards.specs.Copies.{single}
use Rattle.rj_shards.specs.declared.merge.copies.Copies.{Copies}

-- a number of files: digits without a sign, from 1 to 1,048,576
abbrev pub number_of : List ℕ → Option ℕ
number_of text =
    if list_all is_ascii_digit text && (nat_le 1 (digits_value 10 text) && nat_le (digits_value 10 text) 1048576) then Some (digits_value 10 text) else None

abbrev pub copies_by : Option ℕ → Option ℕ → Option Copies
copies_by (Some left) (Some right) = Some (record { left = left; right = right })
copies_by _ _ = None

-- the copies of an entry: `1`, or two numbers with an `x`, which is 120, between them
abbrev pub copies_of : List ℕ → Option Copies
copies_of entry =
    if bytes_eq entry (codes "1") then Some single else copies_by (number_of (before_first (λ b. b == 120) entry)) (number_of (after_first (λ b. b == 120) entry))

-- the copies of so many files: without a list each is alone, and else it has an entry for each file,
-- between commas, which are 44
abbrev pub AreCopiesOf : Option (List ℕ) → ℕ → List Copies → Type 0
AreCopiesOf None files all = all ≡ replicate files single
AreCopiesOf (Some list) files all = (map copies_of (slice_split (λ b. b == 44) list) ≡ map Some all) × (length all ≡ files)
