-- Where a row is in a joined table, and the order of these places.
use Rattle.std.specs.Prelude.{◌≡◌, ℕ, Bool, not, Option, Some, None, false}
use Rattle.std.specs.Cmp.{IsTotalOrder, nat_cmp_total, on_total, then_total}
use Rattle.std.specs.Ordering.{is_lt, nat_cmp, on, then_cmp}
use Rattle.std.specs.declared.cmp.Ordering.{Ordering}
use Rattle.std.specs.declared.cmp.Ordering.TheVariants.{Less}
use Rattle.rj_settings.specs.declared.choice.RowOrder.{RowOrder}
use Rattle.rj_settings.specs.declared.choice.RowOrder.TheVariants.{LeftFirst, PairsFirst}
use Rattle.rj_shards.specs.declared.merge.place.Place.{Place}
use Rattle.rj_shards.specs.declared.merge.place.Place.TheVariants.{Pair, LoneAmongPairs, LoneLeft, LoneRight}

-- matches come first, with the unmatched left rows among them; then unmatched left rows, then
-- unmatched right rows
abbrev pub class : Place → ℕ
class (Pair left right) = 0
class (LoneAmongPairs left) = 0
class (LoneLeft left) = 1
class (LoneRight right) = 2

-- the number of the left row, or of an unmatched right row its own
abbrev pub first_number : Place → ℕ
first_number (Pair left right) = left
first_number (LoneAmongPairs left) = left
first_number (LoneLeft left) = left
first_number (LoneRight right) = right

-- the number of the right row of a match
abbrev pub second_number : Place → ℕ
second_number (Pair left right) = right
second_number (LoneAmongPairs left) = 0
second_number (LoneLeft left) = 0
second_number (LoneRight right) = 0

-- an unmatched left row among matches comes after those of its number
abbrev pub behind_pairs : Place → ℕ
behind_pairs (Pair left right) = 0
behind_pairs (LoneAmongPairs left) = 1
behind_pairs (LoneLeft left) = 0
behind_pairs (LoneRight right) = 0

-- matches by left, then right row number, with the unmatched left rows among them by number; then
-- unmatched left rows by number; then unmatched right rows by number
abbrev pub place_order : Place → Place → Ordering
place_order = then_cmp (on class nat_cmp) (then_cmp (on first_number nat_cmp) (then_cmp (on behind_pairs nat_cmp) (on second_number nat_cmp)))

pub place_total : IsTotalOrder place_order
place_total =
    then_total (on_total class nat_cmp_total)
    (then_total (on_total first_number nat_cmp_total) (then_total (on_total behind_pairs nat_cmp_total) (on_total second_number nat_cmp_total)))

-- a place is above another one, if there is that one
abbrev pub IsAbove : Option Place → Place → Type 0
IsAbove None place = Unit {0}
IsAbove (Some before) place = place_order before place ≡ Less

-- a place is not below another one, if there is that one
abbrev pub IsNotBelow : Option Place → Place → Type 0
IsNotBelow None place = Unit {0}
IsNotBelow (Some before) place = is_lt (place_order place before) ≡ false

-- a place isn't above this one, if there is one; if there is none, each place is above it
abbrev pub is_up_to : Option Place → Place → Bool
is_up_to None place = false
is_up_to (Some last) place = not (is_lt (place_order last place))

-- the place of an unmatched left row: after all matches, or among them if each left row is at its
-- place
abbrev pub lone_left_place : RowOrder → ℕ → Place
lone_left_place PairsFirst left = LoneLeft left
lone_left_place LeftFirst left = LoneAmongPairs left
