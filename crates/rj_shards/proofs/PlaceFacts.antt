-- What the order of places says.
use Rattle.std.proofs.Common.{◌≡◌, ℕ, true, false, Option, None, Some, refl, sym, ap, ◌∙◌, arith}
use Rattle.std.proofs.lemmas.Bool.{false≢true}
use Rattle.std.proofs.lemmas.Bool.Decides.{nat_tests}
use Rattle.std.specs.Ordering.{is_eq, is_lt, nat_cmp, ordering_reverse, ordering_then}
use Rattle.std.specs.declared.cmp.Ordering.{Ordering}
use Rattle.std.specs.declared.cmp.Ordering.TheVariants.{Less, Equal, Greater}
use Rattle.rj_shards.specs.declared.merge.place.Place.{Place}
use Rattle.rj_shards.specs.declared.merge.place.Place.TheVariants.{Pair, LoneAmongPairs, LoneLeft, LoneRight}
use Rattle.rj_shards.specs.Places.{IsAbove, IsNotBelow, behind_pairs, class, first_number, place_order, place_total, second_number}

-- what an order's test says
pub is_less : (r : Ordering) → is_lt r ≡ true → r ≡ Less
is_less Less h = refl
is_less Equal h = absurd (false≢true h)
is_less Greater h = absurd (false≢true h)

-- an order that is Less when it is turned isn't Less
not_less : (r : Ordering) → ordering_reverse r ≡ Less → is_lt r ≡ false
not_less Less h = absurd (false≢true (ap is_lt h))
not_less Equal h = refl
not_less Greater h = refl

-- a place that is above another is not below it
pub not_below : (given : Option Place) (place : Place) → IsAbove given place → IsNotBelow given place
not_below None place h = tt
not_below (Some given) place h = not_less (place_order place given) (sym (place_total.antisymm given place) ∙ h)

-- numbers that compare as equal are one
same_number : (m n : ℕ) → is_eq (nat_cmp m n) ≡ true → m ≡ n
same_number m n e = grind (arith, nat_tests)

then_first : (r s : Ordering) → is_eq (ordering_then r s) ≡ true → is_eq r ≡ true
then_first Less s e = e
then_first Equal s e = refl
then_first Greater s e = e

then_second : (r s : Ordering) → is_eq (ordering_then r s) ≡ true → is_eq s ≡ true
then_second Less s e = absurd (false≢true e)
then_second Equal s e = e
then_second Greater s e = absurd (false≢true e)

-- places that compare as equal are one
pub same_place : (p q : Place) → is_eq (place_order p q) ≡ true → p ≡ q
same_place p q e =
    let behind_class = then_second (nat_cmp (class p) (class q)) _ e in
    let behind_first = then_second (nat_cmp (first_number p) (first_number q)) _ behind_class in
    by_numbers p q
    (same_number (class p) (class q) (then_first (nat_cmp (class p) (class q)) _ e))
    (same_number (first_number p) (first_number q) (then_first (nat_cmp (first_number p) (first_number q)) _ behind_class))
    (same_number (behind_pairs p) (behind_pairs q) (then_first (nat_cmp (behind_pairs p) (behind_pairs q)) _ behind_first))
    (same_number (second_number p) (second_number q) (then_second (nat_cmp (behind_pairs p) (behind_pairs q)) _ behind_first))
  where
    by_numbers : (p q : Place) → class p ≡ class q → first_number p ≡ first_number q → behind_pairs p ≡ behind_pairs q → second_number p ≡ second_number q → p ≡ q
    by_numbers (Pair i j) (Pair k l) c f b s = λ t. Pair (f t) (s t)
    by_numbers (Pair i j) (LoneAmongPairs k) c f b s = absurd (omega arith)
    by_numbers (Pair i j) (LoneLeft k) c f b s = absurd (omega arith)
    by_numbers (Pair i j) (LoneRight l) c f b s = absurd (omega arith)
    by_numbers (LoneAmongPairs i) (Pair k l) c f b s = absurd (omega arith)
    by_numbers (LoneAmongPairs i) (LoneAmongPairs k) c f b s = ap LoneAmongPairs f
    by_numbers (LoneAmongPairs i) (LoneLeft k) c f b s = absurd (omega arith)
    by_numbers (LoneAmongPairs i) (LoneRight l) c f b s = absurd (omega arith)
    by_numbers (LoneLeft i) (Pair k l) c f b s = absurd (omega arith)
    by_numbers (LoneLeft i) (LoneAmongPairs k) c f b s = absurd (omega arith)
    by_numbers (LoneLeft i) (LoneLeft k) c f b s = ap LoneLeft f
    by_numbers (LoneLeft i) (LoneRight l) c f b s = absurd (omega arith)
    by_numbers (LoneRight j) (Pair k l) c f b s = absurd (omega arith)
    by_numbers (LoneRight j) (LoneAmongPairs k) c f b s = absurd (omega arith)
    by_numbers (LoneRight j) (LoneLeft k) c f b s = absurd (omega arith)
    by_numbers (LoneRight j) (LoneRight l) c f b s = ap LoneRight f
