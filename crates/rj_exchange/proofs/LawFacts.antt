-- Which seat holds a number.
use Rattle.std.proofs.Common.{◌≡◌, ℕ, zero, suc, ◌<◌, ◌≤◌, List, [], ◌∷◌, length, map, get_or, refl, ap, arith, lt_of_not-le}
use mathlib.Core.Logic.{dite}
use native.Mathlib.Decide.{dec_le}
use Rattle.rj_exchange.specs.declared.stripes.StripeSeat.{StripeSeat}
use Rattle.rj_exchange.specs.Tickets.{times, EachOnce}
use Rattle.rj_exchange.specs.Totals.{total}
use Rattle.rj_exchange.specs.Stripes.{held_by, Holds, HasHolder}

-- a seat holds no more of x than all together
held_le : (x : ℕ) (ss : List StripeSeat) (i : ℕ) (d : StripeSeat) → i < length ss → times x (held_by (get_or ss i d)) ≤ total (times x) (map held_by ss)
held_le x [] i d lt = absurd (omega arith)
held_le x (s ∷ ss) zero d lt = omega arith
held_le x (s ∷ ss) (suc i) d lt = let r = held_le x ss i d (omega arith) in omega arith

one_holder : (x : ℕ) (ss : List StripeSeat) → total (times x) (map held_by ss) ≡ 1 → HasHolder x ss
one_holder x [] one = absurd (omega arith)
one_holder x (s ∷ ss) one = dite (dec_le 1 (times x (held_by s)))
    (λ le. record { place = 0; within = omega arith; holds = (λ d. (let l : 0 < times x (held_by s) = omega arith in l)); alone = first le })
    (λ ne.
    let few : times x (held_by s) < 1 = lt_of_not-le ne in
    let r = one_holder x ss (omega arith) in
    let w = r.within in
    record { place = suc r.place; within = omega arith; holds = r.holds; alone = later few r.place r.alone })
  where
    first : 1 ≤ times x (held_by s) → (i : ℕ) (d : StripeSeat) → i < length (s ∷ ss) → Holds (get_or (s ∷ ss) i d) x → i ≡ 0
    first le zero d lt h = refl
    first le (suc i) d lt h = absurd (let m = held_le x ss i d (omega arith) in omega arith)

    later : times x (held_by s) < 1 → (place : ℕ) → ((i : ℕ) (d : StripeSeat) → i < length ss → Holds (get_or ss i d) x → i ≡ place) → (i : ℕ) (d : StripeSeat) → i < length (s ∷ ss) → Holds (get_or (s ∷ ss) i d) x → i ≡ suc place
    later few place alone zero d lt h = absurd (omega arith)
    later few place alone (suc i) d lt h = ap suc (alone i d (omega arith) h)

pub holder : (n x : ℕ) (ss : List StripeSeat) → EachOnce n (map held_by ss) → x < n → HasHolder x ss
holder n x ss once lt = one_holder x ss ((once x).0 lt)
