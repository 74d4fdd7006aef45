-- Lists of halt seats.
use Rattle.std.proofs.Common.{◌≡◌, All, ℕ, zero, suc, ◌<◌, ◌≤◌, Bool, true, false, List, [], ◌∷◌, ap, ◌∙◌, refl, cond, arith}
use mathlib.Core.Logic.{dite}
use native.Mathlib.Decide.{dec_le}
use Rattle.atomic_table.specs.Seated.{TableId}
use Rattle.rj_exchange.specs.declared.halt.HaltSeat.{HaltSeat}
use Rattle.rj_exchange.specs.Totals.{total}
use Rattle.rj_exchange.specs.Halt.{AnyRaised, AnySeen, IsUnraised}
use Rattle.rj_exchange.proofs.Totals.{one_le_total}

abbrev pub IsHaltAt : TableId → HaltSeat → Type 0
IsHaltAt z s = s.seat.table_id ≡ z

abbrev pub raises_of : HaltSeat → ℕ
raises_of s = s.seat.me.0.raises

abbrev pub sees_of : HaltSeat → ℕ
sees_of s = s.seat.me.0.sees

up : (b : Bool) (n : ℕ) → n ≡ cond b 1 0 → 0 < n → b ≡ true
up true n e p = refl
up false n e p = absurd (omega arith)

pub some_raised : (ss : List HaltSeat) → 0 < total raises_of ss → AnyRaised ss
some_raised [] p = absurd (omega arith)
some_raised (s ∷ ss) p = dite (dec_le 1 (raises_of s)) (λ a. (0, s, refl, up s.raised _ s.tells.0 a)) (λ b. let r = some_raised ss (omega arith) in (suc r.0, r.1, r.2, r.3))

pub raised_some : (ss : List HaltSeat) → AnyRaised ss → 0 < total raises_of ss
raised_some ss any = let s : HaltSeat = any.1 in let one : raises_of s ≡ 1 = s.tells.0 ∙ ap (λ b. cond b 1 0) any.3 in let le = one_le_total raises_of ss any.0 s any.2 in omega arith

pub seen_some : (ss : List HaltSeat) → AnySeen ss → 0 < total sees_of ss
seen_some ss any = let s : HaltSeat = any.1 in let one : sees_of s ≡ 1 = s.tells.1 ∙ ap (λ b. cond b 1 0) any.3 in let le = one_le_total sees_of ss any.0 s any.2 in omega arith

pub most_one : (b : Bool) (n : ℕ) → n ≡ cond b 1 0 → n ≤ 1
most_one true n e = omega arith
most_one false n e = omega arith

pub zero_unless : (n word : ℕ) → (0 < n → 0 < word) → word ≡ 0 → n ≡ 0
zero_unless zero word f e = refl
zero_unless (suc n) word f e = absurd (let p = f (omega arith) in omega arith)

pub all_unraised : (ss : List HaltSeat) → total raises_of ss ≡ 0 → total sees_of ss ≡ 0 → All IsUnraised ss
all_unraised [] r e i d lt = absurd (omega arith)
all_unraised (s ∷ ss) r e zero d lt = (
  λ up. (let one : raises_of s ≡ 1 = s.tells.0 ∙ ap (λ b. cond b 1 0) up in omega arith),
  λ up. (let one : sees_of s ≡ 1 = s.tells.1 ∙ ap (λ b. cond b 1 0) up in omega arith),
)
all_unraised (s ∷ ss) r e (suc i) d lt = all_unraised ss (omega arith) (omega arith) i d (omega arith)
