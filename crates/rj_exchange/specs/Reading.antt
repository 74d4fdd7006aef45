-- What a ledger shows.
use Rattle.std.specs.Prelude.{ℕ, cond, List, [], ◌∷◌, Some, None, Option}
use Rattle.rj_exchange.specs.declared.ledger.parcel.Body.{Body}
use Rattle.rj_exchange.specs.declared.ledger.parcel.Answer.{Answer}
use Rattle.rj_exchange.specs.declared.ledger.parcel.Answer.TheVariants.{Accepted, Held, Refused}
use Rattle.rj_exchange.specs.Standing.{Standing}

-- the number that the sender's next parcel has, none after its close
abbrev pub waiting_at : Standing → Option ℕ
waiting_at s = cond s.closed None (Some s.next)

-- the next number and the smallest held one, if one is held
abbrev pub gap_before : ℕ → List (ℕ × Body) → Option (ℕ × ℕ)
gap_before next [] = None
gap_before next (e ∷ es) = Some (next, e.0)

abbrev pub gap_at : Standing → Option (ℕ × ℕ)
gap_at s = gap_before s.next s.held

abbrev pub IsRefused : Answer → Type 0
IsRefused (Accepted _) = ⊥
IsRefused Held = ⊥
IsRefused (Refused _) = Unit {0}
