-- What the contracts of the halt word say.
use Rattle.std.specs.Prelude.{◌≡◌, ℕ, true, false, List, length, All}
use mathlib.Core.Option.{some}
use lib.ListN.{get_elem?}
use Rattle.rj_exchange.specs.declared.halt.HaltSeat.{HaltSeat}
use Rattle.rj_exchange.specs.declared.halt.Halt.{Halt}

abbrev pub HasRaised : HaltSeat → Type 0
HasRaised s = s.raised ≡ true

abbrev pub HasSeen : HaltSeat → Type 0
HasSeen s = s.seen ≡ true

-- it has neither raised the word nor seen it raised
abbrev pub IsUnraised : HaltSeat → Type 0
IsUnraised s = (HasRaised s → ⊥) × (HasSeen s → ⊥)

abbrev pub halt_seats_of : Halt → ℕ
halt_seats_of h = h.table.shared.key

abbrev pub IsHaltSeatOf : Halt → HaltSeat → Type 0
IsHaltSeatOf h s = s.seat.table_id ≡ h.table.shared.table_id

abbrev pub IsNewHalt : HaltSeat → Type 0
IsNewHalt s = (s.raised ≡ false) × (s.seen ≡ false)

abbrev pub AreAllHaltSeats : Halt → List HaltSeat → Type 0
AreAllHaltSeats h ss = (length ss ≡ halt_seats_of h) × All (IsHaltSeatOf h) ss

abbrev pub AnyRaised : List HaltSeat → Type 0
AnyRaised ss = (i : ℕ) × (s : HaltSeat) × (get_elem? ss i ≡ some s) × HasRaised s

abbrev pub AnySeen : List HaltSeat → Type 0
AnySeen ss = (i : ℕ) × (s : HaltSeat) × (get_elem? ss i ≡ some s) × HasSeen s
