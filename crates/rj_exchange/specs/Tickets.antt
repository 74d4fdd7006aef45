-- What the contracts of tickets say.
use Rattle.std.specs.Prelude.{◌≡◌, ℕ, ◌<◌, ◌≤◌, ◌==◌, true, false, List, [], length, All, if◌then◌else◌}
use mathlib.Core.Option.{some}
use lib.ListN.{get_elem?}
use Rattle.rj_exchange.specs.declared.tickets.Seat.{Seat}
use Rattle.rj_exchange.specs.declared.tickets.Tickets.{Tickets}
use Rattle.rj_exchange.specs.Totals.{total}

abbrev pub drawn_by : Seat → List ℕ
drawn_by s = s.seat.me.0.drawn

abbrev pub IsSpent : Seat → Type 0
IsSpent s = s.spent ≡ true

abbrev pub IsUnspent : Seat → Type 0
IsUnspent s = s.spent ≡ false

abbrev pub limit_of : Tickets → ℕ
limit_of t = t.limit

abbrev pub seats_of : Tickets → ℕ
seats_of t = t.table.shared.key.seats

-- it was opened with these tickets
abbrev pub IsSeatOf : Tickets → Seat → Type 0
IsSeatOf t s = (s.seat.table_id ≡ t.table.shared.table_id) × (s.seat.me.0.limit ≡ t.limit)

abbrev pub IsNew : Seat → Type 0
IsNew s = (drawn_by s ≡ []) × IsUnspent s

abbrev pub AreAllSeats : Tickets → List Seat → Type 0
AreAllSeats t ss = (length ss ≡ seats_of t) × All (IsSeatOf t) ss

abbrev pub AnySpent : List Seat → Type 0
AnySpent ss = (i : ℕ) × (s : Seat) × (get_elem? ss i ≡ some s) × IsSpent s

-- how often x is in the list
abbrev pub times : ℕ → List ℕ → ℕ
times x xs = total (λ y. if y == x then 1 else 0) xs

-- the lists together are the numbers below m, each once
abbrev pub EachOnce : ℕ → List (List ℕ) → Type 0
EachOnce m lists = (x : ℕ) → (x < m → total (times x) lists ≡ 1) × (m ≤ x → total (times x) lists ≡ 0)
