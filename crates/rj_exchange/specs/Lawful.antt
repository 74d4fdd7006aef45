-- Lawful arrivals: parcels that are all planned, in any order and number. `due s p` are the rows
-- that sender s has for partition p; any table of lists may take its place.
use Rattle.std.specs.Prelude.{◌≡◌, ℕ, zero, suc, ◌+◌, ◌-◌, ◌<◌, ◌==◌, ◌&&◌, Bool, true, cond, not, nat_lt, List, [], ◌∷◌, ◌++◌, length, take, slice_get, is_some, Some, None, Option}
use Rattle.rj_exchange.specs.declared.ledger.parcel.Body.{Body}
use Rattle.rj_exchange.specs.declared.ledger.parcel.Parcel.{Parcel}
use Rattle.rj_exchange.specs.declared.ledger.parcel.Reason.TheVariants.{WrongPartition, UnknownSender, AfterClose, Repeat}
use Rattle.rj_exchange.specs.declared.ledger.parcel.Answer.{Answer}
use Rattle.rj_exchange.specs.declared.ledger.parcel.Answer.TheVariants.{Accepted, Held, Refused}
use Rattle.rj_exchange.specs.Standing.{rows_of}
use Rattle.rj_exchange.specs.Cutting.{bodies}

-- a parcel of its sender's plan for its partition: it carries what is in the plan at its number
abbrev pub IsPlanned : (ℕ → ℕ → List ℕ) → ℕ → Parcel → Type 0
IsPlanned due block x = slice_get (bodies block (due x.sender x.partition)) x.number ≡ Some x.body

abbrev pub AreLawful : (ℕ → ℕ → List ℕ) → ℕ → List Parcel → Type 0
AreLawful due block [] = Unit {0}
AreLawful due block (x ∷ xs) = IsPlanned due block x × AreLawful due block xs

-- what the parcel with a number of a sender for partition q carries, if it is among the arrivals
abbrev pub arrived : ℕ → List Parcel → ℕ → ℕ → Option Body
arrived q [] s m = None
arrived q (x ∷ xs) s m = cond ((x.partition == q) && ((x.sender == s) && (x.number == m))) (Some x.body) (arrived q xs s m)

-- how many numbers from n on, at most `most`, pass the test one after another
abbrev pub passing : (ℕ → Bool) → ℕ → ℕ → ℕ
passing test n zero = 0
passing test n (suc most) = cond (test n) (passing test (n + 1) most + 1) 0

-- the greatest m, at most the length of the sender's plan for q, such that each of its parcels numbered below m is among the arrivals
abbrev pub front : (ℕ → ℕ → List ℕ) → ℕ → ℕ → List Parcel → ℕ → ℕ
front due block q xs s = passing (λ m. is_some (arrived q xs s m)) 0 (length (bodies block (due s q)))

-- the rows that bodies carry, joined
abbrev pub rows_of_bodies : List Body → List ℕ
rows_of_bodies [] = []
rows_of_bodies (b ∷ bs) = rows_of b ++ rows_of_bodies bs

-- the rows of the parcels before the front, joined by number
abbrev pub delivered_rows : (ℕ → ℕ → List ℕ) → ℕ → ℕ → List Parcel → ℕ → List ℕ
delivered_rows due block q xs s = rows_of_bodies (take (front due block q xs s) (bodies block (due s q)))

-- the front is past the close
abbrev pub is_past_close : (ℕ → ℕ → List ℕ) → ℕ → ℕ → List Parcel → ℕ → Bool
is_past_close due block q xs s = front due block q xs s == length (bodies block (due s q))

-- the arrivals are complete at q for senders below n
abbrev pub is_complete : (ℕ → ℕ → List ℕ) → ℕ → ℕ → ℕ → List Parcel → Bool
is_complete due block q zero xs = true
is_complete due block q (suc n) xs = is_past_close due block q xs n && is_complete due block q n xs

-- the answer to a planned x after the arrivals xs
abbrev pub planned_answer : (ℕ → ℕ → List ℕ) → ℕ → ℕ → ℕ → List Parcel → Parcel → Answer
planned_answer due block q n xs x =
    cond (not (x.partition == q)) (Refused WrongPartition)
    (cond (not (nat_lt x.sender n)) (Refused UnknownSender)
    (cond (is_past_close due block q xs x.sender) (Refused AfterClose)
    (cond (is_some (arrived q xs x.sender x.number)) (Refused Repeat)
    (cond (x.number == front due block q xs x.sender) (Accepted (front due block q (x ∷ xs) x.sender - front due block q xs x.sender))
    Held))))

-- the answers to a list, after the arrivals `before`, the newest first
abbrev pub planned_answers : (ℕ → ℕ → List ℕ) → ℕ → ℕ → ℕ → List Parcel → List Parcel → List Answer
planned_answers due block q n before [] = []
planned_answers due block q n before (x ∷ xs) = planned_answer due block q n before x ∷ planned_answers due block q n (x ∷ before) xs

-- each planned parcel for q of the senders below n is among the arrivals
abbrev pub HasAll : (ℕ → ℕ → List ℕ) → ℕ → ℕ → ℕ → List Parcel → Type 0
HasAll due block q n xs = (s m : ℕ) → s < n → m < length (bodies block (due s q)) → is_some (arrived q xs s m) ≡ true
