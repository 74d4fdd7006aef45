-- What a ledger means for any parcels, lawful or not: the kept ones, found from a list and its
-- answers.
use Rattle.std.specs.Prelude.{◌≡◌, ℕ, zero, suc, ◌<◌, ◌≤◌, ◌==◌, ◌&&◌, ◌||◌, Bool, false, cond, List, [], ◌∷◌, ◌++◌, length, IsSome, Some, None, Option}
use Rattle.rj_exchange.specs.declared.ledger.parcel.Body.{Body}
use Rattle.rj_exchange.specs.declared.ledger.parcel.Body.TheVariants.{Close}
use Rattle.rj_exchange.specs.declared.ledger.parcel.Parcel.{Parcel}
use Rattle.rj_exchange.specs.declared.ledger.parcel.Answer.{Answer}
use Rattle.rj_exchange.specs.declared.ledger.parcel.Answer.TheVariants.{Accepted, Held, Refused}
use Rattle.rj_exchange.specs.Standing.{Standing, rows_of, is_close, IsSound}
use Rattle.rj_exchange.specs.Ledgers.{LedgerValue, standing}

-- the kept ones gain a parcel that was accepted or held, and no other
abbrev pub keep : Answer → Parcel → List Parcel → List Parcel
keep (Accepted _) x ks = x ∷ ks
keep Held x ks = x ∷ ks
keep (Refused _) x ks = ks

-- the kept parcels of a list, by its answers, the newest first, before those kept already
abbrev pub kept_onto : List Parcel → List Parcel → List Answer → List Parcel
kept_onto ks [] answers = ks
kept_onto ks (x ∷ xs) [] = ks
kept_onto ks (x ∷ xs) (a ∷ answers) = kept_onto (keep a x ks) xs answers

abbrev pub kept : List Parcel → List Answer → List Parcel
kept xs answers = kept_onto [] xs answers

-- what the parcel of a sender with a number carries, if such a parcel is among them
abbrev pub body_in : List Parcel → ℕ → ℕ → Option Body
body_in [] s m = None
body_in (x ∷ xs) s m = cond ((x.sender == s) && (x.number == m)) (Some x.body) (body_in xs s m)

abbrev pub rows_at : Option Body → List ℕ
rows_at None = []
rows_at (Some body) = rows_of body

abbrev pub is_close_at : Option Body → Bool
is_close_at None = false
is_close_at (Some body) = is_close body

-- the rows of the parcels numbered below n, by number, where f gives what a number carries
abbrev pub rows_below : (ℕ → Option Body) → ℕ → List ℕ
rows_below f zero = []
rows_below f (suc n) = rows_below f n ++ rows_at (f n)

-- whether a close is numbered below n
abbrev pub close_below : (ℕ → Option Body) → ℕ → Bool
close_below f zero = false
close_below f (suc n) = is_close_at (f n) || close_below f n

-- the held parcel of a number
abbrev pub held_at : ℕ → List (ℕ × Body) → Option Body
held_at m [] = None
held_at m (e ∷ es) = cond (e.0 == m) (Some e.1) (held_at m es)

-- a sender's part agrees with the kept ones: each number below the next is among them and the next is not; the rows are
-- theirs below the next, by number; the others are held
pub record Agrees (f : ℕ → Option Body) (s : Standing) : Type 0 where
  pub below : (m : ℕ) → m < s.next → IsSome (f m)
  pub next : f s.next ≡ None
  pub rows : s.rows ≡ rows_below f s.next
  pub closed : s.closed ≡ close_below f s.next
  pub held : (m : ℕ) → s.next ≤ m → f m ≡ held_at m s.held

-- a ledger agrees with the kept parcels ks
abbrev pub Keeps : List Parcel → LedgerValue → Type 0
Keeps ks v = (s : ℕ) → s < length v.senders → IsSound (standing v s) × Agrees (body_in ks s) (standing v s)

-- kept parcels are of the ledger's partition and a known sender, and no two have one sender and number
abbrev pub AreKeptOnce : ℕ → ℕ → List Parcel → Type 0
AreKeptOnce q n [] = Unit {0}
AreKeptOnce q n (x ∷ ks) = (x.partition ≡ q) × (x.sender < n) × (body_in ks x.sender x.number ≡ None) × AreKeptOnce q n ks

-- a close is the last kept parcel of its sender: no larger number is kept
abbrev pub AreClosedLast : List Parcel → Type 0
AreClosedLast ks = (s m n : ℕ) → body_in ks s m ≡ Some Close → m < n → body_in ks s n ≡ None
