-- The nine rules over the kept parcels alone, which are those that were answered `Accepted` or `Held`. A sender's next number
-- is the least one that none of its kept parcels has; those below it are delivered, the others are held.
use Rattle.std.specs.Prelude.{◌≡◌, ◌<◌, ◌≤◌, Option, Some, None, IsSome, ℕ, ◌-◌, ◌==◌, ◌&&◌, Bool, cond, not, nat_lt, nat_le, List, [], ◌∷◌, length, is_some}
use Rattle.std.specs.List.{list_any}
use Rattle.rj_exchange.specs.declared.ledger.parcel.Body.{Body}
use Rattle.rj_exchange.specs.declared.ledger.parcel.Parcel.{Parcel}
use Rattle.rj_exchange.specs.declared.ledger.parcel.Reason.TheVariants.{BadLength, AfterClose, Repeat, BeyondClose, EarlyClose, WrongPartition, UnknownSender}
use Rattle.rj_exchange.specs.declared.ledger.parcel.Answer.{Answer}
use Rattle.rj_exchange.specs.declared.ledger.parcel.Answer.TheVariants.{Accepted, Held, Refused}
use Rattle.rj_exchange.specs.Standing.{Standing, is_close}
use Rattle.rj_exchange.specs.Reading.{gap_at}
use Rattle.rj_exchange.specs.Rules.{is_bad_length}
use Rattle.rj_exchange.specs.Kept.{keep, body_in, rows_below}
use Rattle.rj_exchange.specs.Lawful.{passing}

-- the least number that no parcel of the sender has; it is at most how many parcels there are
abbrev pub next_in : List Parcel → ℕ → ℕ
next_in ks s = passing (λ m. is_some (body_in ks s m)) 0 (length ks)

-- some parcel of the sender passes the test
abbrev pub some_of : (ℕ → Body → Bool) → List Parcel → ℕ → Bool
some_of test ks s = list_any (λ k. (k.sender == s) && test k.number k.body) ks

-- the sender's close was delivered
abbrev pub is_closed_in : List Parcel → ℕ → Bool
is_closed_in ks s = some_of (λ m body. is_close body && nat_lt m (next_in ks s)) ks s

-- the number was delivered or is held
abbrev pub is_kept_in : List Parcel → ℕ → ℕ → Bool
is_kept_in ks s n = some_of (λ m body. m == n) ks s

-- a close with a smaller number is held
abbrev pub holds_close_before : List Parcel → ℕ → ℕ → Bool
holds_close_before ks s n = some_of (λ m body. is_close body && (nat_le (next_in ks s) m && nat_lt m n)) ks s

-- a larger number is held
abbrev pub holds_after : List Parcel → ℕ → ℕ → Bool
holds_after ks s n = some_of (λ m body. nat_le (next_in ks s) m && nat_lt n m) ks s

-- the answer of a ledger of partition q, n senders and blocks of at most `block` rows, which has kept ks
abbrev pub kept_answer : ℕ → ℕ → ℕ → List Parcel → Parcel → Answer
kept_answer q n block ks x =
    cond (not (x.partition == q)) (Refused WrongPartition)
    (cond (not (nat_lt x.sender n)) (Refused UnknownSender)
    (cond (is_bad_length block x.body) (Refused BadLength)
    (cond (is_closed_in ks x.sender) (Refused AfterClose)
    (cond (is_kept_in ks x.sender x.number) (Refused Repeat)
    (cond (holds_close_before ks x.sender x.number) (Refused BeyondClose)
    (cond (is_close x.body && holds_after ks x.sender x.number) (Refused EarlyClose)
    (cond (x.number == next_in ks x.sender) (Accepted (next_in (x ∷ ks) x.sender - next_in ks x.sender))
    Held)))))))

-- the answers to a list, where ks were kept before
abbrev pub kept_answers : ℕ → ℕ → ℕ → List Parcel → List Parcel → List Answer
kept_answers q n block ks [] = []
kept_answers q n block ks (x ∷ xs) = kept_answer q n block ks x ∷ kept_answers q n block (keep (kept_answer q n block ks x) x ks) xs

-- the gap before the held parcels of the sender: the next number and the smallest held one; none if
-- none is held
abbrev pub IsGapIn : List Parcel → ℕ → Option (ℕ × ℕ) → Type 0
IsGapIn ks s None = (m : ℕ) → next_in ks s ≤ m → body_in ks s m ≡ None
IsGapIn ks s (Some gap) = (gap.0 ≡ next_in ks s) × (gap.0 < gap.1) × IsSome (body_in ks s gap.1)
    × ((m : ℕ) → next_in ks s ≤ m → m < gap.1 → body_in ks s m ≡ None)

-- what a ledger shows of a sender follows from the kept parcels
pub record ShowsKept (ks : List Parcel) (s : ℕ) (t : Standing) : Type 0 where
  pub next : t.next ≡ next_in ks s
  pub closed : t.closed ≡ is_closed_in ks s
  pub rows : t.rows ≡ rows_below (body_in ks s) (next_in ks s)
  pub gap : IsGapIn ks s (gap_at t)
