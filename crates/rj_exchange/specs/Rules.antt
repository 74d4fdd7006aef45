-- The nine rules, in their order: the first that fits gives the answer.
use Rattle.std.specs.Prelude.{ℕ, ◌+◌, ◌==◌, Bool, false, cond, ◌||◌, ◌&&◌, List, [], ◌∷◌, length, Some, None, nat_lt}
use Rattle.std.specs.declared.option.Option.{Option}
use Rattle.rj_exchange.specs.declared.ledger.parcel.Body.{Body}
use Rattle.rj_exchange.specs.declared.ledger.parcel.Body.TheVariants.{Rows, Close}
use Rattle.rj_exchange.specs.declared.ledger.parcel.Reason.{Reason}
use Rattle.rj_exchange.specs.declared.ledger.parcel.Reason.TheVariants.{BadLength, AfterClose, Repeat, BeyondClose, EarlyClose}
use Rattle.rj_exchange.specs.declared.ledger.parcel.Answer.{Answer}
use Rattle.rj_exchange.specs.declared.ledger.parcel.Answer.TheVariants.{Accepted, Held, Refused}
use Rattle.rj_exchange.specs.Standing.{Standing, is_close, following, delivered_from, with_held}

-- a block of no rows, or of more than the ledger's block size
abbrev pub is_bad_length : ℕ → Body → Bool
is_bad_length block (Rows rows) = (length rows == 0) || nat_lt block (length rows)
is_bad_length block Close = false

-- a parcel of number n is held
abbrev pub holds : ℕ → List (ℕ × Body) → Bool
holds n [] = false
holds n (e ∷ es) = (e.0 == n) || holds n es

-- a close with a smaller number is held
abbrev pub holds_close_below : ℕ → List (ℕ × Body) → Bool
holds_close_below n [] = false
holds_close_below n (e ∷ es) = (is_close e.1 && nat_lt e.0 n) || holds_close_below n es

-- a larger number is held
abbrev pub holds_above : ℕ → List (ℕ × Body) → Bool
holds_above n [] = false
holds_above n (e ∷ es) = nat_lt n e.0 || holds_above n es

-- the rules `bad length` to `early close`, for a parcel of a known sender at the right partition
abbrev pub refusal : ℕ → Standing → ℕ → Body → Option Reason
refusal block s n body =
    cond (is_bad_length block body) (Some BadLength)
    (cond s.closed (Some AfterClose)
    (cond (nat_lt n s.next || holds n s.held) (Some Repeat)
    (cond (holds_close_below n s.held) (Some BeyondClose)
    (cond (is_close body && holds_above n s.held) (Some EarlyClose)
    None))))

-- the rules `accept` and `hold`, if none of those fits
abbrev pub answer_unless : Option Reason → Standing → ℕ → Answer
answer_unless (Some reason) s n = Refused reason
answer_unless None s n = cond (n == s.next) (Accepted (length (following (n + 1) s.held) + 1)) Held

abbrev pub answer : ℕ → Standing → ℕ → Body → Answer
answer block s n body = answer_unless (refusal block s n body) s n

-- what is kept of the sender after an answer
abbrev pub after : Answer → Standing → ℕ → Body → Standing
after (Accepted _) s n body = delivered_from s n body
after Held s n body = with_held s n body
after (Refused _) s n body = s
