-- What a ledger keeps of one sender.
use Rattle.std.specs.Prelude.{◌≡◌, ℕ, ◌+◌, ◌<◌, ◌≤◌, ◌==◌, Bool, true, false, cond, ◌||◌, List, [], ◌∷◌, ◌++◌, length, drop}
use Rattle.std.specs.Ordering.{nat_cmp}
use Rattle.std.specs.BTreeMap.{insert_entry}
use Rattle.rj_exchange.specs.declared.ledger.parcel.Body.{Body}
use Rattle.rj_exchange.specs.declared.ledger.parcel.Body.TheVariants.{Rows, Close}

-- the next number, whether the close was delivered, the delivered rows, and the held parcels by rising number
pub record Standing : Type 0 where
  pub next : ℕ
  pub closed : Bool
  pub rows : List ℕ
  pub held : List (ℕ × Body)

-- the part of a sender that has sent nothing
abbrev pub nothing_yet : Standing
nothing_yet = record { next = 0; closed = false; rows = []; held = [] }

-- the rows that a body carries
abbrev pub rows_of : Body → List ℕ
rows_of (Rows rows) = rows
rows_of Close = []

abbrev pub is_close : Body → Bool
is_close (Rows _) = false
is_close Close = true

-- the rows of numbered parcels, joined
abbrev pub rows_of_all : List (ℕ × Body) → List ℕ
rows_of_all [] = []
rows_of_all (e ∷ es) = rows_of e.1 ++ rows_of_all es

-- whether a close is among them
abbrev pub any_close : List (ℕ × Body) → Bool
any_close [] = false
any_close (e ∷ es) = is_close e.1 || any_close es

-- of parcels by rising number, those that follow each other without a gap from number n on
abbrev pub following : ℕ → List (ℕ × Body) → List (ℕ × Body)
following n [] = []
following n (e ∷ es) = cond (e.0 == n) (e ∷ following (n + 1) es) []

-- after number n, the next one, was delivered with the held ones that follow it
abbrev pub delivered_from : Standing → ℕ → Body → Standing
delivered_from s n body =
    let run = following (n + 1) s.held in
    record {
      next = n + 1 + length run;
      closed = is_close body || any_close run;
      rows = s.rows ++ (rows_of body ++ rows_of_all run);
      held = drop (length run) s.held;
    }

-- after a parcel was added to the held ones
abbrev pub with_held : Standing → ℕ → Body → Standing
with_held s n body = record { next = s.next; closed = s.closed; rows = s.rows; held = insert_entry nat_cmp s.held n body }

-- what a held body may be, with those held after it: one or more rows, or a close with nothing
-- after it
abbrev pub IsHoldable : Body → List (ℕ × Body) → Type 0
IsHoldable (Rows rows) after = 0 < length rows
IsHoldable Close after = after ≡ []

-- held parcels: by rising number from `least` on, each holdable
abbrev pub Orderly : ℕ → List (ℕ × Body) → Type 0
Orderly least [] = Unit {0}
Orderly least (e ∷ es) = (least ≤ e.0) × IsHoldable e.1 es × Orderly (e.0 + 1) es

-- what is true of each sender's part of a ledger
pub record IsSound (s : Standing) : Type 0 where
  pub counted : s.next ≤ length s.rows + cond s.closed 1 0
  pub done : s.closed ≡ true → s.held ≡ []
  pub orderly : Orderly (s.next + 1) s.held
