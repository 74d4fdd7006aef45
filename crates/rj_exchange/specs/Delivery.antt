-- What a ledger has delivered after lawful arrivals.
use Rattle.std.specs.Prelude.{◌≡◌, ℕ, ◌<◌, true, List, length, is_some, slice_get, Some}
use Rattle.std.specs.List.{list_all}
use Rattle.rj_exchange.specs.declared.ledger.parcel.Parcel.{Parcel}
use Rattle.rj_exchange.specs.Ledgers.{LedgerValue, standing, IsComplete}
use Rattle.rj_exchange.specs.Lawful.{front, delivered_rows, is_past_close, is_complete, HasAll, arrived}
use Rattle.rj_exchange.specs.Kept.{body_in, AreKeptOnce}
use Rattle.rj_exchange.specs.Cutting.{bodies}
use Rattle.rj_exchange.specs.declared.ledger.parcel.Body.{Body}

-- after the arrivals xs a ledger of partition q and n senders has delivered of each what comes
-- before its front, says so, and is complete exactly if the arrivals are; and then it has delivered
-- what was due
pub record Delivers (due : ℕ → ℕ → List ℕ) (block q n : ℕ) (xs : List Parcel) (v : LedgerValue) : Type 0 where
  pub senders : length v.senders ≡ n
  pub next : (s : ℕ) → s < n → (standing v s).next ≡ front due block q xs s
  pub closed : (s : ℕ) → s < n → (standing v s).closed ≡ is_past_close due block q xs s
  pub rows : (s : ℕ) → s < n → (standing v s).rows ≡ delivered_rows due block q xs s
  pub complete : list_all (λ t. t.closed) v.senders ≡ is_complete due block q n xs
  pub all_due : list_all (λ t. t.closed) v.senders ≡ true → (s : ℕ) → s < n → (standing v s).rows ≡ due s q
  pub enough : HasAll due block q n xs → list_all (λ t. t.closed) v.senders ≡ true

-- a ledger of partition q and n senders is complete, and has delivered of each what was due
pub record DeliversAll (due : ℕ → ℕ → List ℕ) (q n : ℕ) (v : LedgerValue) : Type 0 where
  pub senders : length v.senders ≡ n
  pub complete : IsComplete v
  pub rows : (s : ℕ) → s < n → (standing v s).rows ≡ due s q

-- after lawful arrivals the kept parcels are exactly the distinct ones of partition q and a known sender
pub record AreExactly (due : ℕ → ℕ → List ℕ) (block q n : ℕ) (xs ks : List Parcel) : Type 0 where
  pub once : AreKeptOnce q n ks
  pub same : (s m : ℕ) → s < n → is_some (body_in ks s m) ≡ is_some (arrived q xs s m)
  pub planned : (s m : ℕ) (b : Body) → body_in ks s m ≡ Some b → slice_get (bodies block (due s q)) m ≡ Some b
