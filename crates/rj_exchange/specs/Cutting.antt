-- How the rows of one sender for one partition are cut into parcels: blocks, the last perhaps shorter and none empty, then a close.
use Rattle.std.specs.Prelude.{◌≡◌, ℕ, zero, suc, ◌+◌, List, [], ◌∷◌, ◌++◌, map, length, take, drop}
use Rattle.rj_exchange.specs.declared.ledger.parcel.Body.{Body}
use Rattle.rj_exchange.specs.declared.ledger.parcel.Body.TheVariants.{Rows, Close}
use Rattle.rj_exchange.specs.declared.ledger.parcel.Parcel.{Parcel}

-- at most `most` blocks of `block` rows, off the front
abbrev pub blocks_within : ℕ → ℕ → List ℕ → List (List ℕ)
blocks_within zero block rows = []
blocks_within (suc most) block [] = []
blocks_within (suc most) block (row ∷ rows) = take block (row ∷ rows) ∷ blocks_within most block (drop block (row ∷ rows))

-- the blocks of rows; there are no more blocks than rows
abbrev pub blocks : ℕ → List ℕ → List (List ℕ)
blocks block rows = blocks_within (length rows) block rows

-- what the parcels carry, by number
abbrev pub bodies : ℕ → List ℕ → List Body
bodies block rows = map Rows (blocks block rows) ++ Close ∷ []

-- parcels of these bodies, numbered from n on
abbrev pub numbered : ℕ → ℕ → ℕ → List Body → List Parcel
numbered sender partition n [] = []
numbered sender partition n (b ∷ bs) = record { sender = sender; partition = partition; number = n; body = b } ∷ numbered sender partition (n + 1) bs

-- the plan of a sender for a partition to which these rows are due
abbrev pub plan : ℕ → List ℕ → ℕ → ℕ → List Parcel
plan block rows sender partition = numbered sender partition 0 (bodies block rows)

-- a parcel of sender s for partition p
abbrev pub IsFor : ℕ → ℕ → Parcel → Type 0
IsFor s p x = (x.sender ≡ s) × (x.partition ≡ p)
