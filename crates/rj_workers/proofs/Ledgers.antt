-- How ledgers change by offers.
use Rattle.std.proofs.Common.{◌≡◌, ℕ, zero, suc, List, [], ◌∷◌, ◌++◌, length, refl, sym, ap, ◌∙◌, subst, replicate, map, append-nil, append_assoc}
use Rattle.rj_exchange.specs.declared.ledger.parcel.Parcel.{Parcel}
use Rattle.rj_exchange.specs.Standing.{nothing_yet}
use Rattle.rj_exchange.specs.Ledgers.{LedgerValue, IsComplete, opened, after_all}
use Rattle.rj_exchange.proofs.EngineFacts.{shape_stays}
use Rattle.rj_exchange.specs.declared.posted.Posted.{Posted}
use Rattle.rj_exchange.specs.Boxes.{PostedVec}
use Rattle.rj_workers.specs.Arrivals.{rows_by_sender, parcel_of, parcels_of}
use Rattle.rj_workers.specs.Internal.Takes.{Builds, IsBuilding}
use Rattle.rj_workers.specs.declared.take.Building.{Building}
use Rattle.rj_workers.specs.declared.take.Building.TheVariants.{Waiting, Left, Done}

length-replicate : {A : Type 0} (n : ℕ) (a : A) → length (replicate n a) ≡ n
length-replicate zero a = refl
length-replicate (suc n) a = ap suc (length-replicate n a)

pub senders_opened : (v : LedgerValue) (p n block : ℕ) (xs : List Parcel) → v ≡ after_all (opened p n block) xs → length v.senders ≡ n
senders_opened v p n block xs is = ap (λ (u : LedgerValue). length u.senders) is ∙ (shape_stays (opened p n block) xs).senders ∙ length-replicate n nothing_yet

-- what was built stays built
module _ {T : Type 0} (builds : Builds T) (p : ℕ) (v w : LedgerValue) (stays : IsComplete v → w ≡ v) where
  pub building_kept : (b : Building T) → IsBuilding builds p v b → IsBuilding builds p w b
  building_kept Waiting h = tt
  building_kept Left h = tt
  building_kept (Done built) h = subst (λ (u : LedgerValue). IsComplete u × builds p (rows_by_sender u) built) (sym (stays h.0)) h

-- the parcels of a list that has one more
pub parcels_snoc : (xs : List Posted) (x : Posted) → map parcel_of (xs ++ x ∷ []) ≡ map parcel_of xs ++ x.parcel ∷ []
parcels_snoc [] x = refl
parcels_snoc (y ∷ ys) x = ap (λ (l : List Parcel). y.parcel ∷ l) (parcels_snoc ys x)

pub rests_snoc : (xs : List PostedVec) (x : PostedVec) → parcels_of (xs ++ x ∷ []) ≡ parcels_of xs ++ map parcel_of x.items
rests_snoc [] x = append-nil (map parcel_of x.items)
rests_snoc (y ∷ ys) x = ap (λ (l : List Parcel). map parcel_of y.items ++ l) (rests_snoc ys x) ∙ sym (append_assoc (map parcel_of y.items) (parcels_of ys) (map parcel_of x.items))
