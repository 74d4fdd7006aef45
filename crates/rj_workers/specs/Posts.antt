-- What outboxes have posted. `due s p` are the rows that sender s has for partition p.
use Rattle.std.specs.Prelude.{◌≡◌, ℕ, ◌+◌, ◌*◌, ◌<◌, Bool, not, is_some, ◌&&◌, ◌==◌, List, [], ◌++◌, ◌⊎◌, option_to_list, vec_len, length, slice_index_or, All, Contains}
use Rattle.rj_exchange.specs.declared.ledger.parcel.Parcel.{Parcel}
use Rattle.rj_exchange.specs.Cutting.{plan}
use Rattle.rj_exchange.specs.Lawful.{IsPlanned}
use Rattle.rj_radix.specs.declared.grouping.Scattered.{Scattered}
use Rattle.rj_radix.specs.Groups.{IsPart}
use Rattle.rj_exchange.specs.declared.boxes.Exchange.{Exchange}
use Rattle.rj_exchange.specs.Boxes.{queue_of}
use Rattle.rj_workers.specs.declared.post.Sending.{Sending}

abbrev pub Due : Type 0
Due = ℕ → ℕ → List ℕ

-- what went to each queue
abbrev pub Posts : Type 0
Posts = List (List Parcel)

abbrev pub posts_at : Posts → ℕ → List Parcel
posts_at ps q = slice_index_or ps q []

-- nothing that was posted is lost
abbrev pub KeepsPosts : Posts → Posts → Type 0
KeepsPosts old new = (q : ℕ) (x : Parcel) → Contains (posts_at old q) x → Contains (posts_at new q) x

-- what a list has still to be posted, the last parcel first
abbrev pub to_post : Sending → List Parcel
to_post s = s.rest.items ++ option_to_list s.next

abbrev pub is_sent : Sending → Bool
is_sent s = not (is_some s.next) && (vec_len s.rest == 0)

-- some list has the parcel still to be posted
abbrev pub IsLeft : List Sending → Parcel → Type 0
IsLeft ss x = (i : ℕ) × (i < length ss) × ((d : Sending) → Contains (to_post (slice_index_or ss i d)) x)

abbrev pub AreInRange : Exchange → (Parcel → Type 0) → Type 0
AreInRange e was = (x : Parcel) → was x → x.partition < e.partitions

-- the parcel was posted
abbrev pub IsPosted : Exchange → Posts → Parcel → Type 0
IsPosted e ps x = Contains (posts_at ps (queue_of e x)) x

-- what is newly posted is among these
abbrev pub AddsLeft : (Parcel → Type 0) → Posts → Posts → Type 0
AddsLeft was old new = (q : ℕ) (x : Parcel) → Contains (posts_at new q) x → Contains (posts_at old q) x ⊎ was x

-- each of the parcels that were to be posted was posted or still is to be
pub record PostsOrKeeps (e : Exchange) (was is : Parcel → Type 0) (old new : Posts) : Type 0 where
  pub kept : KeepsPosts old new
  pub added : AddsLeft was old new
  pub within : (x : Parcel) → is x → was x
  pub posted : (x : Parcel) → was x → is x ⊎ IsPosted e new x

-- only planned parcels were posted
abbrev pub OnlyPlanned : Due → ℕ → Posts → Type 0
OnlyPlanned due block ps = (q : ℕ) (x : Parcel) → Contains (posts_at ps q) x → IsPlanned due block x

-- each parcel of the list is in a queue of partition p
abbrev pub AreAllAt : Exchange → Posts → ℕ → List Parcel → Type 0
AreAllAt e ps p xs = All (λ x. (k : ℕ) × (k < e.lanes) × Contains (posts_at ps (p * e.lanes + k)) x) xs

-- all that a sender has for the partitions below n was posted
abbrev pub HasPosted : Due → ℕ → Exchange → ℕ → ℕ → Posts → Type 0
HasPosted due block e sender n ps = (p : ℕ) → p < n → AreAllAt e ps p (plan block (due sender p) sender p)

-- nothing was posted
abbrev pub NothingPosted : Posts → Type 0
NothingPosted ps = (q : ℕ) → posts_at ps q ≡ []

-- grouped rows are what a sender has for each partition
pub record AreDue (due : Due) (sender partitions : ℕ) (s : Scattered) : Type 0 where
  pub parts : length s.starts.items ≡ partitions
  pub each : (p : ℕ) → p < partitions → IsPart s.rows.items s.starts.items p (due sender p)

-- the lists have all that a sender has for the partitions below n
abbrev pub HasCut : Due → ℕ → ℕ → ℕ → List Sending → Type 0
HasCut due block sender n ss = (p : ℕ) → p < n → (x : Parcel) → Contains (plan block (due sender p) sender p) x → IsLeft ss x

-- the lists have the parcels of both senders of stripe s, and only planned ones
pub record IsCutStripe (due : Due) (block stripes : ℕ) (e : Exchange) (s : ℕ) (ss : List Sending) : Type 0 where
  pub planned : (x : Parcel) → IsLeft ss x → IsPlanned due block x
  pub range : AreInRange e (IsLeft ss)
  pub left : HasCut due block s e.partitions ss
  pub right : HasCut due block (stripes + s) e.partitions ss
