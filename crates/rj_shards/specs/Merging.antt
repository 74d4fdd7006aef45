-- What a merge still has to give.
use Rattle.std.specs.Prelude.{◌≡◌, ◌⊎◌, ℕ, Bool, true, false, List, ◌∷◌, ◌++◌, Option, None, Some, map, All, Contains}
use Rattle.std.specs.List.{flat_map}
use Rattle.std.specs.List.Sorted.{IsPermutation}
use Rattle.std.specs.Option.{option_to_list}
use Rattle.std.specs.BinaryHeap.{IsHeap}
use Rattle.std.specs.Ordering.{flip_args, is_lt, on}
use Rattle.std.specs.declared.cmp.Ordering.{Ordering}
use Rattle.rj_shards.specs.declared.merge.copies.Copies.{Copies}
use Rattle.rj_shards.specs.declared.merge.head.Head.{Head}
use Rattle.rj_shards.specs.declared.merge.place.Place.{Place}
use Rattle.rj_shards.specs.declared.merge.place.Placed.{Placed}
use Rattle.rj_shards.specs.declared.merge.refused.MergeRefused.{MergeRefused}
use Rattle.rj_shards.specs.declared.merge.refused.MergeRefused.TheVariants as refused
use Rattle.rj_shards.specs.Copies.{Copied, StandsTooOften, copied}
use Rattle.rj_shards.specs.Places.{IsAbove, IsNotBelow, place_order}
use Rattle.rj_shards.specs.Sources.{Reading}
use Rattle.rj_shards.specs.Wholes.{IsMergeOf}

module _ {T S : Type 0} where
  -- heads by the places of their rows, in reverse, so that the greatest has the least place
  abbrev pub head_order : Head T S → Head T S → Ordering
  head_order = flip_args (on (λ h. h.next.place) place_order)

  -- what inputs give, each with its copies
  abbrev pub lists_of_inputs : (S → Copies) → (S → Reading T) → List S → List (Copies × List (Placed T))
  lists_of_inputs copies reading inputs = map (λ s. (copies s, (reading s).rows)) inputs

  -- all rows of inputs, and their errors
  abbrev pub rows_of_inputs : (S → Copies) → (S → Reading T) → List S → List (Copied T)
  rows_of_inputs copies reading inputs = flat_map (λ s. copied (copies s) (reading s).rows) inputs

  abbrev pub faults_of_inputs : (S → Reading T) → List S → List MergeRefused
  faults_of_inputs reading inputs = flat_map (λ s. option_to_list (reading s).fault) inputs

  -- each input tells what it will give
  abbrev pub AllTell : (S → Type 0) → List (Head T S) → Type 0
  AllTell tells heads = All (λ h. tells h.source) heads

  -- the numbers of their inputs are among these
  abbrev pub AreAmong : (S → ℕ) → (ℕ → Bool) → List (Head T S) → Type 0
  AreAmong number numbers heads = All (λ h. numbers (number h.source) ≡ true) heads

  -- all rows that heads and their inputs still have
  abbrev pub rows_of_heads : (S → Copies) → (S → Reading T) → List (Head T S) → List (Copied T)
  rows_of_heads copies reading heads = flat_map (λ h. copied (copies h.source) (h.next ∷ (reading h.source).rows)) heads

  -- the errors that their inputs still have
  abbrev pub faults_of_heads : (S → Reading T) → List (Head T S) → List MergeRefused
  faults_of_heads reading heads = flat_map (λ h. option_to_list (reading h.source).fault) heads

  -- each head's row is the one that its input gave last
  abbrev pub AreNewest : (S → Option Place) → List (Head T S) → Type 0
  AreNewest last heads = All (λ h. last h.source ≡ Some h.next.place) heads

  -- no head is below this place, if there is one
  abbrev pub AreNotBelow : Option Place → List (Head T S) → Type 0
  AreNotBelow given heads = All (λ h. IsNotBelow given h.next.place) heads

  -- all heads are above this place, if there is one
  abbrev pub AreAbove : Option Place → List (Head T S) → Type 0
  AreAbove passed heads = All (λ h. IsAbove passed h.next.place) heads

-- the heads of a merge that has passed all rows up to this place
pub record AreHeads {T S : Type 0} (last : S → Option Place) (passed : Option Place) (heads : List (Head T S)) : Type 0 where
  pub heap : IsHeap head_order heads
  pub newest : AreNewest last heads
  pub above : AreAbove passed heads

-- a place isn't above the one up to which a merge has passed all rows
abbrev pub IsPassed : Option Place → Place → Type 0
IsPassed None place = ⊥
IsPassed (Some passed) place = is_lt (place_order passed place) ≡ false

-- a merge that had passed all rows up to one place has passed all up to another one: from the rows
-- that were left it took those between them, and gave their merge
pub record Passes {T : Type 0} (before after : Option Place) (old new : List (Copied T)) (given : List (Placed T)) : Type 0 where
  pub taken : List (Copied T)
  pub all : IsPermutation old (taken ++ new)
  pub above : All (λ c. IsAbove before c.row.place) taken
  pub passed : All (λ c. IsPassed after c.row.place) taken
  pub onward : (place : Place) → IsAbove after place → IsAbove before place
  pub merge : IsMergeOf taken given

-- an error of one of the inputs, or that a place occurs too often among the rows that are left
abbrev pub IsFaultOf : {T : Type 0} → List (Copied T) → List MergeRefused → MergeRefused → Type 0
IsFaultOf rows faults e = Contains faults e ⊎ ((place : Place) × (e ≡ refused.RepeatedPlace place) × StandsTooOften rows place)
