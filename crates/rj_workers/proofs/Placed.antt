-- Partitions that are put into their places.
use Rattle.std.proofs.Common.{◌≡◌, ◌<◌, ◌++◌, ◌∷◌, ℕ, [], inl, inr, List, Option, Some, Vec, Global, length, get_or, set, sym, ap, ◌∙◌, subst, arith, length-set, get_or-set_same, get_or-set_other}
use mathlib.Core.Logic.{dite}
use native.Mathlib.Decide.{ℕ_discrete}
use Rattle.std.specs.Prelude.{All}
use Rattle.std.proofs.lemmas.List.Elements.{Contains-append_left, Contains-push}
use Rattle.rj_exchange.specs.declared.boxes.Exchange.{Exchange}
use Rattle.rj_workers.specs.declared.take.OwnedPartition.{OwnedPartition}
use Rattle.rj_workers.specs.Internal.Ends.{ArePlaced}
use Rattle.rj_workers.specs.Internal.Takes.{Builds, IsOwnedOf, IsSlot}
use Rattle.rj_workers.proofs.Posts.{next_at}

module _ {T : Type 0} where
  -- the next of a group belongs to a place that is there
  pub place_fits : (xs ys zs all : List (OwnedPartition T)) (x : OwnedPartition T) (n : ℕ) → ys ≡ x ∷ zs → xs ++ ys ≡ all → All (λ h. h.inbox.partition < n) all → x.inbox.partition < n
  place_fits xs ys zs all x n is parts each = let at = next_at xs ys zs all x is parts in subst (λ (h : OwnedPartition T). h.inbox.partition < n) at.1 (each (length xs) x at.0)

  -- one more is put into its place
  pub placed_more : (xs : List (OwnedPartition T)) (x : OwnedPartition T) (old slots : List (Option (OwnedPartition T))) (new : Option (OwnedPartition T)) (at : ℕ) → x.inbox.partition < length old
      → at ≡ x.inbox.partition → new ≡ Some x → ArePlaced xs old slots → ArePlaced (xs ++ x ∷ []) old (set slots at new)
  placed_more xs x old slots new at below is put placed = let len = placed.0 in (
    length-set slots at new ∙ len,
    λ p d lt. dite (ℕ_discrete p at)
        (λ q. inr (x, Contains-push xs x, (let e : x.inbox.partition ≡ p = sym is ∙ sym q in e), ap (λ (n : ℕ). get_or (set slots at new) n d) q ∙ get_or-set_same slots at new d (omega arith) ∙ put))
        (λ ne. let other = get_or-set_other slots at p new d ne in elim (placed.1 p d lt) [
          | inl e ↦ inl (other ∙ e)
          | inr h ↦ inr (h.0, Contains-append_left xs (x ∷ []) h.0 h.1, h.2, other ∙ h.3)
        ]),
  )

  -- the next of several groups that takers owned
  pub group_of : (builds : Builds T) (e : Exchange) (count block : ℕ) (xs ys zs all : List (Vec (OwnedPartition T) Global)) (x : Vec (OwnedPartition T) Global) → ys ≡ x ∷ zs → xs ++ ys ≡ all
      → All (λ g. All (IsOwnedOf builds e count block) g.items) all → All (IsOwnedOf builds e count block) x.items
  group_of builds e count block xs ys zs all x is parts each =
      let at = next_at xs ys zs all x is parts in
      subst (λ (g : Vec (OwnedPartition T) Global). All (IsOwnedOf builds e count block) g.items) at.1 (each (length xs) x at.0)

  -- what a taker owned is put into places that are empty or right
  pub slot_stays : (builds : Builds T) (e : Exchange) (count block : ℕ) (group : List (OwnedPartition T)) (old new : List (Option (OwnedPartition T))) (p : ℕ) (d : Option (OwnedPartition T)) → p < length old
      → All (IsOwnedOf builds e count block) group → ArePlaced group old new → IsSlot builds e count block p (get_or old p d) → IsSlot builds e count block p (get_or new p d)
  slot_stays builds e count block group old new p d lt owned placed is = elim (placed.1 p d lt) [
    | inl same ↦ subst (IsSlot builds e count block p) (sym same) is
    | inr h ↦ subst (IsSlot builds e count block p) (sym h.3) (h.2, subst (IsOwnedOf builds e count block) h.1.2 (owned h.1.0 h.0 h.1.1))
  ]
