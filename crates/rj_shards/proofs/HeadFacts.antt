-- What a head that is put among heads, or taken from them, does to what they still have.
use Rattle.std.proofs.Common.{◌≡◌, List, [], ◌∷◌, ◌++◌, Option, None, Some, refl, sym, ap, subst, ◌∙◌, append-nil, append_assoc, arith, IsPermutation, All}
use Rattle.std.specs.List.{Contains, flat_map}
use Rattle.std.specs.Option.{option_to_list}
use Rattle.std.proofs.lemmas.List.Sorted.{All-permutation, Contains-permutation, IsPermutation-append_right, IsPermutation-cons, IsPermutation-sym, IsPermutation-trans}
use Rattle.std.proofs.lemmas.List.Elements.{All-cons, All-head, All-pop, All-tail, Contains-append_left, Contains-append_right}
use Rattle.std.proofs.lemmas.List.Concat.{flat_map-append}
use Rattle.std.proofs.lemmas.List.Folds.{flat_map-map}
use Rattle.rj_shards.specs.declared.merge.copies.Copies.{Copies}
use Rattle.rj_shards.specs.declared.merge.head.Head.{Head}
use Rattle.rj_shards.specs.declared.merge.place.Place.{Place}
use Rattle.rj_shards.specs.declared.merge.place.Placed.{Placed}
use Rattle.rj_shards.specs.declared.merge.refused.MergeRefused.{MergeRefused}
use Rattle.rj_shards.specs.Copies.{Copied, copied, copied_rows, copy_of}
use Rattle.rj_shards.specs.Merging.{faults_of_heads, lists_of_inputs, rows_of_heads, rows_of_inputs}
use Rattle.rj_shards.specs.Sources.{Reading}
use Rattle.rj_shards.specs.Steps.{IsStep, stage_of}
use Rattle.rj_shards.proofs.Moved.{flat_moved}
use Rattle.rj_shards.proofs.PassFacts.{pass_none}

module _ {T S : Type 0} (P : Head T S → Type 0) (heads rest : List (Head T S)) (head : Head T S) where
  pub holds_put : IsPermutation (head ∷ rest) heads → P head → All P rest → All P heads
  holds_put p here there = All-permutation P (head ∷ rest) heads p (All-cons P head rest here there)

  pub holds_first : IsPermutation heads (head ∷ rest) → All P heads → P head
  holds_first p all = All-head P head rest (All-permutation P heads (head ∷ rest) p all)

  pub holds_rest : IsPermutation heads (head ∷ rest) → All P heads → All P rest
  holds_rest p all = All-tail P head rest (All-permutation P heads (head ∷ rest) p all)

module _ {T S : Type 0} (copies : S → Copies) (reading : S → Reading T) (heads rest : List (Head T S)) (head : Head T S) where
  abbrev rows_of_one : Head T S → List (Copied T)
  rows_of_one h = copied (copies h.source) (h.next ∷ (reading h.source).rows)

  abbrev faults_of_one : Head T S → List MergeRefused
  faults_of_one h = option_to_list (reading h.source).fault

  pub rows_put : (own : Copies) → copies head.source ≡ own → (rows : List (Placed T)) → rows ≡ head.next ∷ (reading head.source).rows → IsPermutation (head ∷ rest) heads
      → IsPermutation (copied own rows ++ rows_of_heads copies reading rest) (rows_of_heads copies reading heads)
  rows_put own same rows e p =
      subst (λ k. IsPermutation (copied k rows ++ rows_of_heads copies reading rest) (rows_of_heads copies reading heads)) same
      (subst (λ l. IsPermutation (copied (copies head.source) l ++ rows_of_heads copies reading rest) (rows_of_heads copies reading heads)) (sym e) (flat_moved rows_of_one (head ∷ rest) heads p))

  pub faults_put : (fault : Option MergeRefused) → fault ≡ (reading head.source).fault → IsPermutation (head ∷ rest) heads
      → IsPermutation (option_to_list fault ++ faults_of_heads reading rest) (faults_of_heads reading heads)
  faults_put fault e p = subst (λ f. IsPermutation (option_to_list f ++ faults_of_heads reading rest) (faults_of_heads reading heads)) (sym e) (flat_moved faults_of_one (head ∷ rest) heads p)

  pub rows_taken : (new : List (Head T S)) → IsPermutation heads (head ∷ rest)
      → IsPermutation (copied (copies head.source) (reading head.source).rows ++ rows_of_heads copies reading rest) (rows_of_heads copies reading new)
      → IsPermutation (rows_of_heads copies reading heads) (copy_of (copies head.source) head.next ∷ rows_of_heads copies reading new)
  rows_taken new p q =
      let own : Copied T = copy_of (copies head.source) head.next in
      IsPermutation-trans (rows_of_heads copies reading heads) (rows_of_heads copies reading (head ∷ rest)) (own ∷ rows_of_heads copies reading new)
      (flat_moved rows_of_one heads (head ∷ rest) p)
      (IsPermutation-cons own (copied (copies head.source) (reading head.source).rows ++ rows_of_heads copies reading rest) (rows_of_heads copies reading new) q)

  pub faults_taken : (new : List (Head T S)) → IsPermutation heads (head ∷ rest)
      → IsPermutation (option_to_list (reading head.source).fault ++ faults_of_heads reading rest) (faults_of_heads reading new)
      → IsPermutation (faults_of_heads reading heads) (faults_of_heads reading new)
  faults_taken new p q = IsPermutation-trans (faults_of_heads reading heads) (faults_of_heads reading (head ∷ rest)) (faults_of_heads reading new)
      (flat_moved faults_of_one heads (head ∷ rest) p) q

  -- a head taken from the heap, with the others
  pub step_popped : (passed : Option Place) → IsPermutation heads (head ∷ rest) → IsStep (stage_of copies reading passed heads) None (stage_of copies reading passed (head ∷ rest))
  step_popped passed p = record {
    rows = pass_none passed (rows_of_heads copies reading heads) (rows_of_heads copies reading (head ∷ rest)) (flat_moved rows_of_one heads (head ∷ rest) p);
    faults = flat_moved faults_of_one heads (head ∷ rest) p;
  }

  first_of : {X : Type 0} (x : X) (xs : List X) → Contains (x ∷ xs) x
  first_of x xs = (0, omega arith, refl)

  -- the fault of a head's input is among the faults
  pub has_fault : (e : MergeRefused) → IsPermutation heads (head ∷ rest) → (reading head.source).fault ≡ Some e → Contains (faults_of_heads reading heads) e
  has_fault e p is = Contains-permutation (faults_of_heads reading (head ∷ rest)) (faults_of_heads reading heads) e
      (IsPermutation-sym (faults_of_heads reading heads) (faults_of_heads reading (head ∷ rest)) (flat_moved faults_of_one heads (head ∷ rest) p))
      (subst (λ f. Contains (option_to_list f ++ faults_of_heads reading rest) e) (sym is) (first_of e (faults_of_heads reading rest)))

-- inputs of which the last one is put among heads: what is left of a whole, where f is what an input has and h what a head has
module _ {S A H : Type 0} (f : S → List A) (h : H → List A) (inputs rest : List S) (last : S) (whole : List A) (old new : List H) where
  pub last_put : inputs ≡ rest ++ last ∷ [] → IsPermutation whole (flat_map f inputs ++ flat_map h old) → IsPermutation (f last ++ flat_map h old) (flat_map h new)
      → IsPermutation whole (flat_map f rest ++ flat_map h new)
  last_put e p q =
      let split : flat_map f inputs ++ flat_map h old ≡ flat_map f rest ++ (f last ++ flat_map h old) =
      ap (λ l. flat_map f l ++ flat_map h old) e ∙ ap (λ l. l ++ flat_map h old) (flat_map-append f rest (last ∷ [])) ∙ ap (λ l. (flat_map f rest ++ l) ++ flat_map h old) (append-nil (f last))
      ∙ append_assoc (flat_map f rest) (f last) (flat_map h old) in
      IsPermutation-trans whole (flat_map f inputs ++ flat_map h old) (flat_map f rest ++ flat_map h new) p
      (subst (λ l. IsPermutation l (flat_map f rest ++ flat_map h new)) (sym split)
      (IsPermutation-append_right (flat_map f rest) (f last ++ flat_map h old) (flat_map h new) q))

  -- what the last of the inputs has is in the whole
  pub last_in : (a : A) → inputs ≡ rest ++ last ∷ [] → IsPermutation whole (flat_map f inputs ++ flat_map h old) → Contains (f last) a → Contains whole a
  last_in a e p c =
      Contains-permutation (flat_map f inputs ++ flat_map h old) whole a (IsPermutation-sym whole (flat_map f inputs ++ flat_map h old) p)
      (Contains-append_left (flat_map f inputs) (flat_map h old) a
      (subst (λ l. Contains (flat_map f l) a) (sym e) (subst (λ l. Contains l a) (sym (flat_map-append f rest (last ∷ []) ∙ ap (λ l. flat_map f rest ++ l) (append-nil (f last))))
      (Contains-append_right (flat_map f rest) (f last) a c))))

-- the last of a list, and the others
pub All-last : {S : Type 0} (P : S → Type 0) (inputs rest : List S) (last : S) → inputs ≡ rest ++ last ∷ [] → All P inputs → All P rest × P last
All-last P inputs rest last e all = All-pop P inputs rest (Some last) e all

-- a fault is the only one of what has it
pub fault_first : (fault : Option MergeRefused) (e : MergeRefused) → fault ≡ Some e → Contains (option_to_list fault) e
fault_first fault e is = subst (λ o. Contains (option_to_list o) e) (sym is) (0, omega arith, refl)

-- the rows of inputs, as those of lists with their copies
pub rows_listed : {T S : Type 0} (copies : S → Copies) (reading : S → Reading T) (inputs : List S) → copied_rows (lists_of_inputs copies reading inputs) ≡ rows_of_inputs copies reading inputs
rows_listed copies reading inputs = flat_map-map (λ i. copied i.0 i.1) (λ s. (copies s, (reading s).rows)) inputs
