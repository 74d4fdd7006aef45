-- What a merge has passed: of rows up to a place, and then of those up to a later one.
use Rattle.std.proofs.Common.{◌≡◌, Bool, true, false, List, [], ◌++◌, Option, None, Some, refl, sym, ap, subst, ◌∙◌, append_assoc, append-nil, arith}
use Rattle.std.specs.Cmp.{tied_itself}
use Rattle.std.specs.List.Sorted.{IsPermutation}
use Rattle.std.specs.Ordering.{is_eq, is_lt, ordering_reverse}
use Rattle.std.specs.declared.cmp.Ordering.{Ordering}
use Rattle.std.specs.declared.cmp.Ordering.TheVariants.{Less, Equal, Greater}
use Rattle.std.proofs.lemmas.Bool.{false≢true}
use Rattle.std.proofs.lemmas.List.Elements.{All-append, All-contains, All-nil, All-weaker, Contains-append_right}
use Rattle.std.proofs.lemmas.List.Sorted.{IsPermutation-append_right, IsPermutation-sym, IsPermutation-trans}
use Rattle.rj_shards.specs.declared.merge.place.Place.{Place}
use Rattle.rj_shards.specs.declared.merge.place.Placed.{Placed}
use Rattle.rj_shards.specs.Copies.{Copied, StandsTooOften}
use Rattle.rj_shards.specs.Merging.{IsPassed, Passes}
use Rattle.rj_shards.specs.Places.{IsAbove, place_order, place_total}
use Rattle.rj_shards.specs.Wholes.{IsMergeOf}
use Rattle.rj_shards.proofs.CopyFacts.{merge_both, merge_moved, merge_none, often_moved, times_append}
use Rattle.rj_shards.proofs.PlaceFacts.{is_less, same_place}

pub not_itself : (place : Place) → place_order place place ≡ Less → ⊥
not_itself place h = let e : Less ≡ Equal = sym h ∙ tied_itself place_total place in false≢true (sym (ap is_lt e))

-- ---- places that are passed

-- a place that is passed is below one that is above
pub passed_below : (passed : Option Place) (p q : Place) → IsPassed passed p → IsAbove passed q → place_order p q ≡ Less
passed_below None p q h up = absurd h
passed_below (Some b) p q h up = by_order (place_order b p) refl
  where
    by_order : (o : Ordering) → place_order b p ≡ o → place_order p q ≡ Less
    by_order Less e = absurd (false≢true (sym h ∙ ap is_lt e))
    by_order Equal e = subst (λ r. place_order r q ≡ Less) (same_place b p (ap is_eq e)) up
    by_order Greater e = place_total.trans p b q (place_total.antisymm p b ∙ ap ordering_reverse e) up

pub passed_if_same : (p q : Place) → p ≡ q → IsPassed (Some q) p
passed_if_same p q e = subst (λ r. is_lt (place_order r p) ≡ false) e (ap is_lt (tied_itself place_total p))

-- what was passed up to a place is passed up to a later one
pub passed_on : (before after : Option Place) → ((place : Place) → IsAbove after place → IsAbove before place) → (p : Place) → IsPassed before p → IsPassed after p
passed_on before None onward p h = absurd (not_itself p (passed_below before p p h (onward p tt)))
passed_on before (Some last) onward p h = by_test (is_lt (place_order last p)) refl
  where
    by_test : (b : Bool) → is_lt (place_order last p) ≡ b → is_lt (place_order last p) ≡ false
    by_test false e = e
    by_test true e = absurd (not_itself p (passed_below before p p h (onward p (is_less (place_order last p) e))))

-- what is above a place that is above a place is above it
pub above_on : (before : Option Place) (place : Place) → IsAbove before place → (q : Place) → IsAbove (Some place) q → IsAbove before q
above_on None place up q h = tt
above_on (Some before) place up q h = place_total.trans before place q up h

module _ {T : Type 0} where
  -- ---- what is passed

  -- nothing is passed
  pub pass_none : (passed : Option Place) (old new : List (Copied T)) → IsPermutation old new → Passes passed passed old new []
  pass_none passed old new p = record {
    taken = [];
    all = p;
    above = All-nil (λ (c : Copied T). IsAbove passed c.row.place);
    passed = All-nil (λ (c : Copied T). IsPassed passed c.row.place);
    onward = λ place h. h;
    merge = merge_none;
  }

  -- nothing is passed at the start
  pub pass_start : (passed : Option Place) (old new : List (Copied T)) (rows : List (Placed T)) → passed ≡ None → rows ≡ [] → IsPermutation old new → Passes None passed old new rows
  pass_start passed old new rows start none p = subst (λ q. Passes None q old new rows) (sym start) (subst (Passes None None old new) (sym none) (pass_none None old new p))

  -- what is passed, and then more
  pub pass_more : (a b c : Option Place) (old mid new : List (Copied T)) (rows more : List (Placed T)) → Passes a b old mid rows → Passes b c mid new more → Passes a c old new (rows ++ more)
  pass_more a b c old mid new rows more p q = record {
    taken = p.taken ++ q.taken;
    all = IsPermutation-trans old (p.taken ++ mid) ((p.taken ++ q.taken) ++ new) p.all
        (subst (IsPermutation (p.taken ++ mid)) (sym (append_assoc p.taken q.taken new)) (IsPermutation-append_right p.taken mid (q.taken ++ new) q.all));
    above = All-append (λ (d : Copied T). IsAbove a d.row.place) p.taken q.taken p.above
        (All-weaker (λ (d : Copied T). IsAbove b d.row.place) (λ (d : Copied T). IsAbove a d.row.place) (λ d h. p.onward d.row.place h) q.taken q.above);
    passed = All-append (λ (d : Copied T). IsPassed c d.row.place) p.taken q.taken
        (All-weaker (λ (d : Copied T). IsPassed b d.row.place) (λ (d : Copied T). IsPassed c d.row.place) (λ d h. passed_on b c q.onward d.row.place h) p.taken p.passed) q.passed;
    onward = λ place h. p.onward place (q.onward place h);
    merge = merge_both p.taken q.taken
        (λ d e low high. passed_below b d.row.place e.row.place
        (All-contains (λ (x : Copied T). IsPassed b x.row.place) p.taken d p.passed low)
        (All-contains (λ (x : Copied T). IsAbove b x.row.place) q.taken e q.above high)) rows more p.merge q.merge;
  }

  -- the end is passed without a row
  pub pass_end : (a b c : Option Place) (old mid new : List (Copied T)) (rows : List (Placed T)) → Passes a b old mid rows → Passes b c mid new [] → Passes a c old new rows
  pass_end a b c old mid new rows p q = subst (Passes a c old new) (append-nil rows) (pass_more a b c old mid new rows [] p q)

  -- where nothing is left, the whole is merged
  pub pass_all : (a b : Option Place) (old new : List (Copied T)) (rows : List (Placed T)) → Passes a b old new rows → new ≡ [] → IsMergeOf old rows
  pass_all a b old new rows p none =
      let all : IsPermutation old p.taken = subst (IsPermutation old) (ap (λ l. p.taken ++ l) none ∙ append-nil p.taken) p.all in
      merge_moved p.taken old rows (IsPermutation-sym old p.taken all) p.merge

  -- more rows make no place stand less often
  pub often_among : (taken left : List (Copied T)) (place : Place) → StandsTooOften left place → StandsTooOften (taken ++ left) place
  often_among taken left place w =
      let all = times_append place taken left in
      (w.0, Contains-append_right taken left w.0 w.1, w.2, omega (arith, all, w.3))

  -- what stands too often among the rows that are left does so among all
  pub pass_often : (a b : Option Place) (old new : List (Copied T)) (rows : List (Placed T)) → Passes a b old new rows → (place : Place) → StandsTooOften new place → StandsTooOften old place
  pass_often a b old new rows p place w = often_moved (p.taken ++ new) old (IsPermutation-sym old (p.taken ++ new) p.all) place (often_among p.taken new place w)
