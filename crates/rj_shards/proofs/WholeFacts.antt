-- Rows that rise, and that there is one merge at most.
use Rattle.std.proofs.Common.{◌≡◌, ◌<◌, zero, suc, List, [], ◌∷◌, length, map, Option, None, Some, refl, sym, ap, subst, ◌∙◌, arith, inl, inr, ◌⊎◌}
use mathlib.Core.Logic.{⊎_elim}
use Rattle.std.specs.List.{Contains, flat_map}
use Rattle.std.specs.List.Sorted.{IsPermutation}
use Rattle.std.specs.declared.cmp.Ordering.TheVariants.{Less}
use Rattle.std.proofs.lemmas.List.Sorted.{Contains-permutation, IsPermutation-sym, length_permutation}
use Rattle.std.proofs.lemmas.List.Elements.{All-contains, Contains-append_cases, Contains-append_right}
use Rattle.rj_shards.specs.declared.merge.place.Place.{Place}
use Rattle.rj_shards.specs.declared.merge.place.Placed.{Placed}
use Rattle.rj_shards.specs.Copies.{AreAlike, Copied, IsWhole}
use Rattle.rj_shards.specs.Places.{place_order, place_total}
use Rattle.rj_shards.specs.Wholes.{HasPlace, IsMerge, IsMergeOf, RisesFrom}
use Rattle.rj_shards.proofs.CopyFacts.{MadeOf, first_in, made_of, none_in}
use Rattle.rj_shards.proofs.PassFacts.{not_itself}

module _ {T : Type 0} where
  -- rows that rise from a place stand above it
  pub above_all : (place : Place) (rows : List (Placed T)) (row : Placed T) → RisesFrom (Some place) rows → Contains rows row → place_order place row.place ≡ Less
  above_all place [] row h c = absurd (let l : c.0 < 0 = c.1 in omega arith)
  above_all place (first ∷ rows) row h c = ⊎_elim
      (λ own. let same : first ≡ row = only_one first row own in subst (λ r. place_order place r.place ≡ Less) same h.0)
      (λ later. place_total.trans place first.place row.place h.0 (above_all first.place rows row h.1 later))
      (Contains-append_cases (first ∷ []) rows row c)
    where
      only_one : (first row : Placed T) → Contains (first ∷ []) row → first ≡ row
      only_one first row (zero, low, at) = at
      only_one first row (suc k, low, at) = absurd (omega arith)

  -- both lists have the same rows
  pub record SameRows (xs ys : List (Placed T)) : Type 0 where
    pub to : (z : Placed T) → Contains xs z → Contains ys z
    pub back : (z : Placed T) → Contains ys z → Contains xs z

  only_first : (x y : Placed T) → Contains (x ∷ []) y → x ≡ y
  only_first x y (zero, low, at) = at
  only_first x y (suc k, low, at) = absurd (omega arith)

  pub first_or_later : (x : Placed T) (xs : List (Placed T)) (y : Placed T) → Contains (x ∷ xs) y → (x ≡ y) ⊎ Contains xs y
  first_or_later x xs y c = ⊎_elim (λ own. inl (only_first x y own)) (λ later. inr later) (Contains-append_cases (x ∷ []) xs y c)

  -- what is in the rest of rising rows is not their first
  later_in : (x : Placed T) (xs ys : List (Placed T)) → RisesFrom (Some x.place) xs → ((z : Placed T) → Contains (x ∷ xs) z → Contains (x ∷ ys) z) → (z : Placed T) → Contains xs z → Contains ys z
  later_in x xs ys up to z c = ⊎_elim
      (λ same. absurd (not_itself x.place (subst (λ r. place_order x.place r.place ≡ Less) (sym same) (above_all x.place xs z up c))))
      (λ later. later)
      (first_or_later x ys z (to z (Contains-append_right (x ∷ []) xs z c)))

  -- rising rows with the same members are the same
  pub same_rising : (before after : Option Place) (xs ys : List (Placed T)) → RisesFrom before xs → RisesFrom after ys → SameRows xs ys → xs ≡ ys
  same_rising before after [] [] up high s = refl
  same_rising before after [] (y ∷ ys) up high s = absurd (none_in y (s.back y (first_in y ys)))
  same_rising before after (x ∷ xs) [] up high s = absurd (none_in x (s.to x (first_in x xs)))
  same_rising before after (x ∷ xs) (y ∷ ys) up high s = by_first
      (λ zs high same. same_rising (Some x.place) (Some x.place) xs zs up.1 high same)
      (⊎_elim (λ same. sym same)
      (λ late. ⊎_elim (λ same. same)
      (λ later. absurd (not_itself x.place (place_total.trans x.place y.place x.place (above_all x.place xs y up.1 later) (above_all y.place ys x high.1 late))))
      (first_or_later x xs y (s.back y (first_in y ys))))
      (first_or_later y ys x (s.to x (first_in x xs))))
    where
      by_first : ((zs : List (Placed T)) → RisesFrom (Some x.place) zs → SameRows xs zs → xs ≡ zs) → x ≡ y → x ∷ xs ≡ y ∷ ys
      by_first again e =
          let up_ys : RisesFrom (Some x.place) ys = subst (λ (r : Placed T). RisesFrom (Some r.place) ys) (sym e) high.1 in
          let both : SameRows (x ∷ xs) (x ∷ ys) = subst (λ (r : Placed T). SameRows (x ∷ xs) (r ∷ ys)) (sym e) s in
          let rest = again ys up_ys record { to = later_in x xs ys up.1 both.to; back = later_in x ys xs up_ys both.back } in
          λ t. e t ∷ rest t

  pub only_merge : (lists : List (List (Placed T))) (v w : List (Placed T)) → IsMerge lists v → IsMerge lists w → v ≡ w
  only_merge lists v w m n =
      let all = flat_map (λ (l : List (Placed T)). l) lists in
      same_rising None None v w m.rises n.rises record {
        to = λ z c. Contains-permutation all w z n.all (Contains-permutation v all z (IsPermutation-sym all v m.all) c);
        back = λ z c. Contains-permutation all v z m.all (Contains-permutation w all z (IsPermutation-sym all w n.all) c);
      }

  -- rows of one place that are alike, and hold what rows of a list hold, are one
  one_row : (all : List (Copied T)) → AreAlike all → (x y : Placed T) → MadeOf (λ (c : Copied T). c.row) all x → MadeOf (λ (c : Copied T). c.row) all y → x.place ≡ y.place → x ≡ y
  one_row all alike x y a b e =
      let places : a.from.row.place ≡ b.from.row.place = ap (λ (r : Placed T). r.place) a.is ∙ e ∙ sym (ap (λ (r : Placed T). r.place) b.is) in
      let rows : a.from.row.row ≡ b.from.row.row = alike a.from b.from a.member b.member places in
      let both : a.from.row ≡ b.from.row = λ t. record { place = places t; row = rows t } in
      sym a.is ∙ both ∙ b.is

  -- a row of one merge is a row of the other
  also_in : (all : List (Copied T)) → AreAlike all → (v w : List (Placed T)) → IsMergeOf all v → IsMergeOf all w → (z : Placed T) → Contains v z → Contains w z
  also_in all alike v w m n z c =
      let row_of = λ (d : Copied T). d.row in
      let here = All-contains (λ (r : Placed T). Contains (map row_of all) r × IsWhole all r.place) v z m.among c in
      let there : HasPlace w z.place = n.each z.place here.1 in
      let other = All-contains (λ (r : Placed T). Contains (map row_of all) r × IsWhole all r.place) w there.0 n.among there.1 in
      subst (Contains w) (one_row all alike there.0 z (made_of row_of all there.0 other.0) (made_of row_of all z here.0) there.2) there.1

  pub only_merge_of : (all : List (Copied T)) (v w : List (Placed T)) → AreAlike all → IsMergeOf all v → IsMergeOf all w → v ≡ w
  only_merge_of all v w alike m n = same_rising None None v w m.rises n.rises record { to = also_in all alike v w m n; back = also_in all alike w v n m }

-- what has the elements of no list has none
pub none_given : {A : Type 0} (all left : List A) → IsPermutation all left → left ≡ [] → all ≡ []
none_given [] left p none = refl
none_given (a ∷ all) left p none = absurd (let long = length_permutation (a ∷ all) left p in let short = ap length none in omega arith)
