-- The rows of one place, taken of those that are left.
use Rattle.std.proofs.Common.{◌≡◌, ℕ, ◌+◌, ◌<◌, ◌≤◌, List, [], ◌∷◌, ◌++◌, map, Option, Some, refl, sym, ap, subst, ◌∙◌, inl, inr, ◌⊎◌, arith, length-append, min}
use mathlib.Core.Logic.{⊎_elim}
use Rattle.std.proofs.lemmas.Bool.{cases_lt}
use Rattle.std.specs.List.{Contains}
use Rattle.std.specs.List.Sorted.{IsPermutation}
use Rattle.std.proofs.lemmas.List.{map-append}
use Rattle.std.proofs.lemmas.List.Elements.{All-cons, All-nil, All-push, All-weaker, Contains-append_left, Contains-push}
use Rattle.std.proofs.lemmas.List.Sorted.{IsPermutation-pop_more, IsPermutation-sym}
use Rattle.rj_shards.specs.declared.merge.copies.Copies.{Copies}
use Rattle.rj_shards.specs.declared.merge.place.Place.{Place}
use Rattle.rj_shards.specs.declared.merge.place.Placed.{Placed}
use Rattle.rj_shards.specs.Copies.{Copied, StandsTooOften, copy_of, needed}
use Rattle.rj_shards.specs.Merging.{IsPassed, Passes}
use Rattle.rj_shards.specs.Places.{IsAbove}
use Rattle.rj_shards.specs.Wholes.{IsMergeOf}
use Rattle.rj_shards.proofs.CopyFacts.{AreOfPlace, first_in, merge_short, merge_whole, often_moved, times_append, too_often}
use Rattle.rj_shards.proofs.PassFacts.{above_on, passed_if_same}

-- the lower of two numbers is one of them
one_of_both : (a b : ℕ) → (min a b ≡ a) ⊎ (min a b ≡ b)
one_of_both a b = ⊎_elim (λ h. inl (omega (arith, h))) (λ h. inr (omega (arith, h))) (cases_lt a b)

module _ {T : Type 0} where
  -- of the rows that were left so many of the place of a row were taken, among them this row, and the least number that one of them
  -- has to stand is this
  pub record Takes (row : Placed T) (least many : ℕ) (old new : List (Copied T)) : Type 0 where
    pub taken : List (Copied T)
    pub all : IsPermutation old (taken ++ new)
    pub of : AreOfPlace taken row least many

  -- the row itself
  pub takes_first : (copies : Copies) (row : Placed T) (old new : List (Copied T)) → IsPermutation old (copy_of copies row ∷ new) → Takes row (needed copies row.place) 1 old new
  takes_first copies row old new p =
      let own : Copied T = copy_of copies row in
      record {
        taken = own ∷ [];
        all = p;
        of = record {
          at = All-cons (λ (c : Copied T). c.row.place ≡ row.place) own [] refl (All-nil (λ (c : Copied T). c.row.place ≡ row.place));
          count = refl;
          least = All-cons (λ (c : Copied T). needed copies row.place ≤ c.needed) own [] (omega arith) (All-nil (λ (c : Copied T). needed copies row.place ≤ c.needed));
          first = first_in row [];
          some = own;
          member = first_in own [];
          is = refl;
        };
      }

  -- one of the rows has to stand so often
  record HasNeeded (all : List (Copied T)) (number : ℕ) : Type 0 where
    copy : Copied T
    member : Contains all copy
    is : copy.needed ≡ number

  one_needed : (taken : List (Copied T)) (own : Copied T) (least more lower : ℕ) (c : Copied T) → Contains taken c → c.needed ≡ least → own.needed ≡ more → (lower ≡ least) ⊎ (lower ≡ more) → HasNeeded (taken ++ own ∷ []) lower
  one_needed taken own least more lower c member is own_is one = ⊎_elim
      (λ old. record { copy = c; member = Contains-append_left taken (own ∷ []) c member; is = is ∙ sym old })
      (λ new. record { copy = own; member = Contains-push taken own; is = own_is ∙ sym new })
      one

  -- one row more of the place
  pub takes_more : (row : Placed T) (least many : ℕ) (old mid new : List (Copied T)) → Takes row least many old mid → (copies : Copies) (other : Placed T) → other.place ≡ row.place
      → IsPermutation mid (copy_of copies other ∷ new) → Takes row (min least (needed copies row.place)) (many + 1) old new
  takes_more row least many old mid new t copies other same p =
      let own : Copied T = copy_of copies other in
      let own_needed : own.needed ≡ needed copies row.place = ap (needed copies) same in
      let lower = min least (needed copies row.place) in
      let one = one_needed t.taken own least (needed copies row.place) lower t.of.some t.of.member t.of.is own_needed (one_of_both least (needed copies row.place)) in
      record {
        taken = t.taken ++ own ∷ [];
        all = IsPermutation-pop_more old t.taken mid new own t.all p;
        of = record {
          at = All-push (λ (c : Copied T). c.row.place ≡ row.place) t.taken own t.of.at same;
          count = length-append t.taken (own ∷ []) ∙ ap (λ n. n + 1) t.of.count;
          least = All-push (λ (c : Copied T). lower ≤ c.needed) t.taken own
              (All-weaker (λ (c : Copied T). least ≤ c.needed) (λ (c : Copied T). lower ≤ c.needed) (λ c h. omega (arith, h)) t.taken t.of.least) (omega (arith, own_needed));
          first = subst (λ l. Contains l row) (sym (map-append (λ (c : Copied T). c.row) t.taken (own ∷ []))) (Contains-append_left (map (λ (c : Copied T). c.row) t.taken) (other ∷ []) row t.of.first);
          some = one.copy;
          member = one.member;
          is = one.is;
        };
      }

  -- where they are as many as they have to be, or fewer, a merge has passed them
  pub passes_taken : (row : Placed T) (least many : ℕ) (old new : List (Copied T)) (t : Takes row least many old new) (passed : Option Place) → IsAbove passed row.place
      → (given : List (Placed T)) → IsMergeOf t.taken given → Passes passed (Some row.place) old new given
  passes_taken row least many old new t passed up given merge = record {
    taken = t.taken;
    all = t.all;
    above = All-weaker (λ (c : Copied T). c.row.place ≡ row.place) (λ (c : Copied T). IsAbove passed c.row.place) (λ c e. subst (IsAbove passed) (sym e) up) t.taken t.of.at;
    passed = All-weaker (λ (c : Copied T). c.row.place ≡ row.place) (λ (c : Copied T). IsPassed (Some row.place) c.row.place) (λ c e. passed_if_same c.row.place row.place e) t.taken t.of.at;
    onward = above_on passed row.place up;
    merge = merge;
  }

  pub passes_whole : (row : Placed T) (least many : ℕ) (old new : List (Copied T)) → Takes row least many old new → (passed : Option Place) → IsAbove passed row.place → many ≡ least
      → Passes passed (Some row.place) old new (row ∷ [])
  passes_whole row least many old new t passed up e = passes_taken row least many old new t passed up (row ∷ []) (merge_whole t.taken row least many t.of e)

  pub passes_short : (row : Placed T) (least many : ℕ) (old new : List (Copied T)) → Takes row least many old new → (passed : Option Place) → IsAbove passed row.place → many < least
      → Passes passed (Some row.place) old new []
  passes_short row least many old new t passed up low = passes_taken row least many old new t passed up [] (merge_short t.taken row least many t.of low)

  -- where they are more than one of them has to be, the place stands too often
  pub takes_often : (row : Placed T) (least many : ℕ) (old new : List (Copied T)) → Takes row least many old new → least < many → StandsTooOften old row.place
  takes_often row least many old new t more =
      let w : StandsTooOften t.taken row.place = too_often t.taken row least many t.of more in
      let all = times_append row.place t.taken new in
      often_moved (t.taken ++ new) old (IsPermutation-sym old (t.taken ++ new) t.all) row.place (w.0, Contains-append_left t.taken new w.0 w.1, w.2, omega (arith, all, w.3))
