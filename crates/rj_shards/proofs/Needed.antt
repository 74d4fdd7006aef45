-- How often each member of a join stands among those of all pieces of all shards, and how often it has to.
use Rattle.std.proofs.Common.{◌≡◌, ℕ, zero, suc, ◌+◌, ◌*◌, ◌<◌, ◌≤◌, ◌==◌, Bool, true, false, not, cond, List, ◌++◌, length, map, refl, ap, sym, subst, ◌∙◌, arith}
use Rattle.std.specs.Cmp.{tied_itself}
use Rattle.std.specs.List.{count_by, filter, flat_map, list_all, range_with_len}
use Rattle.std.specs.Ordering.{is_eq, nat_cmp, ordering_then}
use Rattle.std.specs.declared.cmp.Ordering.TheVariants.{Less, Equal, Greater}
use Rattle.std.proofs.Math.Nat.{one-mul, zero-mul}
use Rattle.std.proofs.lemmas.Bool.{eqb-true, false≢true}
use Rattle.std.proofs.lemmas.Bool.Decides.{nat_tests}
use Rattle.std.proofs.lemmas.List.Sums.{count_by-le-length}
use Rattle.std.proofs.lemmas.Map.Views.{any-filter_same}
use Rattle.rj_settings.specs.declared.choice.RowOrder.{RowOrder}
use Rattle.rj_settings.specs.declared.choice.RowOrder.TheVariants.{LeftFirst, PairsFirst}
use Rattle.rj_engine.specs.Join.{JoinedValue, rows_in}
use Rattle.rj_engine.specs.declared.joined.JoinedRow.{JoinedRow}
use Rattle.rj_engine.specs.declared.joined.JoinedRow.TheVariants.{Both, LeftOnly, RightOnly}
use Rattle.rj_shards.specs.Places.{place_order, place_total}
use Rattle.rj_shards.specs.Rows.{place_of}
use Rattle.rj_shards.proofs.Counted.{all_counted, count_append, count_filter, count_map, count_none, count_one_of, counted_all}
use Rattle.rj_shards.proofs.LoneCounts.{often, often_lone}
use Rattle.rj_engine.proofs.LoneRows.{lone_of}
use Rattle.rj_shards.proofs.LoneRows.{free_of_runs, is_free}

-- what stands so often has to stand so often, if it does in the whole
pub record IsNeeded (needs times whole : ℕ) : Type 0 where
  pub most : times ≤ needs
  pub all : 0 < whole → times ≡ needs
  pub only : times ≡ needs → 0 < whole

lone_needed : (o f b : ℕ) (free : Bool) → o ≤ 1 → f ≤ b → 0 < b → (free ≡ true → f ≡ b) → (f ≡ b → free ≡ true) → IsNeeded b (o * f) (cond free o 0)
lone_needed zero f b true once most some all only = let e = zero-mul f in record { most = omega (arith, e); all = λ h. absurd (omega (arith, h)); only = λ h. absurd (omega (arith, e, h, some)) }
lone_needed zero f b false once most some all only = let e = zero-mul f in record { most = omega (arith, e); all = λ h. absurd (omega (arith, h)); only = λ h. absurd (omega (arith, e, h, some)) }
lone_needed (suc zero) f b true once most some all only = let e = one-mul f in let same = all refl in record { most = omega (arith, e, most); all = λ h. omega (arith, e, same); only = λ h. omega arith }
lone_needed (suc zero) f b false once most some all only =
    let e = one-mul f in record { most = omega (arith, e, most); all = λ h. absurd (omega (arith, h)); only = λ h. let no : false ≡ true = only (omega (arith, e, h)) in cc }
lone_needed (suc (suc o)) f b free once most some all only = absurd (omega (arith, once))

nothing_needed : (b : ℕ) → 0 < b → IsNeeded b 0 0
nothing_needed b some = record { most = omega arith; all = λ h. absurd (omega (arith, h)); only = λ h. absurd (omega (arith, h, some)) }

pub lone_if_added : (adds : Bool) (b t w : ℕ) → 0 < b → IsNeeded b t w → IsNeeded b (cond adds t 0) (cond adds w 0)
lone_if_added true b t w some h = h
lone_if_added false b t w some h = nothing_needed b some

itself : (a : ℕ) → (a == a) ≡ true
itself a = grind (arith, nat_tests)

other_number : (a b : ℕ) → (b ≡ a → ⊥) → (a == b) ≡ false
other_number a b ne = grind (arith, nat_tests)

-- how often a row is lone beside the runs of the shards
module _ (keeps : ℕ → ℕ → Bool) (own other : ℕ → ℕ) (count m n : ℕ) (mine others : ℕ → List (List ℕ)) where
  pub record AreCut : Type 0 where
    pub meet : (i j : ℕ) → keeps i j ≡ true → own i ≡ other j
    pub low : (i : ℕ) → own i < count
    pub some : (s : ℕ) → s < count → 0 < length (others s)
    pub mine_are : (s : ℕ) → s < count → filter (λ i. own i == s) (range_with_len 0 m) ≡ flat_map (λ run. run) (mine s)
    pub others_are : (s : ℕ) → s < count → filter (λ j. other j == s) (range_with_len 0 n) ≡ flat_map (λ run. run) (others s)

  module _ (cut : AreCut) (i : ℕ) (f : ℕ → List ℕ) (is : (s : ℕ) → often i (f s) ≡ often i (flat_map (λ run. run) (mine s)) * count_by (is_free keeps i) (others s)) where
    often_mine : (s : ℕ) → s < count → (b : Bool) → (own i == s) ≡ b → often i (flat_map (λ run. run) (mine s)) ≡ cond b (often i (range_with_len 0 m)) 0
    often_mine s low b e =
        ap (often i) (sym (cut.mine_are s low)) ∙ count_filter (λ x. x == i) (λ x. own x == s) b (λ x here. ap (λ z. own z == s) (eqb-true x i here) ∙ e) (range_with_len 0 m)

    elsewhere : (s : ℕ) → s < count → (s ≡ own i → ⊥) → often i (f s) ≡ 0
    elsewhere s low ne =
        is s ∙ (ap (λ k. k * count_by (is_free keeps i) (others s)) (often_mine s low false (other_number (own i) s ne)) ∙ zero-mul (count_by (is_free keeps i) (others s)))

    often_all : often i (flat_map f (range_with_len 0 count)) ≡ often i (range_with_len 0 m) * count_by (is_free keeps i) (others (own i))
    often_all =
        count_one_of (λ x. x == i) f (own i) count elsewhere 0 count (omega arith) (let low = cut.low i in omega (arith, low)) (omega arith)
        ∙ (is (own i) ∙ ap (λ k. k * count_by (is_free keeps i) (others (own i))) (often_mine (own i) (cut.low i) true (itself (own i))))

    free_of_all : is_free keeps i (range_with_len 0 n) ≡ list_all (is_free keeps i) (others (own i))
    free_of_all =
        ap not (sym (any-filter_same (keeps i) (λ j. other j == own i) true (λ j kept. ap (λ k. k == own i) (sym (cut.meet i j kept)) ∙ itself (own i)) (range_with_len 0 n)))
        ∙ (ap (is_free keeps i) (cut.others_are (own i) (cut.low i)) ∙ free_of_runs keeps i (others (own i)))

    -- a row is lone as often as it has to be exactly where it is lone in the whole
    pub often_needed : often i (range_with_len 0 m) ≤ 1
        → IsNeeded (length (others (own i))) (often i (flat_map f (range_with_len 0 count))) (often i (lone_of keeps (range_with_len 0 m) (range_with_len 0 n)))
    often_needed once =
        let free = is_free keeps i in
        let runs = others (own i) in
        subst (λ t. IsNeeded (length runs) t (often i (lone_of keeps (range_with_len 0 m) (range_with_len 0 n)))) (sym often_all)
        (subst (IsNeeded (length runs) (often i (range_with_len 0 m) * count_by free runs))
        (sym (often_lone keeps i (range_with_len 0 m) (range_with_len 0 n) ∙ ap (λ b. cond b (often i (range_with_len 0 m)) 0) free_of_all))
        (lone_needed (often i (range_with_len 0 m)) (count_by free runs) (length runs) (list_all free runs) once (count_by-le-length free runs) (cut.some (own i) (cut.low i))
        (counted_all free runs) (all_counted free runs)))

-- whether two members have one place in a joined table of this order
abbrev pub is_at : RowOrder → JoinedRow → JoinedRow → Bool
is_at order m row = is_eq (place_order (place_of order m) (place_of order row))

tied : (a b : ℕ) → is_eq (ordering_then (nat_cmp a b) Equal) ≡ (b == a)
tied a b = grind (arith, nat_tests)

before_or_behind : (a b : ℕ) → is_eq (ordering_then (nat_cmp a b) Less) ≡ false
before_or_behind a b = grind (arith, nat_tests)

behind_or_before : (a b : ℕ) → is_eq (ordering_then (nat_cmp a b) Greater) ≡ false
behind_or_before a b = grind (arith, nat_tests)

left_at : (order : RowOrder) (i a : ℕ) → is_at order (LeftOnly i) (LeftOnly a) ≡ (a == i)
left_at PairsFirst i a = tied i a
left_at LeftFirst i a = tied i a

pair_not_left : (order : RowOrder) (i j a : ℕ) → is_at order (Both i j) (LeftOnly a) ≡ false
pair_not_left PairsFirst i j a = refl
pair_not_left LeftFirst i j a = before_or_behind i a

left_not_pair : (order : RowOrder) (i a b : ℕ) → is_at order (LeftOnly i) (Both a b) ≡ false
left_not_pair PairsFirst i a b = refl
left_not_pair LeftFirst i a b = behind_or_before i a

left_not_right : (order : RowOrder) (i b : ℕ) → is_at order (LeftOnly i) (RightOnly b) ≡ false
left_not_right PairsFirst i b = refl
left_not_right LeftFirst i b = refl

right_not_left : (order : RowOrder) (j a : ℕ) → is_at order (RightOnly j) (LeftOnly a) ≡ false
right_not_left PairsFirst j a = refl
right_not_left LeftFirst j a = refl

-- how many members pass a test, kind by kind
count_kinds : (p : JoinedRow → Bool) (v : JoinedValue)
    → count_by p (rows_in v) ≡ count_by (λ q. p (Both q.0 q.1)) v.pairs + count_by (λ i. p (LeftOnly i)) v.lone_left + count_by (λ j. p (RightOnly j)) v.lone_right
unfolding rows_in
count_kinds p v =
    let boths = map (λ q. Both q.0 q.1) v.pairs in
    let lefts = map (λ i. LeftOnly i) v.lone_left in
    let rights = map (λ j. RightOnly j) v.lone_right in
    count_append p (boths ++ lefts) rights
    ∙ (ap (λ n. n + count_by p rights) (count_append p boths lefts)
    ∙ (λ t. count_map p (λ q. Both q.0 q.1) v.pairs t + count_map p (λ i. LeftOnly i) v.lone_left t + count_map p (λ j. RightOnly j) v.lone_right t))

-- how often a member's place stands among members
module _ (order : RowOrder) (v : JoinedValue) where
  pub pair_times : (i j : ℕ) → count_by (is_at order (Both i j)) (rows_in v) ≡ count_by (λ q. is_at order (Both i j) (Both q.0 q.1)) v.pairs
  pair_times i j =
      let p = is_at order (Both i j) in
      let a = count_kinds p v in
      let b = count_none (λ a. p (LeftOnly a)) (pair_not_left order i j) v.lone_left in
      let c = count_none (λ b. p (RightOnly b)) (λ b. refl) v.lone_right in
      omega (arith, a, b, c)

  pub left_times : (i : ℕ) → count_by (is_at order (LeftOnly i)) (rows_in v) ≡ often i v.lone_left
  left_times i =
      let p = is_at order (LeftOnly i) in
      let a = count_kinds p v in
      let b = count_none (λ q. p (Both q.0 q.1)) (λ q. left_not_pair order i q.0 q.1) v.pairs in
      let c = count_none (λ b. p (RightOnly b)) (left_not_right order i) v.lone_right in
      let d : count_by (λ a. p (LeftOnly a)) v.lone_left ≡ often i v.lone_left = λ t. count_by (λ a. left_at order i a t) v.lone_left in
      omega (arith, a, b, c, d)

  pub right_times : (j : ℕ) → count_by (is_at order (RightOnly j)) (rows_in v) ≡ often j v.lone_right
  right_times j =
      let p = is_at order (RightOnly j) in
      let a = count_kinds p v in
      let b = count_none (λ q. p (Both q.0 q.1)) (λ q. refl) v.pairs in
      let c = count_none (λ a. p (LeftOnly a)) (right_not_left order j) v.lone_left in
      let d : count_by (λ b. p (RightOnly b)) v.lone_right ≡ often j v.lone_right = λ t. count_by (λ b. tied j b t) v.lone_right in
      omega (arith, a, b, c, d)

both_same : (i j a b : ℕ) → is_eq (ordering_then (nat_cmp i a) (nat_cmp j b)) ≡ true → (i ≡ a) × (j ≡ b)
both_same i j a b e = grind (arith, nat_tests)

-- members of one place are one
pub same_member : (order : RowOrder) (m row : JoinedRow) → is_at order m row ≡ true → m ≡ row
same_member order (Both i j) (Both a b) e = let s = both_same i j a b e in λ t. Both (s.0 t) (s.1 t)
same_member order (Both i j) (LeftOnly a) e = absurd (false≢true (sym (pair_not_left order i j a) ∙ e))
same_member order (Both i j) (RightOnly b) e = absurd (false≢true e)
same_member order (LeftOnly i) (Both a b) e = absurd (false≢true (sym (left_not_pair order i a b) ∙ e))
same_member order (LeftOnly i) (LeftOnly a) e = ap LeftOnly (sym (eqb-true a i (sym (left_at order i a) ∙ e)))
same_member order (LeftOnly i) (RightOnly b) e = absurd (false≢true (sym (left_not_right order i b) ∙ e))
same_member order (RightOnly j) (Both a b) e = absurd (false≢true e)
same_member order (RightOnly j) (LeftOnly a) e = absurd (false≢true (sym (right_not_left order j a) ∙ e))
same_member order (RightOnly j) (RightOnly b) e = ap RightOnly (sym (eqb-true b j (sym (tied j b) ∙ e)))

pub at_itself : (order : RowOrder) (m : JoinedRow) → is_at order m m ≡ true
at_itself order m = ap is_eq (tied_itself place_total (place_of order m))
