-- Numbers none of which stands twice, one after another.
use Rattle.std.proofs.Common.{◌≡◌, ◌≢◌, ◌∙◌, ◌<◌, ◌==◌, ◌+◌, ℕ, Bool, true, false, List, length, map, take, get_or, slice_index_or, sym, ap, subst, arith, true≢false}
use Rattle.std.specs.List.{All, list_any}
use Rattle.std.proofs.lemmas.Bool.{eq-eqb, eqb-true}
use Rattle.std.proofs.lemmas.List.{get_or-map, get_or-take, get_or_default, length-take-le, length-map, map_more, take-map}
use Rattle.std.proofs.lemmas.List.Folds.{Any-from_list_any, list_any_at}
use Rattle.std.proofs.lemmas.List.Quantifiers.{all_pairs_push}
use Rattle.rj_columns.specs.Tables.{TableValue}
use Rattle.rj_condition.specs.declared.bound.BoundJoin.{BoundJoin}
use Rattle.rj_condition.specs.Joins.{keeps}
use Rattle.std.proofs.lemmas.List.Elements.{All-weaker}
use Rattle.rj_engine.proofs.Sources.{pairs-within}
use Rattle.rj_engine.specs.Expected.{AreDistinct}
use Rattle.rj_engine.specs.Internal.Marks.{IsMarked}
use Rattle.rj_engine.specs.Join.{JoinedValue}
use Rattle.rj_engine.specs.Results.{joined_of, kept_pairs}

-- one more number, which isn't among those before it
pub distinct_more : {X : Type 0} (f : X → ℕ) (xs : List X) (i : ℕ) (d : X) → i < length xs → AreDistinct (map f (take i xs))
    → list_any (λ x. x == f (get_or xs i d)) (map f (take i xs)) ≡ false → AreDistinct (map f (take (i + 1) xs))
distinct_more f xs i d lt distinct none =
    let numbers = map f (take i xs) in
    let k = f (get_or xs i d) in
    subst AreDistinct (sym (map_more f xs i d lt)) (all_pairs_push (λ a b. a ≢ b) numbers k distinct (λ j e low same.
    true≢false (sym (list_any_at (λ x. x == k) numbers j e low (eq-eqb _ _ same)) ∙ none)))

-- a number that is among those before it stands twice
pub stands_twice : {X : Type 0} (f : X → ℕ) (xs : List X) (i : ℕ) (d : X) → i < length xs
    → list_any (λ x. x == f (get_or xs i d)) (map f (take i xs)) ≡ true → AreDistinct (map f xs) → ⊥
stands_twice f xs i d lt any distinct =
    let k = f (get_or xs i d) in
    let cut = take-map f i xs in
    let found = Any-from_list_any (λ x. x == k) (take i (map f xs)) (ap (list_any (λ x. x == k)) cut ∙ any) in
    let j = found.0 in
    let len = length-map xs f in
    let low : j < length (take i (map f xs)) = found.2 in
    let most = length-take-le i (map f xs) (omega (arith, len)) in
    let before : j < i = omega (arith, low, most) in
    let there : i < length (map f xs) = omega (arith, len) in
    let here : get_or (take i (map f xs)) j 0 ≡ get_or (map f xs) j 0 = get_or-take i (map f xs) j 0 before in
    let last : get_or (map f xs) i 0 ≡ k = get_or-map f xs i d 0 lt in
    let is : get_or (take i (map f xs)) j 0 ≡ found.1 = get_or_default (take i (map f xs)) j 0 found.1 low ∙ found.3 in
    let equal : found.1 ≡ k = eqb-true found.1 k found.4 in
    distinct j i 0 before there (sym here ∙ (is ∙ (equal ∙ sym last)))

-- what a mark that was read says of its number
pub marked_is : (numbers : List ℕ) (count : ℕ) (marks : List Bool) (k : ℕ) (x b : Bool) → IsMarked numbers count marks → k < count
    → x ≡ slice_index_or marks k x → x ≡ b → list_any (λ n. n == k) numbers ≡ b
marked_is numbers count marks k x b marked low read is =
    let len = marked.len in
    sym (marked.each k low) ∙ (get_or_default marks k false x (omega (arith, len, low)) ∙ (sym read ∙ is))

-- the rows of kept pairs are those of the tables
module _ (join : BoundJoin) (l r : TableValue) (joined : JoinedValue) (given : List (ℕ × ℕ)) (count : ℕ) (is : joined ≡ joined_of join l r) (same : given ≡ joined.pairs) where
  kept : given ≡ kept_pairs join l r
  kept = same ∙ ap (λ (j : JoinedValue). j.pairs) is

  within : All (λ (p : ℕ × ℕ). (p.0 < length l.rows) × (p.1 < length r.rows)) given
  within = subst (λ (ps : List (ℕ × ℕ)). All (λ (p : ℕ × ℕ). (p.0 < length l.rows) × (p.1 < length r.rows)) ps) (sym kept) (pairs-within (keeps join l r) (length l.rows) (length r.rows))

  pub lefts_there : count ≡ length l.rows → All (λ (p : ℕ × ℕ). p.0 < count) given
  lefts_there many = All-weaker (λ (p : ℕ × ℕ). (p.0 < length l.rows) × (p.1 < length r.rows)) (λ (p : ℕ × ℕ). p.0 < count) (λ p low. let h = low.0 in omega (arith, many, h)) given within

  pub rights_there : count ≡ length r.rows → All (λ (p : ℕ × ℕ). p.1 < count) given
  rights_there many = All-weaker (λ (p : ℕ × ℕ). (p.0 < length l.rows) × (p.1 < length r.rows)) (λ (p : ℕ × ℕ). p.1 < count) (λ p low. let h = low.1 in omega (arith, many, h)) given within
