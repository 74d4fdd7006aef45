-- What a shard makes of its own members is what the whole makes of them, with their row numbers mapped back.
use Rattle.std.proofs.Common.{◌≡◌, ℕ, zero, suc, ◌+◌, ◌<◌, ◌≤◌, Bool, true, false, cond, List, [], ◌++◌, map, length, slice_index_or, ap, sym, ◌∙◌, arith, All}
use Rattle.std.specs.List.{flat_map, range_with_len}
use Rattle.std.proofs.lemmas.List.{map-append}
use Rattle.std.proofs.lemmas.List.Elements.{All-append, All-cons, All-filter, All-map, All-nil, All-weaker}
use Rattle.rj_engine.specs.declared.joined.JoinedRow.{JoinedRow}
use Rattle.rj_engine.specs.declared.joined.JoinedRow.TheVariants.{Both, LeftOnly, RightOnly}
use Rattle.rj_engine.specs.Join.{JoinedValue, absent, pairs, product, row_of, rows_in}
use Rattle.rj_shards.specs.Shards.{mapped_back}
use Rattle.rj_shards.proofs.Together.{map_map, map_within}
use Rattle.rj_shards.specs.Rows.{member_back}

-- a pair of rows below these numbers
abbrev pub IsPairBelow : ℕ → ℕ → ℕ × ℕ → Type 0
IsPairBelow m n p = (p.0 < m) × (p.1 < n)

pub range_all : (P : ℕ → Type 0) (a n : ℕ) → ((i : ℕ) → a ≤ i → i < a + n → P i) → All P (range_with_len a n)
range_all P a zero each = All-nil P
range_all P a (suc n) each = All-cons P a (range_with_len (a + 1) n) (each a (omega arith) (omega arith)) (range_all P (a + 1) n (λ i low high. each i (omega arith) (omega arith)))

row_all : (m n i : ℕ) → i < m → All (IsPairBelow m n) (row_of n i)
unfolding row_of
row_all m n i low = All-map (IsPairBelow m n) (λ j. (i, j)) (range_with_len 0 n) (range_all (λ j. IsPairBelow m n (i, j)) 0 n (λ j from to. (low, omega arith)))

rows_all : (m n a k : ℕ) → a + k ≤ m → All (IsPairBelow m n) (flat_map (row_of n) (range_with_len a k))
rows_all m n a zero low = All-nil (IsPairBelow m n)
rows_all m n a (suc k) low =
    All-append (IsPairBelow m n) (row_of n a) (flat_map (row_of n) (range_with_len (a + 1) k)) (row_all m n a (omega arith)) (rows_all m n (a + 1) k (omega arith))

pub pairs_below : (keeps : ℕ → ℕ → Bool) (m n : ℕ) → All (IsPairBelow m n) (pairs keeps m n)
unfolding pairs product
pairs_below keeps m n = All-filter (λ p. keeps p.0 p.1) (IsPairBelow m n) (product m n) (rows_all m n 0 m (omega arith))

absent_below : (numbers : List ℕ) (n : ℕ) → All (λ i. i < n) (absent numbers n)
unfolding absent
absent_below numbers n = All-filter _ (λ i. i < n) (range_with_len 0 n) (range_all (λ i. i < n) 0 n (λ i low high. omega arith))

pub added_below : (adds : Bool) (numbers : List ℕ) (n : ℕ) → All (λ i. i < n) (cond adds (absent numbers n) [])
added_below true numbers n = absent_below numbers n
added_below false numbers n = All-nil (λ i. i < n)

-- two functions that agree on the elements of a list, of which the other one takes what is made of them
same_of_all : {A B X : Type 0} (P : A → Type 0) (f : A → X) (g : B → X) (h : A → B) → ((a : A) → P a → f a ≡ g (h a)) → (xs : List A) → All P xs → map f xs ≡ map g (map h xs)
same_of_all P f g h each xs all = map_within f (λ x. g (h x)) xs (All-weaker P (λ x. f x ≡ g (h x)) each xs all) ∙ sym (map_map g h xs)

-- what is made of members, kind by kind
of_kinds : {X : Type 0} (f : JoinedRow → X) (v : JoinedValue) → map f (rows_in v) ≡ map (λ p. f (Both p.0 p.1)) v.pairs ++ map (λ i. f (LeftOnly i)) v.lone_left ++ map (λ j. f (RightOnly j)) v.lone_right
unfolding rows_in
of_kinds f v =
    let boths = map (λ p. Both p.0 p.1) v.pairs in
    let lefts = map (λ i. LeftOnly i) v.lone_left in
    let rights = map (λ j. RightOnly j) v.lone_right in
    map-append f (boths ++ lefts) rights
    ∙ (ap (λ r. r ++ map f rights) (map-append f boths lefts)
    ∙ (λ t. map_map f (λ p. Both p.0 p.1) v.pairs t ++ map_map f (λ i. LeftOnly i) v.lone_left t ++ map_map f (λ j. RightOnly j) v.lone_right t))

-- members whose rows are below these numbers
pub record AreBelow (m n : ℕ) (v : JoinedValue) : Type 0 where
  pub pairs : All (IsPairBelow m n) v.pairs
  pub lone_left : All (λ i. i < m) v.lone_left
  pub lone_right : All (λ j. j < n) v.lone_right

-- what two functions agree on
pub record Agree {X : Type 0} (lefts rights : List ℕ) (f g : JoinedRow → X) : Type 0 where
  pub both : (i j : ℕ) → i < length lefts → j < length rights → f (Both i j) ≡ g (member_back lefts rights (Both i j))
  pub left : (i : ℕ) → i < length lefts → f (LeftOnly i) ≡ g (member_back lefts rights (LeftOnly i))
  pub right : (j : ℕ) → j < length rights → f (RightOnly j) ≡ g (member_back lefts rights (RightOnly j))

pub own_as_back : {X : Type 0} (lefts rights : List ℕ) (f g : JoinedRow → X) → Agree lefts rights f g → (v : JoinedValue) → AreBelow (length lefts) (length rights) v → map f (rows_in v) ≡ map g (rows_in (mapped_back lefts rights v))
own_as_back lefts rights f g same v below =
    let pairs = same_of_all (IsPairBelow (length lefts) (length rights)) (λ p. f (Both p.0 p.1)) (λ p. g (Both p.0 p.1)) (λ p. (slice_index_or lefts p.0 0, slice_index_or rights p.1 0))
    (λ p low. same.both p.0 p.1 low.0 low.1) v.pairs below.pairs in
    let lone_left = same_of_all (λ i. i < length lefts) (λ i. f (LeftOnly i)) (λ i. g (LeftOnly i)) (λ i. slice_index_or lefts i 0) same.left v.lone_left below.lone_left in
    let lone_right = same_of_all (λ j. j < length rights) (λ j. f (RightOnly j)) (λ j. g (RightOnly j)) (λ j. slice_index_or rights j 0) same.right v.lone_right below.lone_right in
    of_kinds f v ∙ ((λ t. pairs t ++ lone_left t ++ lone_right t) ∙ sym (of_kinds g (mapped_back lefts rights v)))
