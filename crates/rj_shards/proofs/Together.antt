-- Members of several joined tables together, and lists that are made of each element of a list.
use Rattle.std.proofs.Common.{◌≡◌, ℕ, ◌<◌, List, [], ◌∷◌, ◌++◌, length, map, refl, ap, sym, subst, ◌∙◌, append_assoc, arith, All}
use Rattle.std.specs.List.{Contains, flat_map}
use Rattle.std.specs.List.Sorted.{IsPermutation}
use Rattle.std.proofs.lemmas.Grind.{flat_map-append}
use Rattle.std.proofs.lemmas.List.{get_or-map, length-map, map-append}
use Rattle.std.proofs.lemmas.List.Elements.{All-append, All-cons, All-contains, All-contains_itself, All-head, All-map, All-nil, All-tail, All-weaker}
use Rattle.std.proofs.lemmas.List.Sorted.{IsPermutation-append, IsPermutation-append_comm, IsPermutation-append_left, IsPermutation-append_right, IsPermutation-refl, IsPermutation-trans}
use Rattle.rj_engine.specs.declared.joined.JoinedRow.{JoinedRow}
use Rattle.rj_engine.specs.declared.joined.JoinedRow.TheVariants.{Both, LeftOnly, RightOnly}
use Rattle.rj_engine.specs.Join.{JoinedValue, rows_in}

-- two lists of two parts each, part by part
pub by_parts : {X : Type 0} (a b c d : List X) → IsPermutation ((a ++ b) ++ (c ++ d)) ((a ++ c) ++ (b ++ d))
by_parts a b c d =
    let before : (a ++ b) ++ (c ++ d) ≡ a ++ ((b ++ c) ++ d) = append_assoc a b (c ++ d) ∙ ap (λ r. a ++ r) (sym (append_assoc b c d)) in
    let after : a ++ ((c ++ b) ++ d) ≡ (a ++ c) ++ (b ++ d) = ap (λ r. a ++ r) (append_assoc c b d) ∙ sym (append_assoc a c (b ++ d)) in
    subst (λ r. IsPermutation r ((a ++ c) ++ (b ++ d))) (sym before)
    (subst (IsPermutation (a ++ ((b ++ c) ++ d))) after
    (IsPermutation-append_right a ((b ++ c) ++ d) ((c ++ b) ++ d) (IsPermutation-append_left d (b ++ c) (c ++ b) (IsPermutation-append_comm b c))))

-- and of three parts each
by_three_parts : {X : Type 0} (a b c d e f : List X) → IsPermutation (((a ++ b) ++ c) ++ ((d ++ e) ++ f)) (((a ++ d) ++ (b ++ e)) ++ (c ++ f))
by_three_parts a b c d e f =
    IsPermutation-trans (((a ++ b) ++ c) ++ ((d ++ e) ++ f)) (((a ++ b) ++ (d ++ e)) ++ (c ++ f)) (((a ++ d) ++ (b ++ e)) ++ (c ++ f))
    (by_parts (a ++ b) c (d ++ e) f) (IsPermutation-append_left (c ++ f) ((a ++ b) ++ (d ++ e)) ((a ++ d) ++ (b ++ e)) (by_parts a b d e))

abbrev boths : List (ℕ × ℕ) → List JoinedRow
boths ps = map (λ p. Both p.0 p.1) ps

abbrev lefts : List ℕ → List JoinedRow
lefts xs = map (λ i. LeftOnly i) xs

abbrev rights : List ℕ → List JoinedRow
rights ys = map (λ j. RightOnly j) ys

-- one more part
with_one : (v : JoinedValue) (rows : List JoinedRow) (ps : List (ℕ × ℕ)) (xs ys : List ℕ) → IsPermutation rows (boths ps ++ lefts xs ++ rights ys)
    → IsPermutation (rows_in v ++ rows) (boths (v.pairs ++ ps) ++ lefts (v.lone_left ++ xs) ++ rights (v.lone_right ++ ys))
unfolding rows_in
with_one v rows ps xs ys h =
    let others = boths ps ++ lefts xs ++ rights ys in
    let all = boths v.pairs ++ boths ps ++ (lefts v.lone_left ++ lefts xs) ++ (rights v.lone_right ++ rights ys) in
    let a = map-append (λ p. Both p.0 p.1) v.pairs ps in
    let b = map-append (λ i. LeftOnly i) v.lone_left xs in
    let c = map-append (λ j. RightOnly j) v.lone_right ys in
    subst (IsPermutation (rows_in v ++ rows)) (λ t. sym a t ++ sym b t ++ sym c t)
    (IsPermutation-trans (rows_in v ++ rows) (rows_in v ++ others) all (IsPermutation-append_right (rows_in v) rows others h)
    (by_three_parts (boths v.pairs) (lefts v.lone_left) (rights v.lone_right) (boths ps) (lefts xs) (rights ys)))

-- the pairs, the lone left rows and the lone right rows of all parts
abbrev pub members_of : List JoinedValue → JoinedValue
members_of parts = record { pairs = flat_map (λ v. v.pairs) parts; lone_left = flat_map (λ v. v.lone_left) parts; lone_right = flat_map (λ v. v.lone_right) parts }

-- they are the members of all parts
pub members_of_all : (parts : List JoinedValue) → IsPermutation (flat_map rows_in parts) (rows_in (members_of parts))
unfolding rows_in
members_of_all [] = IsPermutation-refl []
members_of_all (v ∷ vs) = with_one v (flat_map rows_in vs) (flat_map (λ v. v.pairs) vs) (flat_map (λ v. v.lone_left) vs) (flat_map (λ v. v.lone_right) vs) (members_of_all vs)

-- what holds of the members of each kind
pub all_members : (P : JoinedRow → Type 0) (v : JoinedValue) → All (λ q. P (Both q.0 q.1)) v.pairs → All (λ i. P (LeftOnly i)) v.lone_left → All (λ j. P (RightOnly j)) v.lone_right → All P (rows_in v)
unfolding rows_in
all_members P v h i j =
    let boths = map (λ q. Both q.0 q.1) v.pairs in
    let lefts = map (λ i. LeftOnly i) v.lone_left in
    let rights = map (λ j. RightOnly j) v.lone_right in
    All-append P (boths ++ lefts) rights (All-append P boths lefts (All-map P (λ q. Both q.0 q.1) v.pairs h) (All-map P (λ i. LeftOnly i) v.lone_left i)) (All-map P (λ j. RightOnly j) v.lone_right j)

module _ {A B : Type 0} where
  -- lists that are made of each element, none of which has any
  pub flat_none : (f : A → List B) → ((a : A) → f a ≡ []) → (xs : List A) → flat_map f xs ≡ []
  flat_none f none [] = refl
  flat_none f none (x ∷ xs) = ap (λ ys. ys ++ flat_map f xs) (none x) ∙ flat_none f none xs

  -- with the same elements each
  pub flat_each : (f g : A → List B) (xs : List A) → All (λ a. IsPermutation (f a) (g a)) xs → IsPermutation (flat_map f xs) (flat_map g xs)
  flat_each f g [] each = IsPermutation-refl []
  flat_each f g (x ∷ xs) each =
      IsPermutation-append (f x) (g x) (flat_map f xs) (flat_map g xs) (All-head (λ a. IsPermutation (f a) (g a)) x xs each)
      (flat_each f g xs (All-tail (λ a. IsPermutation (f a) (g a)) x xs each))

  -- what is made of each of them
  pub flat_flat : {C : Type 0} (g : B → List C) (f : A → List B) (xs : List A) → flat_map g (flat_map f xs) ≡ flat_map (λ x. flat_map g (f x)) xs
  flat_flat g f [] = refl
  flat_flat g f (x ∷ xs) = flat_map-append g (f x) (flat_map f xs) ∙ ap (λ r. flat_map g (f x) ++ r) (flat_flat g f xs)

  pub map_flat : {C : Type 0} (g : B → C) (f : A → List B) (xs : List A) → map g (flat_map f xs) ≡ flat_map (λ x. map g (f x)) xs
  map_flat g f [] = refl
  map_flat g f (x ∷ xs) = map-append g (f x) (flat_map f xs) ∙ ap (λ r. map g (f x) ++ r) (map_flat g f xs)

  -- what holds of all of them
  pub All-flat_map : (P : B → Type 0) (f : A → List B) (xs : List A) → All (λ a. All P (f a)) xs → All P (flat_map f xs)
  All-flat_map P f [] each = All-nil P
  All-flat_map P f (x ∷ xs) each =
      All-append P (f x) (flat_map f xs) (All-head (λ a. All P (f a)) x xs each) (All-flat_map P f xs (All-tail (λ a. All P (f a)) x xs each))

-- two functions that agree on the elements of a list
pub map_within : {X Y : Type 0} (f g : X → Y) (xs : List X) → All (λ x. f x ≡ g x) xs → map f xs ≡ map g xs
map_within f g [] same = refl
map_within f g (x ∷ xs) same =
    let first = All-head (λ x. f x ≡ g x) x xs same in
    let rest = map_within f g xs (All-tail (λ x. f x ≡ g x) x xs same) in
    λ t. first t ∷ rest t

pub map_map : {A B X : Type 0} (g : B → X) (h : A → B) (xs : List A) → map g (map h xs) ≡ map (λ x. g (h x)) xs
map_map g h [] = refl
map_map g h (x ∷ xs) = ap (λ ys. g (h x) ∷ ys) (map_map g h xs)

-- what is made of an element is among what is made of all, and what is among these is made of an element
module _ {X Y : Type 0} (f : X → Y) (xs : List X) where
  pub Contains-map : (x : X) → Contains xs x → Contains (map f xs) (f x)
  Contains-map x h =
      let low : h.0 < length (map f xs) = let many = length-map xs f in let l = h.1 in omega (arith, many, l) in
      (h.0, low, get_or-map f xs h.0 x (f x) h.1 ∙ ap f h.2)

  abbrev pub IsMadeOf : Y → Type 0
  IsMadeOf y = (x : X) × Contains xs x × (f x ≡ y)

  pub Contains-map_back : (y : Y) → Contains (map f xs) y → IsMadeOf y
  Contains-map_back y h =
      All-contains IsMadeOf (map f xs) y (All-map IsMadeOf f xs (All-weaker (Contains xs) (λ x. IsMadeOf (f x)) (λ x there. (x, there, refl)) xs (All-contains_itself xs))) h

-- what holds of a list holds of each of its runs
module _ {X : Type 0} (P : X → Type 0) where
  all_front : (xs ys : List X) → All P (xs ++ ys) → All P xs
  all_front [] ys h = All-nil P
  all_front (x ∷ xs) ys h = All-cons P x xs (All-head P x (xs ++ ys) h) (all_front xs ys (All-tail P x (xs ++ ys) h))

  all_back : (xs ys : List X) → All P (xs ++ ys) → All P ys
  all_back [] ys h = h
  all_back (x ∷ xs) ys h = all_back xs ys (All-tail P x (xs ++ ys) h)

  pub all_runs : (runs : List (List X)) → All P (flat_map (λ run. run) runs) → All (All P) runs
  all_runs [] h = All-nil (All P)
  all_runs (run ∷ runs) h = All-cons (All P) run runs (all_front run (flat_map (λ run. run) runs) h) (all_runs runs (all_back run (flat_map (λ run. run) runs) h))
