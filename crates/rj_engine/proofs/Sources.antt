-- The columns and the members of a joined table are of the two tables.
use Rattle.std.proofs.Common.{◌≡◌, ◌<◌, ℕ, zero, suc, ◌+◌, ◌&&◌, ◌==◌, not, List, [], ◌∷◌, Bool, true, false, Option, Some, None, All, arith, length, map, inl, inr}
use Rattle.std.specs.Prelude.{slice_get, slice_index_or, is_some, cond}
use Rattle.std.specs.List.{range_with_len, list_all, list_any, flat_map}
use Rattle.std.proofs.lemmas.Bool.{and_parts, cases_lt}
use borrow.Author.Tests.{eqb-true}
use Rattle.std.proofs.lemmas.Option.{slice_get_past}
use Rattle.std.proofs.lemmas.List.{length-map}
use Rattle.std.proofs.lemmas.List.Elements.{All-nil, All-cons, All-append, All-map, All-filter, All-weaker}
use Rattle.rj_columns.specs.Contents.{Content}
use Rattle.rj_columns.specs.Tables.{TableValue}
use Rattle.rj_columns.specs.declared.cell.ColumnType.{ColumnType}
use Rattle.rj_columns.specs.declared.cell.ColumnType.TheVariants as kind
use Rattle.rj_condition.specs.Joins.{keeps, kind_of_join, partners_of, pairs_of}
use Rattle.rj_condition.specs.Fits.{are_one_type, pair_fits, rule_fits, fits}
use Rattle.rj_condition.specs.declared.bound.BoundJoin.{BoundJoin}
use Rattle.rj_engine.specs.declared.joined.JoinedRow.{JoinedRow}
use Rattle.rj_engine.specs.declared.joined.JoinedRow.TheVariants.{Both, LeftOnly, RightOnly}
use Rattle.rj_engine.specs.declared.origin.Origin.{Origin}
use Rattle.rj_engine.specs.declared.origin.Origin.TheVariants.{Coalesced, Left, Right}
use Rattle.rj_engine.specs.Join.{row_of, product, pairs, absent, rows_in, adds_left, adds_right}
use Rattle.rj_engine.specs.Results.{kept_pairs, joined_of, result_of}
use Rattle.rj_engine.specs.Origins.{is_column, other_lefts, other_rights, origins_of}
use Rattle.rj_engine.specs.Cells.{columns_of, joined_cells, joined_cell, IsMemberOf, IsColumnOf}

-- numbers of a range
pub All-range : (P : ℕ → Type 0) (a n : ℕ) → ((i : ℕ) → i < a + n → P i) → All P (range_with_len a n)
All-range P a zero h = All-nil P
All-range P a (suc n) h =
    let first : a < a + suc n = omega arith in
    All-cons P a (range_with_len (a + 1) n) (h a first) (All-range P (a + 1) n (λ i l. let low : i < a + suc n = omega arith in h i low))

pub All-flat_range : {X : Type 0} (P : X → Type 0) (f : ℕ → List X) (a n : ℕ) → ((i : ℕ) → i < a + n → All P (f i)) → All P (flat_map f (range_with_len a n))
All-flat_range P f a zero h = All-nil P
All-flat_range P f a (suc n) h =
    let first : a < a + suc n = omega arith in
    All-append P (f a) (flat_map f (range_with_len (a + 1) n)) (h a first) (All-flat_range P f (a + 1) n (λ i l. let low : i < a + suc n = omega arith in h i low))

abbrev IsPairOf : ℕ → ℕ → ℕ × ℕ → Type 0
IsPairOf m n p = (p.0 < m) × (p.1 < n)

pub pairs-within : (keeps : ℕ → ℕ → Bool) (m n : ℕ) → All (IsPairOf m n) (pairs keeps m n)
unfolding pairs product row_of
pairs-within keeps m n =
    All-filter (λ p. keeps p.0 p.1) (IsPairOf m n) (flat_map (λ i. map (λ j. (i, j)) (range_with_len 0 n)) (range_with_len 0 m))
    (All-flat_range (IsPairOf m n) (λ i. map (λ j. (i, j)) (range_with_len 0 n)) 0 m (λ i l.
    let low : i < m = omega arith in
    All-map (IsPairOf m n) (λ j. (i, j)) (range_with_len 0 n) (All-range (λ j. IsPairOf m n (i, j)) 0 n (λ j k. let lower : j < n = omega arith in (low, lower)))))

absent-within : (numbers : List ℕ) (n : ℕ) → All (λ i. i < n) (absent numbers n)
unfolding absent
absent-within numbers n =
    All-filter (λ i. not (list_any (λ x. x == i) numbers)) (λ i. i < n) (range_with_len 0 n) (All-range (λ i. i < n) 0 n (λ i l. omega arith))

cond-within : (b : Bool) (xs : List ℕ) (n : ℕ) → All (λ i. i < n) xs → All (λ i. i < n) (cond b xs [])
cond-within true xs n h = h
cond-within false xs n h = All-nil (λ i. i < n)

-- each member of the joined table has rows of the tables
pub members-there : (join : BoundJoin) (l r : TableValue) → All (IsMemberOf l r) (result_of join l r)
unfolding rows_in
members-there join l r =
    let m = length l.rows in
    let n = length r.rows in
    let ps = kept_pairs join l r in
    let lefts = cond-within (adds_left (kind_of_join join)) (absent (map (λ p. p.0) ps) m) m (absent-within (map (λ p. p.0) ps) m) in
    let rights = cond-within (adds_right (kind_of_join join)) (absent (map (λ p. p.1) ps) n) n (absent-within (map (λ p. p.1) ps) n) in
    let one = All-map (IsMemberOf l r) (λ p. Both p.0 p.1) ps (pairs-within (keeps join l r) m n) in
    let two = All-map (IsMemberOf l r) (λ i. LeftOnly i) (joined_of join l r).lone_left (All-weaker (λ i. i < m) (λ i. IsMemberOf l r (LeftOnly i)) (λ i low. (low, tt)) (joined_of join l r).lone_left lefts) in
    let three = All-map (IsMemberOf l r) (λ j. RightOnly j) (joined_of join l r).lone_right (All-weaker (λ j. j < n) (λ j. IsMemberOf l r (RightOnly j)) (λ j low. (tt, low)) (joined_of join l r).lone_right rights) in
    All-append (IsMemberOf l r) _ _ (All-append (IsMemberOf l r) _ _ one two) three

none_right : (a : Option ColumnType) → are_one_type a None ≡ true → ⊥
none_right None h = cc
none_right (Some kind.Int) h = cc
none_right (Some (kind.Num t)) h = cc
none_right (Some kind.Text) h = cc

none_left : (b : Option ColumnType) → are_one_type None b ≡ true → ⊥
none_left None h = cc
none_left (Some b) h = cc

pair-there : (xs ys : List ColumnType) (i j : ℕ) → are_one_type (slice_get xs i) (slice_get ys j) ≡ true → (i < length xs) × (j < length ys)
pair-there xs ys i j h = elim (cases_lt i (length xs)) [
  | inr past ↦ absurd (none_left (slice_get ys j) (rw (slice_get_past xs i past) at h))
  | inl a ↦ elim (cases_lt j (length ys)) [
    | inr past ↦ absurd (none_right (slice_get xs i) (rw (slice_get_past ys j past) at h))
    | inl b ↦ (a, b)
  ]
]

pairs-there : (l r : TableValue) (ps : List (ℕ × ℕ)) → list_all (pair_fits l.types r.types) ps ≡ true → All (λ p. IsColumnOf l r (Coalesced p.0 p.1)) ps
pairs-there l r [] h = All-nil (λ p. IsColumnOf l r (Coalesced p.0 p.1))
pairs-there l r (p ∷ ps) h =
    let (one, rest) = and_parts (pair_fits l.types r.types p) (list_all (pair_fits l.types r.types) ps) h in
    All-cons (λ p. IsColumnOf l r (Coalesced p.0 p.1)) p ps (pair-there l.types r.types p.0 p.1 one) (pairs-there l r ps rest)

-- each column of the joined table is one of the tables, where the join was bound to them
pub columns-there : (join : BoundJoin) (l r : TableValue) → fits join l.types r.types ≡ true → All (IsColumnOf l r) (columns_of join r)
unfolding origins_of
columns-there join l r h =
    let partners = partners_of join in
    let (columns, rule) = and_parts (length partners == length l.types && list_all (pair_fits l.types r.types) (pairs_of partners)) (rule_fits l.types r.types join.rule) h in
    let (size, pairs) = and_parts (length partners == length l.types) (list_all (pair_fits l.types r.types) (pairs_of partners)) columns in
    let same : length partners ≡ length l.types = eqb-true (length partners) (length l.types) size in
    let one = All-map (IsColumnOf l r) (λ p. Coalesced p.0 p.1) (pairs_of partners) (pairs-there l r (pairs_of partners) pairs) in
    let two = All-map (IsColumnOf l r) (λ i. Left i) (other_lefts partners)
    (All-filter (λ i. not (is_some (slice_index_or partners i None))) (λ i. i < length l.types) (range_with_len 0 (length partners)) (All-range (λ i. i < length l.types) 0 (length partners) (λ i low. omega arith))) in
    let three = All-map (IsColumnOf l r) (λ j. Right j) (other_rights partners (length r.types))
    (All-filter (λ j. not (list_any (is_column j) partners)) (λ j. j < length r.types) (range_with_len 0 (length r.types)) (All-range (λ j. j < length r.types) 0 (length r.types) (λ j low. omega arith))) in
    All-append (IsColumnOf l r) _ _ (All-append (IsColumnOf l r) _ _ one two) three

-- each member has a cell for each column
pub cells-wide : (l r : TableValue) (origins : List Origin) (rows : List JoinedRow) → All (λ (c : List Content). length c ≡ length origins) (map (joined_cells l r origins) rows)
cells-wide l r origins rows =
    All-map (λ (c : List Content). length c ≡ length origins) (joined_cells l r origins) rows (λ k d h. length-map origins (joined_cell l r _))
