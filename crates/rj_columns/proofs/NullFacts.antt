-- Values with the marks of nulls, after a push, a cut, a removal and a join.
use Rattle.std.proofs.Common.{◌≡◌, ◌≤◌, ◌<◌, ◌+◌, ◌-◌, ◌∙◌, ℕ, zero, suc, List, [], ◌∷◌, ◌++◌, length, map, None, Some, Bool, true, false, refl, ap, arith, take}
use Rattle.std.specs.Prelude.{slice_get, slice_index_or, replicate}
use Rattle.std.specs.List.{remove}
use Rattle.std.proofs.lemmas.List.{length-append, length-replicate}
use Rattle.rj_columns.specs.Internal.Nulls.{unless, with_nulls, marked_at}

pub push-value : {A : Type 0} (values : List A) (nulls : List Bool) (x : A) → length nulls ≤ length values → with_nulls (values ++ x ∷ []) nulls ≡ with_nulls values nulls ++ Some x ∷ []
unfolding with_nulls
push-value [] [] x h = refl
push-value [] (n ∷ nulls) x h = absurd (omega arith)
push-value (v ∷ values) [] x h = ap (λ t. Some v ∷ t) (push-value values [] x (omega arith))
push-value (v ∷ values) (n ∷ nulls) x h = ap (λ t. unless n v ∷ t) (push-value values nulls x (omega arith))

-- marks that say nothing
pad-same : {A : Type 0} (values : List A) (nulls : List Bool) (k : ℕ) → with_nulls values (nulls ++ replicate k false) ≡ with_nulls values nulls
unfolding with_nulls
pad-same [] nulls k = refl
pad-same (v ∷ values) [] zero = refl
pad-same (v ∷ values) [] (suc k) = ap (λ t. Some v ∷ t) (pad-same values [] k)
pad-same (v ∷ values) (n ∷ nulls) k = ap (λ t. unless n v ∷ t) (pad-same values nulls k)

-- two columns, the first of them marked to its end
join-marked : {A : Type 0} (v w : List A) (n m : List Bool) → length n ≡ length v → with_nulls (v ++ w) (n ++ m) ≡ with_nulls v n ++ with_nulls w m
unfolding with_nulls
join-marked [] w [] m h = refl
join-marked [] w (x ∷ n) m h = absurd (omega arith)
join-marked (y ∷ v) w [] m h = absurd (omega arith)
join-marked (y ∷ v) w (x ∷ n) m h = ap (λ t. unless x y ∷ t) (join-marked v w n m (omega arith))

-- marks that are filled up to a row
length-padded : (nulls : List Bool) (row : ℕ) → length nulls ≤ row → length (nulls ++ replicate (row - length nulls) false) ≡ row
length-padded nulls row h = omega (arith, length-append nulls (replicate (row - length nulls) false), length-replicate (row - length nulls) false)

join-padded : {A : Type 0} (v w : List A) (n m : List Bool) → length n ≤ length v → with_nulls (v ++ w) (n ++ replicate (length v - length n) false ++ m) ≡ with_nulls v n ++ with_nulls w m
join-padded v w n m h =
    let all = join-marked v w (n ++ replicate (length v - length n) false) m (length-padded n (length v) h) in
    all ∙ ap (λ t. t ++ with_nulls w m) (pad-same v n (length v - length n))

one-null : {A : Type 0} (x : A) → with_nulls (x ∷ []) (true ∷ []) ≡ None ∷ []
unfolding with_nulls
one-null x = refl

-- a null behind the last row
pub push-null : {A : Type 0} (values : List A) (nulls : List Bool) (x : A) → length nulls ≤ length values → with_nulls (values ++ x ∷ []) (marked_at nulls (length values)) ≡ with_nulls values nulls ++ None ∷ []
push-null values nulls x h = join-padded values (x ∷ []) nulls (true ∷ []) h ∙ ap (λ t. with_nulls values nulls ++ t) (one-null x)

pub length-marked : (nulls : List Bool) (row : ℕ) → length nulls ≤ row → length (marked_at nulls row) ≡ row + 1
length-marked nulls row h =
    let size = length-padded nulls row h in
    let all = length-append (nulls ++ replicate (row - length nulls) false) (true ∷ []) in
    omega arith

pub length-values : {A : Type 0} (values : List A) (nulls : List Bool) → length (with_nulls values nulls) ≡ length values
unfolding with_nulls
length-values [] nulls = refl
length-values (v ∷ values) [] = ap suc (length-values values [])
length-values (v ∷ values) (n ∷ nulls) = ap suc (length-values values nulls)

pub value-at : {A : Type 0} (values : List A) (nulls : List Bool) (i : ℕ) (d : A) → i < length values
    → slice_get (with_nulls values nulls) i ≡ Some (unless (slice_index_or nulls i false) (slice_index_or values i d))
unfolding with_nulls
value-at [] nulls i d h = absurd (omega arith)
value-at (v ∷ values) [] zero d h = refl
value-at (v ∷ values) [] (suc i) d h = value-at values [] i d (omega arith)
value-at (v ∷ values) (n ∷ nulls) zero d h = refl
value-at (v ∷ values) (n ∷ nulls) (suc i) d h = value-at values nulls i d (omega arith)

pub no-values : {A : Type 0} (nulls : List Bool) → with_nulls {A = A} [] nulls ≡ []
unfolding with_nulls
no-values nulls = refl

-- the first values
pub take-values : {A : Type 0} (values : List A) (nulls : List Bool) (n : ℕ) → with_nulls (take n values) (take n nulls) ≡ take n (with_nulls values nulls)
unfolding with_nulls
take-values values nulls zero = refl
take-values [] nulls (suc n) = refl
take-values (v ∷ values) [] (suc zero) = refl
take-values (v ∷ values) [] (suc (suc n)) = ap (λ t. Some v ∷ t) (take-values values [] (suc n))
take-values (v ∷ values) (n ∷ nulls) (suc k) = ap (λ t. unless n v ∷ t) (take-values values nulls k)

-- one value less
pub remove-values : {A : Type 0} (values : List A) (nulls : List Bool) (i : ℕ) → with_nulls (remove values i) (remove nulls i) ≡ remove (with_nulls values nulls) i
unfolding with_nulls
remove-values [] nulls zero = refl
remove-values [] nulls (suc i) = refl
remove-values (v ∷ values) [] zero = refl
remove-values (v ∷ values) [] (suc zero) = ap (λ t. Some v ∷ t) (remove-values values [] zero)
remove-values (v ∷ values) [] (suc (suc i)) = ap (λ t. Some v ∷ t) (remove-values values [] (suc i))
remove-values (v ∷ values) (n ∷ nulls) zero = refl
remove-values (v ∷ values) (n ∷ nulls) (suc i) = ap (λ t. unless n v ∷ t) (remove-values values nulls i)

-- values without marks
pub all-present : {A : Type 0} (values : List A) (nulls : List Bool) → length nulls ≡ 0 → map Some values ≡ with_nulls values nulls
unfolding with_nulls
all-present [] nulls h = refl
all-present (v ∷ values) [] h = ap (λ t. Some v ∷ t) (all-present values [] h)
all-present (v ∷ values) (n ∷ nulls) h = absurd (omega arith)
