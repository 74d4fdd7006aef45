-- Names with commas between, one by one.
use Rattle.std.proofs.Common.{◌≡◌, ◌∙◌, ℕ, zero, suc, ◌+◌, ◌<◌, ◌==◌, Bor, List, [], ◌∷◌, ◌++◌, codes, get_or, length, map, take, refl, sym, ap, arith, append_assoc, append-nil, add-one, ne_eqb}
use Rattle.std.specs.Prelude.{if◌then◌else◌, Option, None, Some, option_map, slice_get, slice_index_or}
use Rattle.std.specs.List.{flat_map}
use Rattle.std.proofs.lemmas.Grind.{flat_map-append}
use Rattle.rj_explain.specs.Lines.{repeated_at, repeated_line}
use Rattle.rj_explain.specs.Shown.{listed}

abbrev value_or : List ℕ → Option (List ℕ) → List ℕ
value_or d None = d
value_or d (Some x) = x

abbrev count : {A : Type 0} → Option A → ℕ
count None = 0
count (Some x) = 1

none-some : {A : Type 0} (x : A) → None ≡ Some x → ⊥
none-some x e = let n = ap count e in omega (arith, n)

-- one more item
take-get : (xs : List (List ℕ)) (i : ℕ) (x : List ℕ) → slice_get xs i ≡ Some x → take (suc i) xs ≡ take i xs ++ x ∷ []
take-get [] zero x e = absurd (none-some x e)
take-get [] (suc i) x e = absurd (none-some x e)
take-get (n ∷ ns) zero x e = ap (λ y. y ∷ []) (ap (value_or n) e)
take-get (n ∷ ns) (suc j) x e = ap (λ ys. n ∷ ys) (take-get ns j x e)

-- a comma and a name
abbrev comma : List ℕ → List ℕ
comma m = codes ", " ++ m

more : (ns : List (List ℕ)) (j : ℕ) (x : List ℕ) → slice_get ns j ≡ Some x → flat_map comma (take (suc j) ns) ≡ flat_map comma (take j ns) ++ comma x
more ns j x e =
    ap (flat_map comma) (take-get ns j x e)
    ∙ (flat_map-append comma (take j ns) (x ∷ []) ∙ ap (λ ys. flat_map comma (take j ns) ++ ys) (append-nil (comma x)))

listed-suc : (names : List (List ℕ)) (i : ℕ) (x : List ℕ) → slice_get names i ≡ Some x
    → listed (take (suc i) names) ≡ listed (take i names) ++ ((if i == 0 then [] else codes ", ") ++ x)
listed-suc [] zero x e = absurd (none-some x e)
listed-suc [] (suc i) x e = absurd (none-some x e)
listed-suc (n ∷ ns) zero x e = append-nil n ∙ ap (value_or n) e
listed-suc (n ∷ ns) (suc j) x e =
    rw (ne_eqb (suc j) 0 (omega arith)) (ap (λ ys. n ++ ys) (more ns j x e) ∙ sym (append_assoc n (flat_map comma (take j ns)) (comma x)))

-- one more name
pub listed-more : (names : List (List ℕ)) (i : ℕ) (x : List ℕ) → slice_get names i ≡ Some x
    → listed (take (i + 1) names) ≡ listed (take i names) ++ ((if i == 0 then [] else codes ", ") ++ x)
listed-more names i x e = rw add-one (listed-suc names i x e)

-- an item of a list, by what stands at its place
pub get-some : {A : Type 0} (xs : List A) (i : ℕ) (x : A) → i < length xs → x ≡ get_or xs i x → slice_get xs i ≡ Some x
get-some [] i x low is = absurd (omega arith)
get-some (y ∷ ys) zero x low is = ap (λ z. Some z) (sym is)
get-some (y ∷ ys) (suc i) x low is = get-some ys i x (omega arith) is

-- an item of a list that is made of another one
pub get-map : {A B : Type 0} (f : A → B) (xs : List A) (i : ℕ) (x : A) → slice_get xs i ≡ Some x → slice_get (map f xs) i ≡ Some (f x)
get-map f [] zero x e = absurd (none-some x e)
get-map f [] (suc i) x e = absurd (none-some x e)
get-map f (y ∷ ys) zero x e = ap (option_map f) e
get-map f (y ∷ ys) (suc i) x e = get-map f ys i x e

-- an item of a list of texts
pub item-is : (items : List (Bor (List ℕ))) (i : ℕ) (d : Bor (List ℕ)) → i < length items → slice_get (map (λ (n : Bor (List ℕ)). n.now) items) i ≡ Some (get_or items i d).now
item-is [] i d low = absurd (omega arith)
item-is (x ∷ items) zero d low = refl
item-is (x ∷ items) (suc i) d low = item-is items i d (omega arith)

pub index-is : (items : List (Bor (List ℕ))) (i : ℕ) (d : Bor (List ℕ)) → i < length items → slice_index_or (map (λ (n : Bor (List ℕ)). n.now) items) i [] ≡ (get_or items i d).now
index-is [] i d low = absurd (omega arith)
index-is (x ∷ items) zero d low = refl
index-is (x ∷ items) (suc i) d low = index-is items i d (omega arith)

-- the line of a name that stands twice
pub repeated-is : (names : List (List ℕ)) (name other : List ℕ) (i : ℕ) (o : Option ℕ) → Some i ≡ o → slice_index_or names i [] ≡ other
    → repeated_line name (i + 1) other ≡ repeated_at names name o
repeated-is names name other i o e here = ap (repeated_line name (i + 1)) (sym here) ∙ ap (repeated_at names name) e
