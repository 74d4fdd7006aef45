-- The loops over fields and columns, one more at a time.
use Rattle.std.proofs.Common.{◌≡◌, ◌∙◌, ◌<◌, ◌≤◌, ◌+◌, ◌-◌, ℕ, zero, suc, List, [], ◌∷◌, ◌++◌, length, map, take, drop, get_or, Bool, true, false, Bor, refl, sym, ap, subst, add-one, arith, drop-cons}
use Rattle.std.specs.Prelude.{◌||◌, if◌then◌else◌, slice_index_or, IfOk, Result, Ok, Err}
use Rattle.std.specs.Bool.{Decides}
use Rattle.std.specs.Str.{str_eq_ignore_ascii_case}
use Rattle.std.proofs.lemmas.List.{drop_all, get_or-map, length-map, take-map, take_more}
use Rattle.std.proofs.lemmas.List.Folds.{list_any-append, list_any_at}
use Rattle.rj_csv_io.specs.Internal.NameColumns.{column_in, columns_in}
use Rattle.rj_csv_io.specs.Named.{Column, column_of, columns_after, free_from, free_name, given_from, have_names, is_taken, names_of, needs_name, numbered, stem_of}
use Rattle.rj_csv_io.specs.declared.names.column.NamedColumn.{NamedColumn}
use Rattle.rj_csv_io.proofs.FreeFacts.{alike-decided, lower}

-- what stands where there is no field
abbrev pub no_field : Bor (List ℕ)
no_field = record { ref_ptr = (0, 0); now = [] }

pub ok-weaker : {T E : Type 0} (P Q : T → Type 0) (r : Result T E) → ((x : T) → P x → Q x) → IfOk r P → IfOk r Q
ok-weaker P Q (Ok x) f h = f x h
ok-weaker P Q (Err e) f h = h

-- a name at a place is among the names
pub taken-found : (names : List (List ℕ)) (name : List ℕ) (i : ℕ) → i < length names → str_eq_ignore_ascii_case name (get_or names i []) ≡ true → is_taken names name ≡ true
taken-found names name i h e = list_any_at (str_eq_ignore_ascii_case name) names i [] h e

pub taken-more : (names : List (List ℕ)) (name : List ℕ) (i : ℕ) → i < length names → is_taken (take i names) name ≡ false → str_eq_ignore_ascii_case name (get_or names i []) ≡ false
    → is_taken (take (i + 1) names) name ≡ false
taken-more names name i h before here =
    rw (take_more names i [] h) (list_any-append (str_eq_ignore_ascii_case name) (take i names) (get_or names i [] ∷ []) ∙ rw (before, here) refl)

-- whether the fields have names, one more at a time
pub have-more : (fields : List (List ℕ)) (i : ℕ) → i < length fields → needs_name (take i fields) (get_or fields i []) ≡ false
    → have_names (take i fields) (drop i fields) ≡ have_names (take (i + 1) fields) (drop (i + 1) fields)
unfolding have_names
have-more fields i h e = rw (drop-cons fields i [] h, e, take_more fields i [] h, add-one i) refl

pub have-not : (fields : List (List ℕ)) (i : ℕ) → i < length fields → needs_name (take i fields) (get_or fields i []) ≡ true → have_names (take i fields) (drop i fields) ≡ false
unfolding have_names
have-not fields i h e = rw (drop-cons fields i [] h, e) refl

pub have-all : (left fields : List (List ℕ)) (i : ℕ) → length fields ≤ i → have_names left (drop i fields) ≡ true
unfolding have_names
have-all left fields i h = rw (drop_all i fields h) refl

-- one more number
pub free-more : (taken : List (List ℕ)) (stem : List ℕ) (n more : ℕ) → 0 < more → is_taken taken (numbered stem n) ≡ true
    → free_from taken stem n more ≡ free_from taken stem (n + 1) (more - 1)
unfolding free_from
free-more taken stem n zero h e = absurd (omega arith)
free-more taken stem n (suc more) h e = let less : suc more - 1 ≡ more = omega arith in rw (e, less) refl

pub free-here : (taken : List (List ℕ)) (stem : List ℕ) (n more : ℕ) → is_taken taken (numbered stem n) ≡ false → free_from taken stem n more ≡ numbered stem n
unfolding free_from
free-here taken stem n zero e = refl
free-here taken stem n (suc more) e = rw e refl

pub free-last : (taken : List (List ℕ)) (stem : List ℕ) (n more : ℕ) → more ≡ 0 → free_from taken stem n more ≡ numbered stem n
unfolding free_from
free-last taken stem n more e = rw e refl

pub taken-split : (a b : List (List ℕ)) (name : List ℕ) (x y : Bool) → x ≡ is_taken a name → y ≡ is_taken b name → is_taken (a ++ b) name ≡ (x || y)
taken-split a b name x y p q = list_any-append (str_eq_ignore_ascii_case name) a b ∙ rw (p, q) refl

-- one more column
pub columns-more : (fields : List (List ℕ)) (done : List Column) (i : ℕ) (c : Column) → i < length fields → c ≡ column_of fields done (get_or fields i [])
    → columns_after fields done (drop i fields) ≡ columns_after fields (done ++ c ∷ []) (drop (i + 1) fields)
unfolding columns_after
columns-more fields done i c h e = rw (drop-cons fields i [] h, e, add-one i) refl

pub columns-all : (fields : List (List ℕ)) (done : List Column) (i : ℕ) → length fields ≤ i → columns_after fields done (drop i fields) ≡ done
unfolding columns_after
columns-all fields done i h = rw (drop_all i fields h) refl

-- one more column that may have been given a name
pub given-more : (columns : List Column) (i n : ℕ) (c : Column) → i < length columns
    → given_from n (drop i columns) ≡ given_from n (get_or columns i c ∷ []) ++ given_from (n + 1) (drop (i + 1) columns)
unfolding given_from
given-more columns i n c h = rw (drop-cons columns i c h, add-one i) (go (get_or columns i c).is_given)
  where
    more : List (ℕ × List ℕ)
    more = given_from (n + 1) (drop (suc i) columns)

    go : (b : Bool) → (if b then (n, (get_or columns i c).name) ∷ more else more) ≡ (if b then (n, (get_or columns i c).name) ∷ [] else []) ++ more
    go true = refl
    go false = refl

pub given-one : (n : ℕ) (name : List ℕ) → given_from n (record { name = name; is_given = true } ∷ []) ≡ (n, name) ∷ []
unfolding given_from
given-one n name = refl

pub given-no : (n : ℕ) (name : List ℕ) → given_from n (record { name = name; is_given = false } ∷ []) ≡ []
unfolding given_from
given-no n name = refl

pub given-all : (columns : List Column) (i n : ℕ) → length columns ≤ i → given_from n (drop i columns) ≡ []
unfolding given_from
given-all columns i n h = rw (drop_all i columns h) refl

-- the same of fields and columns behind references
module _ (fields : List (Bor (List ℕ))) (i : ℕ) (d : Bor (List ℕ)) (h : i < length fields) where
  pub field-at : get_or (map (λ (f : Bor (List ℕ)). f.now) fields) i [] ≡ (slice_index_or fields i d).now
  field-at = get_or-map (λ (f : Bor (List ℕ)). f.now) fields i d [] h

  pub fields-size : length (map (λ (f : Bor (List ℕ)). f.now) fields) ≡ length fields
  fields-size = length-map fields (λ (f : Bor (List ℕ)). f.now)

  pub alike-at : (name : List ℕ) (b : Bool) → Decides b (lower name ≡ lower (slice_index_or fields i d).now)
      → str_eq_ignore_ascii_case name (get_or (map (λ (f : Bor (List ℕ)). f.now) fields) i []) ≡ b
  alike-at name b e = ap (str_eq_ignore_ascii_case name) field-at ∙ alike-decided name (slice_index_or fields i d).now b e

  pub needs-at : (b : Bool) → b ≡ needs_name (map (λ (f : Bor (List ℕ)). f.now) (take i fields)) (slice_index_or fields i d).now
      → needs_name (take i (map (λ (f : Bor (List ℕ)). f.now) fields)) (get_or (map (λ (f : Bor (List ℕ)). f.now) fields) i []) ≡ b
  needs-at b e = rw (take-map (λ (f : Bor (List ℕ)). f.now) i fields, field-at) (sym e)

pub column-at_place : (columns : List NamedColumn) (i : ℕ) (c : NamedColumn) → i < length columns → get_or columns i c ≡ c → get_or (columns_in columns) i (column_in c) ≡ column_in c
column-at_place columns i c h e = get_or-map column_in columns i c (column_in c) h ∙ ap column_in e

pub columns-size_in : (columns : List NamedColumn) → length (columns_in columns) ≡ length columns
columns-size_in columns = length-map columns column_in

pub names-size_in : (columns : List NamedColumn) → length (names_of (columns_in columns)) ≡ length columns
names-size_in columns = length-map (columns_in columns) (λ (c : Column). c.name) ∙ columns-size_in columns

pub name-at_place : (columns : List NamedColumn) (i : ℕ) (c : NamedColumn) → i < length columns → get_or columns i c ≡ c → get_or (names_of (columns_in columns)) i [] ≡ (column_in c).name
name-at_place columns i c h e =
    get_or-map (λ (c : Column). c.name) (columns_in columns) i (column_in c) [] (subst (λ (n : ℕ). i < n) (sym (columns-size_in columns)) h)
    ∙ ap (λ (c : Column). c.name) (column-at_place columns i c h e)

-- the next column
module _ (fields : List (Bor (List ℕ))) (columns : List NamedColumn) (d : Bor (List ℕ)) (h : length columns < length fields) where
  abbrev all : List (List ℕ)
  all = map (λ (f : Bor (List ℕ)). f.now) fields

  abbrev field : List ℕ
  field = (slice_index_or fields (length columns) d).now

  pub column-written : false ≡ needs_name (map (λ (f : Bor (List ℕ)). f.now) (take (length columns) fields)) field
      → record { name = field; is_given = false } ≡ column_of all (columns_in columns) (get_or all (length columns) [])
  column-written e =
      let needs = needs-at fields (length columns) d h false e in
      let at = field-at fields (length columns) d h in
      rw (columns-size_in columns, needs) (rw at refl)

  pub column-given : (name : List ℕ) → true ≡ needs_name (map (λ (f : Bor (List ℕ)). f.now) (take (length columns) fields)) field
      → name ≡ free_name (all ++ names_of (columns_in columns)) (stem_of (length columns + 1) field)
      → record { name = name; is_given = true } ≡ column_of all (columns_in columns) (get_or all (length columns) [])
  column-given name e free =
      let needs = needs-at fields (length columns) d h true e in
      let at = field-at fields (length columns) d h in
      rw (columns-size_in columns, needs) (rw (at, free) refl)
