-- Completed names are lawful.
use Rattle.std.proofs.Common.{◌≡◌, ◌∙◌, ◌<◌, ◌+◌, ◌^◌, ℕ, zero, suc, List, [], ◌∷◌, ◌++◌, length, take, get_or, All, Bool, true, false, None, refl, sym, ap, subst, append_assoc, append-nil, arith, inl, inr}
use Rattle.std.specs.Prelude.{◌||◌, ◌==◌, ◌⊎◌, slice_index_or}
use Rattle.std.specs.Str.{str_eq_ignore_ascii_case}
use Rattle.std.proofs.lemmas.Bool.{cases_Bool, false≢true}
use Rattle.std.proofs.lemmas.List.{get_or-map, length-append, length-take, take-map}
use Rattle.std.proofs.lemmas.List.Folds.{list_any-append}
use Rattle.std.proofs.lemmas.List.Elements.{All-get_or}
use Rattle.rj_columns.specs.Names.{is_name, name_fault}
use Rattle.rj_csv_io.specs.Named.{Column, column_of, columns_of, completed_names, free_name, is_taken, names_of, needs_name, stem_of}
use Rattle.rj_csv_io.proofs.NameColumnFacts.{column-at, columns-size, names-count}
use Rattle.rj_csv_io.proofs.FreeFacts.{alike-swap, free-is}
use Rattle.rj_csv_io.proofs.NumberFacts.{numbered-name, stem-good}

or-parts : (a b : Bool) → (a || b) ≡ false → (a ≡ false) × (b ≡ false)
or-parts false b e = (refl, e)
or-parts true b e = absurd (false≢true (sym e))

-- names are lawful if each is one and is none of those before it
names-lawful : (seen names : List (List ℕ)) → ((i : ℕ) → i < length names → (is_name (get_or names i []) ≡ true) × (is_taken (seen ++ take i names) (get_or names i []) ≡ false))
    → name_fault seen names ≡ None
unfolding name_fault
names-lawful seen [] h = refl
names-lawful seen (n ∷ names) h =
    let here = h 0 (omega arith) in
    let fresh : is_taken seen n ≡ false = rw (append-nil seen) at here.1 in
    rw (here.0, fresh) (names-lawful (seen ++ n ∷ []) names (λ i less.
    let more = h (suc i) (omega arith) in (more.0, rw (append_assoc seen (n ∷ []) (take i names)) more.1)))

-- nothing among names is alike, if nothing at any place is
none-taken : (names : List (List ℕ)) (name : List ℕ) → ((j : ℕ) → j < length names → str_eq_ignore_ascii_case name (get_or names j []) ≡ false) → is_taken names name ≡ false
none-taken [] name h = refl
none-taken (n ∷ names) name h = rw (h 0 (omega arith)) (none-taken names name (λ j less. h (suc j) (omega arith)))

taken-none : (names : List (List ℕ)) (name : List ℕ) (j : ℕ) → j < length names → is_taken names name ≡ false → str_eq_ignore_ascii_case name (get_or names j []) ≡ false
taken-none [] name j h e = absurd (omega arith)
taken-none (n ∷ names) name zero h e = (or-parts _ _ e).0
taken-none (n ∷ names) name (suc j) h e = taken-none names name j (omega arith) (or-parts _ _ e).1

taken-front : (i : ℕ) (names : List (List ℕ)) (j : ℕ) → j < i → get_or (take i names) j [] ≡ get_or names j []
taken-front zero names j h = absurd (omega arith)
taken-front (suc i) [] j h = refl
taken-front (suc i) (n ∷ names) zero h = refl
taken-front (suc i) (n ∷ names) (suc j) h = taken-front i names j (omega arith)

less-than : (j i n : ℕ) → j < i → i < n → j < n
less-than j i n a b = omega arith

module _ (fields : List (List ℕ)) where
  none : Column
  none = record { name = []; is_given = false }

  before : ℕ → List Column
  before i = take i (columns_of fields)

  before-size : (i : ℕ) → i < length fields → length (take i (columns_of fields)) ≡ i
  before-size i h = let size = length-take i (columns_of fields) in omega (arith, size, columns-size fields)

  name-at : (i : ℕ) → i < length fields → get_or (completed_names fields) i [] ≡ (column_of fields (take i (columns_of fields)) (get_or fields i [])).name
  name-at i h =
      get_or-map (λ (c : Column). c.name) (columns_of fields) i none [] (omega (arith, columns-size fields))
      ∙ ap (λ (c : Column). c.name) (column-at fields i none h)

  names-front : (i : ℕ) → take i (completed_names fields) ≡ names_of (take i (columns_of fields))
  names-front i = take-map (λ (c : Column). c.name) i (columns_of fields)

  -- a field that needs no name keeps it
  kept-at : (i : ℕ) → i < length fields → needs_name (take i fields) (get_or fields i []) ≡ false → get_or (completed_names fields) i [] ≡ get_or fields i []
  kept-at i h e = name-at i h ∙ rw (before-size i h, e) refl

  -- and another one is given a free name
  given-at : (i : ℕ) → i < length fields → needs_name (take i fields) (get_or fields i []) ≡ true
      → get_or (completed_names fields) i [] ≡ free_name (fields ++ take i (completed_names fields)) (stem_of (i + 1) (get_or fields i []))
  given-at i h e = name-at i h ∙ rw (before-size i h, e, names-front i) refl

  module _ (few : length fields < 2 ^ 32) where
    free-at : (i : ℕ) → i < length fields → needs_name (take i fields) (get_or fields i []) ≡ true
        → (is_taken fields (get_or (completed_names fields) i []) ≡ false) × (is_taken (take i (completed_names fields)) (get_or (completed_names fields) i []) ≡ false)
        × (is_name (get_or (completed_names fields) i []) ≡ true)
    free-at i h e =
        let front = take i (completed_names fields) in
        let taken = fields ++ front in
        let stem = stem_of (i + 1) (get_or fields i []) in
        let size = length-append fields front in
        let cut = length-take i (completed_names fields) in
        let free = free-is taken stem (omega (arith, size, cut, names-count fields)) in
        let apart = or-parts _ _ (sym (list_any-append (str_eq_ignore_ascii_case (free_name taken stem)) fields front) ∙ free.0) in
        let name = ap is_name free.1.2 ∙ numbered-name stem free.1.0 free.1.1 (stem-good (i + 1) (get_or fields i []) (omega arith)) in
        rw (given-at i h e) (apart.0, apart.1, name)

    -- no name further left is alike
    fresh-at : (i : ℕ) → i < length fields → is_taken (take i (completed_names fields)) (get_or (completed_names fields) i []) ≡ false
    fresh-at i h =
        elim (cases_Bool (needs_name (take i fields) (get_or fields i []))) [
          | inl needs ↦ (free-at i h needs).1
          | inr has ↦
              let parts = or-parts _ _ has in
              let kept = kept-at i h has in
              let size : length (take i (completed_names fields)) ≡ i = omega (arith, length-take i (completed_names fields), names-count fields) in
              let cut : length (take i fields) ≡ i = omega (arith, length-take i fields) in
              rw kept (none-taken (take i (completed_names fields)) (get_or fields i []) (λ j less.
              let near : j < i = subst (λ (n : ℕ). j < n) size less in
              rw (taken-front i (completed_names fields) j near) (elim (cases_Bool (needs_name (take j fields) (get_or fields j []))) [
                | inl needs ↦ alike-swap (get_or (completed_names fields) j []) (get_or fields i []) (taken-none fields (get_or (completed_names fields) j []) i h (free-at j (less-than j i (length fields) near h) needs).0)
                | inr own ↦ rw (kept-at j (less-than j i (length fields) near h) own, ← (taken-front i fields j near)) (taken-none (take i fields) (get_or fields i []) j (subst (λ (n : ℕ). j < n) (sym cut) near) parts.1)
              ])))
        ]

    pub completed-lawful : All (λ f. (f ≡ []) ⊎ (is_name f ≡ true)) fields → name_fault [] (completed_names fields) ≡ None
    completed-lawful good = names-lawful [] (completed_names fields) (λ i less.
        let within : i < length fields = omega (arith, names-count fields) in (
          elim (cases_Bool (needs_name (take i fields) (get_or fields i []))) [
            | inl needs ↦ (free-at i within needs).2
            | inr has ↦ rw (kept-at i within has) (named i (or-parts _ _ has).0 (All-get_or (λ f. (f ≡ []) ⊎ (is_name f ≡ true)) fields i [] within good))
          ],
          fresh-at i within,
        ))
      where
        named : (i : ℕ) → (length (get_or fields i []) == 0) ≡ false → (get_or fields i [] ≡ []) ⊎ (is_name (get_or fields i []) ≡ true) → is_name (get_or fields i []) ≡ true
        named i some (inl e) = absurd (false≢true (sym some ∙ ap (λ (f : List ℕ). length f == 0) e))
        named i some (inr is) = is

  pub name-kept : (i : ℕ) → i < length fields → needs_name (take i fields) (slice_index_or fields i []) ≡ false
      → slice_index_or (completed_names fields) i [] ≡ slice_index_or fields i []
  name-kept i h e = kept-at i h e
