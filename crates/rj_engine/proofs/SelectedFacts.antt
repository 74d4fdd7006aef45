-- The columns that a list means are columns of the tables; the search for the only one that a name means.
use Rattle.std.proofs.Common.{◌≡◌, ◌∙◌, ◌<◌, ◌≤◌, ◌+◌, ℕ, List, [], ◌∷◌, ◌++◌, All, Bool, true, false, Option, None, Some, add-one, ap, arith, cond, drop, drop-cons, length, refl, sym, take, true≢false}
use Rattle.std.specs.Prelude.{is_some, option_to_list, slice_index_or}
use Rattle.std.specs.List.{cons_option, filter, filter_map, range_with_len}
use Rattle.std.proofs.lemmas.List.{drop_all, take_more}
use Rattle.std.proofs.lemmas.List.Elements.{All-cons, All-filter, All-head, All-map, All-nil, filter_map-append}
use Rattle.rj_columns.specs.Tables.{TableValue}
use Rattle.rj_condition.specs.Fits.{fits}
use Rattle.rj_condition.specs.Names.{matches}
use Rattle.rj_condition.specs.declared.bound.BoundJoin.{BoundJoin}
use Rattle.rj_settings.specs.declared.choice.SelectedColumn.{SelectedColumn}
use Rattle.rj_settings.specs.declared.choice.Source.{Source}
use Rattle.rj_settings.specs.declared.choice.Source.TheVariants as source
use Rattle.rj_engine.specs.declared.origin.Origin.{Origin}
use Rattle.rj_engine.specs.declared.origin.Origin.TheVariants.{Left, Right}
use Rattle.rj_engine.specs.Cells.{IsColumnOf, name_of}
use Rattle.rj_engine.specs.Selected.{column_of_entry, columns_from, columns_named, selected_columns, the_only}
use Rattle.rj_engine.proofs.Sources.{All-range, columns-there}

-- ---- the columns are there

only-there : (P : Origin → Type 0) (os : List Origin) → All P os → All P (option_to_list (the_only os))
only-there P [] h = All-nil P
only-there P (o ∷ []) h = h
only-there P (o ∷ p ∷ os) h = All-nil P

more-there : (P : Origin → Type 0) (found : Option Origin) (os : List Origin) → All P (option_to_list found) → All P os → All P (cons_option found os)
more-there P None os one rest = rest
more-there P (Some o) os one rest = All-cons P o os (All-head P o [] one) rest

pub some-there : (P : Origin → Type 0) (found : Option Origin) (o : Origin) → found ≡ Some o → All P (option_to_list found) → P o
some-there P found o is h = All-head P o [] (rw is at h)

module _ (join : BoundJoin) (l r : TableValue) (bound : fits join l.types r.types ≡ true) where
  pub from-there : (source : Source) → All (IsColumnOf l r) (columns_from source join l r)
  from-there source.Joined = columns-there join l r bound
  from-there source.Left = All-map (IsColumnOf l r) (λ i. Left i) (range_with_len 0 (length l.types)) (All-range (λ i. i < length l.types) 0 (length l.types) (λ i low. omega arith))
  from-there source.Right = All-map (IsColumnOf l r) (λ j. Right j) (range_with_len 0 (length r.types)) (All-range (λ j. j < length r.types) 0 (length r.types) (λ j low. omega arith))

  pub entry-there : (entry : SelectedColumn) → All (IsColumnOf l r) (option_to_list (column_of_entry join l r entry))
  entry-there entry =
      let columns = columns_from entry.source join l r in
      only-there (IsColumnOf l r) (columns_named l r entry.name columns) (All-filter (λ o. matches entry.name (name_of l r o)) (IsColumnOf l r) columns (from-there entry.source))

  pub selected-there : (entries : List SelectedColumn) → All (IsColumnOf l r) (selected_columns join l r entries)
  selected-there [] = All-nil (IsColumnOf l r)
  selected-there (entry ∷ entries) = more-there (IsColumnOf l r) (column_of_entry join l r entry) (selected_columns join l r entries) (entry-there entry) (selected-there entries)

-- ---- the search for the only column that a name means

-- the answer by what was found before a place
unfoldable pub only_behind : (Origin → Bool) → List Origin → ℕ → Option Origin → Option Origin
only_behind p os i found = the_only (option_to_list found ++ filter p (drop i os))

pub only_first : (p : Origin → Bool) (os : List Origin) → the_only (filter p os) ≡ only_behind p os 0 None
unfolding only_behind
only_first p os = refl

filter_from : (p : Origin → Bool) (os : List Origin) (i : ℕ) (o : Origin) (b : Bool) → i < length os → p (slice_index_or os i o) ≡ b
    → filter p (drop i os) ≡ cond b (slice_index_or os i o ∷ filter p (drop (i + 1) os)) (filter p (drop (i + 1) os))
filter_from p os i o b low is =
    ap (filter p) (drop-cons os i o low)
    ∙ (ap (λ (n : ℕ). cond (p (slice_index_or os i o)) (slice_index_or os i o ∷ filter p (drop n os)) (filter p (drop n os))) (sym (add-one i))
    ∙ ap (λ (c : Bool). cond c (slice_index_or os i o ∷ filter p (drop (i + 1) os)) (filter p (drop (i + 1) os))) is)

-- another column
pub only_other : (p : Origin → Bool) (os : List Origin) (i : ℕ) (o : Origin) (found : Option Origin) → i < length os → p (slice_index_or os i o) ≡ false
    → only_behind p os i found ≡ only_behind p os (i + 1) found
unfolding only_behind
only_other p os i o found low is = ap (λ rest. the_only (option_to_list found ++ rest)) (filter_from p os i o false low is)

-- the first one that is meant
pub only_this : (p : Origin → Bool) (os : List Origin) (i : ℕ) (o : Origin) (found : Option Origin) → i < length os → p (slice_index_or os i o) ≡ true → is_some found ≡ false
    → only_behind p os i found ≡ only_behind p os (i + 1) (Some (slice_index_or os i o))
unfolding only_behind
only_this p os i o None low is none = ap the_only (filter_from p os i o true low is)
only_this p os i o (Some first) low is none = absurd (true≢false none)

-- a second one
pub only_again : (p : Origin → Bool) (os : List Origin) (i : ℕ) (o : Origin) (found : Option Origin) → i < length os → p (slice_index_or os i o) ≡ true → is_some found ≡ true
    → only_behind p os i found ≡ None
unfolding only_behind
only_again p os i o None low is some = absurd (true≢false (sym some))
only_again p os i o (Some first) low is some = ap (λ rest. the_only (first ∷ rest)) (filter_from p os i o true low is)

-- no further column
pub only_end : (p : Origin → Bool) (os : List Origin) (i : ℕ) (found : Option Origin) → length os ≤ i → only_behind p os i found ≡ found
unfolding only_behind
only_end p os i found past = ap (λ (rest : List Origin). the_only (option_to_list found ++ filter p rest)) (drop_all i os past) ∙ alone found
  where
    alone : (found : Option Origin) → the_only (option_to_list found ++ []) ≡ found
    alone None = refl
    alone (Some o) = refl

-- ---- one entry more

more_or_none : (found : Option Origin) → cons_option found [] ≡ option_to_list found
more_or_none None = refl
more_or_none (Some o) = refl

selected_more : (f : SelectedColumn → Option Origin) (entries : List SelectedColumn) (i : ℕ) (d : SelectedColumn) → i < length entries
    → filter_map f (take (i + 1) entries) ≡ filter_map f (take i entries) ++ option_to_list (f (slice_index_or entries i d))
selected_more f entries i d low =
    ap (filter_map f) (take_more entries i d low)
    ∙ (filter_map-append f (take i entries) (slice_index_or entries i d ∷ []) ∙ ap (λ one. filter_map f (take i entries) ++ one) (more_or_none (f (slice_index_or entries i d))))

pub selected_step : (f : SelectedColumn → Option Origin) (entries : List SelectedColumn) (i : ℕ) (d : SelectedColumn) (before after : List Origin) (found : Option Origin) → i < length entries
    → before ≡ filter_map f (take i entries) → found ≡ f (slice_index_or entries i d) → after ≡ before ++ option_to_list found → after ≡ filter_map f (take (i + 1) entries)
selected_step f entries i d before after found low left is more =
    more ∙ (ap (λ os. os ++ option_to_list found) left ∙ (ap (λ o. filter_map f (take i entries) ++ option_to_list o) is ∙ sym (selected_more f entries i d low)))
