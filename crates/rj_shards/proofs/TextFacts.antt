-- Texts of placed rows: the fields that a row keeps, and the rows behind one.
use Rattle.std.proofs.Common.{◌≡◌, ◌<◌, ◌≤◌, ◌+◌, Bool, ℕ, List, [], ◌∷◌, ◌++◌, length, drop, Option, Some, None, Ok, Err, true, false, refl, sym, ap, ◌∙◌, drop-cons, add-one, append_assoc, append-nil, length-append, arith}
use Rattle.std.specs.Prelude.{slice_index_or, ◌||◌, ◌==◌}
use Rattle.std.specs.Bool.{MatchBool}
use Rattle.std.proofs.lemmas.List.{drop_all}
use Rattle.csv.specs.Reading.{ReadRecord, Ready, reader_trim, took_first}
use Rattle.csv.specs.declared.reader.Reader.{Reader}
use Rattle.csv.specs.declared.reader.Trim.TheVariants as trim
use Rattle.rj_csv_io.specs.Remaining.{IsBetween, records_remaining}
use Rattle.rj_csv_io.proofs.RemainingFacts.{read-more, read-none}
use Rattle.rj_shards.specs.declared.merge.columns.Columns.{Columns}
use Rattle.rj_shards.specs.declared.merge.options.MergeOptions.{MergeOptions}
use Rattle.rj_shards.specs.declared.merge.place.Place.{Place}
use Rattle.rj_shards.specs.declared.merge.place.Placed.{Placed}
use Rattle.rj_shards.specs.declared.merge.refused.MergeRefused.{MergeRefused}
use Rattle.rj_shards.specs.Sources.{Reading}
use Rattle.rj_shards.specs.MergeTexts.{others, others_from, read_row, read_rows}

-- a field that is kept, one that isn't, and no field left
pub kept : (columns : Columns) (i : ℕ) (fields : List (List ℕ)) (f : List ℕ) → i < length fields → slice_index_or fields i [] ≡ f → (i == columns.left) || (i == columns.right) ≡ false
    → others_from columns i (drop i fields) ≡ f ∷ others_from columns (i + 1) (drop (i + 1) fields)
unfolding others_from
kept columns i fields f h e test = rw (drop-cons fields i [] h, e, test, add-one) refl

pub left_out : (columns : Columns) (i : ℕ) (fields : List (List ℕ)) → i < length fields → (i == columns.left) || (i == columns.right) ≡ true
    → others_from columns i (drop i fields) ≡ others_from columns (i + 1) (drop (i + 1) fields)
unfolding others_from
left_out columns i fields h test = rw (drop-cons fields i [] h, test, add-one) refl

pub none_left : (columns : Columns) (i : ℕ) (fields : List (List ℕ)) → length fields ≤ i → others_from columns i (drop i fields) ≡ []
unfolding others_from
none_left columns i fields h = rw (drop_all i fields h) refl

-- of the fields before this one these are kept
pub record IsKeptTo (columns : Columns) (i : ℕ) (fields kept : List (List ℕ)) : Type 0 where
  pub whole : kept ++ others_from columns i (drop i fields) ≡ others columns fields
  pub few : length kept ≤ i

-- none yet, no further one, and one more
pub kept-none : (columns : Columns) (fields : List (List ℕ)) → IsKeptTo columns 0 fields []
kept-none columns fields = record { whole = refl; few = omega arith }

pub kept-place : (columns : Columns) (i : ℕ) (fields so_far : List (List ℕ)) → i < length fields → (i == columns.left) || (i == columns.right) ≡ true → IsKeptTo columns i fields so_far → IsKeptTo columns (i + 1) fields so_far
kept-place columns i fields so_far h test k = record {
  whole = ap (λ t. so_far ++ t) (sym (left_out columns i fields h test)) ∙ k.whole;
  few = omega (arith, k.few);
}

pub kept-field : (columns : Columns) (i : ℕ) (fields so_far : List (List ℕ)) (f : List ℕ) → i < length fields → slice_index_or fields i [] ≡ f → (i == columns.left) || (i == columns.right) ≡ false
    → IsKeptTo columns i fields so_far → IsKeptTo columns (i + 1) fields (so_far ++ f ∷ [])
kept-field columns i fields so_far f h at test k = record {
  whole = append_assoc so_far (f ∷ []) (others_from columns (i + 1) (drop (i + 1) fields)) ∙ (ap (λ t. so_far ++ t) (sym (kept columns i fields f h at test)) ∙ k.whole);
  few = omega (arith, k.few, length-append so_far (f ∷ []));
}

-- all of them
pub kept-all : (columns : Columns) (i : ℕ) (fields so_far : List (List ℕ)) → length fields ≤ i → IsKeptTo columns i fields so_far → so_far ≡ others columns fields
kept-all columns i fields so_far h k = sym (append-nil so_far) ∙ (ap (λ t. so_far ++ t) (sym (none_left columns i fields h)) ∙ k.whole)

-- what one read of an input does to the records that remain to it
pub read-next : {R : Type 0} (known : R → Option (List ℕ)) (a b : Reader R) (found : Bool) (f : List (List ℕ)) → IsBetween known a
    → (reader_trim a ≡ trim.None → Ready a → ReadRecord known a b found f) → (reader_trim a ≡ trim.None → took_first b ≡ true)
    → MatchBool found ((records_remaining known a ≡ f ∷ records_remaining known b) × IsBetween known b) (records_remaining known a ≡ [])
read-next known a b true f h reads first = read-more known a b true f h refl reads first
read-next known a b false f h reads first = read-none known a b false f h refl reads

module _ (how : MergeOptions) (columns : Columns) (input before : ℕ) (last : Option Place) where
  -- no record, a record that is a row, and one that has a fault
  pub rows-end : read_rows how columns input before last [] ≡ record { rows = []; fault = None }
  unfolding read_rows
  rows-end = refl

  pub rows-step : (r : List (List ℕ)) (records : List (List (List ℕ))) (p : Placed (List (List ℕ))) → read_row how columns input (before + 1) last r ≡ Ok p
      → (let more = read_rows how columns input (before + 1) (Some p.place) records in read_rows how columns input before last (r ∷ records) ≡ record { rows = p ∷ more.rows; fault = more.fault })
  unfolding read_rows
  rows-step r records p e = rw e refl

  pub rows-fault : (r : List (List ℕ)) (records : List (List (List ℕ))) (e : MergeRefused) → read_row how columns input (before + 1) last r ≡ Err e
      → read_rows how columns input before last (r ∷ records) ≡ record { rows = []; fault = Some e }
  unfolding read_rows
  rows-fault r records e h = rw h refl

-- what an input gives, where the records that remain to it have no first one, one that is a row, or one that has a fault
pub gives-end : (how : MergeOptions) (columns : Columns) (input before : ℕ) (last : Option Place) (records : List (List (List ℕ))) → records ≡ []
    → ((read_rows how columns input before last records).rows ≡ []) × ((read_rows how columns input before last records).fault ≡ None)
gives-end how columns input before last records e =
    let end = rows-end how columns input before last in
    rw e (ap (λ (x : Reading (List (List ℕ))). x.rows) end, ap (λ (x : Reading (List (List ℕ))). x.fault) end)

pub gives-row : (how : MergeOptions) (columns : Columns) (input before row : ℕ) (last : Option Place) (r : List (List ℕ)) (records more : List (List (List ℕ))) (p : Placed (List (List ℕ)))
    → records ≡ r ∷ more → row ≡ before + 1 → read_row how columns input row last r ≡ Ok p
    → ((read_rows how columns input before last records).rows ≡ p ∷ (read_rows how columns input row (Some p.place) more).rows)
    × ((read_rows how columns input before last records).fault ≡ (read_rows how columns input row (Some p.place) more).fault)
gives-row how columns input before row last r records more p e n h =
    let step = rows-step how columns input before last r more p (rw n at h) in
    rw (e, n) (ap (λ (x : Reading (List (List ℕ))). x.rows) step, ap (λ (x : Reading (List (List ℕ))). x.fault) step)

pub gives-fault : (how : MergeOptions) (columns : Columns) (input before row : ℕ) (last : Option Place) (r : List (List ℕ)) (records more : List (List (List ℕ))) (f : MergeRefused)
    → records ≡ r ∷ more → row ≡ before + 1 → read_row how columns input row last r ≡ Err f
    → ((read_rows how columns input before last records).rows ≡ []) × ((read_rows how columns input before last records).fault ≡ Some f)
gives-fault how columns input before row last r records more f e n h =
    let step = rows-fault how columns input before last r more f (rw n at h) in
    rw e (ap (λ (x : Reading (List (List ℕ))). x.rows) step, ap (λ (x : Reading (List (List ℕ))). x.fault) step)
