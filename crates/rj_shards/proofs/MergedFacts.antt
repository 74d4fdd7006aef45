-- The merge of texts, by what the inputs give.
use Rattle.std.proofs.Common.{◌≡◌, ◌∙◌, ℕ, List, [], ◌∷◌, ◌++◌, map, Option, Some, refl, sym, ap, subst, inr}
use Rattle.std.specs.List.{zip}
use Rattle.std.specs.Option.{option_to_list}
use mathlib.Core.List.{map-map}
use Rattle.std.proofs.lemmas.List.Folds.{flat_map-map}
use Rattle.rj_csv_io.specs.Shown.{rows_text}
use Rattle.rj_shards.specs.declared.merge.columns.Columns.{Columns}
use Rattle.rj_shards.specs.declared.merge.copies.Copies.{Copies}
use Rattle.rj_shards.specs.declared.merge.options.MergeOptions.{MergeOptions}
use Rattle.rj_shards.specs.declared.merge.place.Placed.{Placed}
use Rattle.rj_shards.specs.declared.merge.refused.MergeRefused.{MergeRefused}
use Rattle.rj_shards.specs.Copies.{copied_rows}
use Rattle.rj_shards.specs.MergeHeaders.{place_columns}
use Rattle.rj_shards.specs.Inputs.{faults_of_readings, first_header, readings}
use Rattle.rj_shards.specs.MergedTexts.{GotFirst, HaveNoFault, IsFaultOfTexts, IsMergedText, IsPartlyMerged, head_rows, lists_of_texts, records_text}
use Rattle.rj_shards.specs.Merging.{IsFaultOf, faults_of_inputs, lists_of_inputs}
use Rattle.rj_shards.specs.Sources.{Reading}
use Rattle.rj_shards.specs.MergeTexts.{others}
use Rattle.rj_shards.specs.Wholes.{IsMergeOf}
use Rattle.rj_shards.proofs.WrittenFacts.{under-head}

-- two lists made of one, side by side
zip_maps : {A B C : Type 0} (f : A → B) (g : A → C) (xs : List A) → zip (map f xs) (map g xs) ≡ map (λ x. (f x, g x)) xs
zip_maps f g [] = refl
zip_maps f g (x ∷ xs) = ap (λ l. (f x, g x) ∷ l) (zip_maps f g xs)

module _ {S : Type 0} (has : S → Copies) (gives : S → Reading (List (List ℕ))) (how : MergeOptions) (copies : List Copies) (texts : List (List ℕ)) (sources : List S) (own : map has sources ≡ copies)
    (given : readings how texts ≡ map gives sources) where
  faults_given : faults_of_readings (readings how texts) ≡ faults_of_inputs gives sources
  faults_given = ap faults_of_readings given ∙ flat_map-map (λ (r : Reading (List (List ℕ))). option_to_list r.fault) gives sources

  lists_given : lists_of_texts how copies texts ≡ lists_of_inputs has gives sources
  lists_given =
      ap (λ k. zip k (map (λ (r : Reading (List (List ℕ))). r.rows) (readings how texts))) (sym own)
      ∙ ap (λ l. zip (map has sources) (map (λ (r : Reading (List (List ℕ))). r.rows) l)) given
      ∙ ap (zip (map has sources)) (map-map (λ (r : Reading (List (List ℕ))). r.rows) gives sources)
      ∙ zip_maps has (λ s. (gives s).rows) sources

  pub merged : (columns : Columns) (first : List (List ℕ)) (rows : List (Placed (List (List ℕ)))) → first ≡ first_header texts → place_columns first ≡ Some columns
      → IsMergeOf (copied_rows (lists_of_inputs has gives sources)) rows → IsMergedText how copies texts (rows_text how.delimiter (head_rows how.from (others columns first)) ++ records_text how.delimiter rows)
  merged columns first rows is places merge = record {
    columns = columns;
    rows = rows;
    places = ap place_columns (sym is) ∙ places;
    merge = subst (λ l. IsMergeOf (copied_rows l) rows) (sym lists_given) merge;
    shown = under-head how.delimiter (head_rows how.from (others columns first)) rows ∙ ap (λ (h : List (List ℕ)). rows_text how.delimiter (head_rows how.from (others columns h) ++ map (λ p. p.row) rows)) is;
  }

  -- what was put of the merge of the inputs was put of the merge of the texts
  pub partly_merged : (columns : Columns) (first : List (List ℕ)) (old new : Option (List ℕ)) → first ≡ first_header texts → place_columns first ≡ Some columns
      → GotFirst how.delimiter (rows_text how.delimiter (head_rows how.from (others columns first))) (copied_rows (lists_of_inputs has gives sources)) old new → IsPartlyMerged how copies texts old new
  partly_merged columns first old new is places got =
      let head : List (List ℕ) → List ℕ = λ h. rows_text how.delimiter (head_rows how.from (others columns h)) in
      let listed = subst (λ l. GotFirst how.delimiter (head first) (copied_rows l) old new) (sym lists_given) got in
      inr (columns, ap place_columns (sym is) ∙ places, subst (λ h. GotFirst how.delimiter (head h) (copied_rows (lists_of_texts how copies texts)) old new) is listed)

  pub faultless : faults_of_inputs gives sources ≡ [] → HaveNoFault how texts
  faultless none = faults_given ∙ none

  pub fault_of_texts : (e : MergeRefused) → IsFaultOf (copied_rows (lists_of_inputs has gives sources)) (faults_of_inputs gives sources) e → IsFaultOfTexts how copies texts e
  fault_of_texts e fault =
      subst (λ l. IsFaultOf (copied_rows (lists_of_texts how copies texts)) l e) (sym faults_given)
      (subst (λ l. IsFaultOf (copied_rows l) (faults_of_inputs gives sources) e) (sym lists_given) fault)
