-- The rows of a merge that were put on an output so far.
use Rattle.std.proofs.Common.{◌≡◌, ℕ, Bool, List, [], ◌∷◌, ◌++◌, Option, None, Some, All, Vec, Box, Global, Result, Err, refl, sym, ap, subst, ◌∙◌, append-nil, IsPermutation}
use Rattle.std.specs.Prelude.{◌≢◌, false, IfErr}
use Rattle.std.proofs.lemmas.Bool.{false≢true}
use Rattle.csv.specs.declared.writer.Writer.{Writer}
use Rattle.csv.specs.Writing.{row_text}
use Rattle.rj_csv_io.specs.Shown.{writer_of}
use Rattle.rj_csv_io.specs.Written.{HasWritten}
use Rattle.rj_shards.specs.declared.merge.copies.Copies.{Copies}
use Rattle.rj_shards.specs.declared.merge.head.Head.{Head}
use Rattle.rj_shards.specs.declared.merge.input.TextSource.{TextSource}
use Rattle.rj_shards.specs.declared.merge.place.Place.{Place}
use Rattle.rj_shards.specs.declared.merge.place.Placed.{Placed}
use Rattle.rj_shards.specs.declared.merge.refused.MergeRefused.{MergeRefused}
use Rattle.rj_shards.specs.declared.merge.refused.MergeRefused.TheVariants as refused
use Rattle.rj_shards.specs.declared.merge.refused.MergeTextsRefused.{MergeTextsRefused}
use Rattle.rj_shards.specs.declared.merge.refused.MergeTextsRefused.TheVariants as texts_refused
use Rattle.rj_shards.specs.MergedTexts.{IsTold, records_text}
use Rattle.rj_shards.specs.Merging.{AllTell, faults_of_heads, faults_of_inputs, rows_of_heads, rows_of_inputs}
use Rattle.rj_shards.specs.Sources.{Reading, TellsAmong, is_outside}
use Rattle.rj_shards.specs.Steps.{GaveAll, GaveSoFar, IsStep, stage_of}
use Rattle.rj_shards.proofs.StepFacts.{gave_more}
use Rattle.rj_shards.proofs.WrittenFacts.{no_records, records-more, told-none}

-- beside a failed output memory alone is refused, which is no fault of a text
pub not_memory : {T : Type 0} (r : Result T MergeTextsRefused) → IfErr r (λ x. x ≢ texts_refused.WriteDevice → x ≡ texts_refused.Merge refused.Memory) → (e : MergeRefused)
    → r ≡ Err (texts_refused.Merge e) → is_outside e ≡ false → ⊥
not_memory {T} r h e is out =
    let P : Result T MergeTextsRefused → Type 0 = λ r. IfErr r (λ x. x ≢ texts_refused.WriteDevice → x ≡ texts_refused.Merge refused.Memory) in
    let only = subst P is h in
    let merge : texts_refused.Merge e ≡ texts_refused.Merge refused.Memory = only (λ q. cc q) in
    let same : e ≡ refused.Memory = cc in
    false≢true (sym out ∙ ap is_outside same)

-- and it tells no input
pub only_memory : {T : Type 0} (r : Result T MergeTextsRefused) → IfErr r (λ x. x ≢ texts_refused.WriteDevice → x ≡ texts_refused.Merge refused.Memory) → (e : MergeRefused)
    → r ≡ Err (texts_refused.Merge e) → (numbers : ℕ → Bool) → TellsAmong numbers e
only_memory {T} r h e is numbers =
    let P : Result T MergeTextsRefused → Type 0 = λ r. IfErr r (λ x. x ≢ texts_refused.WriteDevice → x ≡ texts_refused.Merge refused.Memory) in
    let only = subst P is h in
    let merge : texts_refused.Merge e ≡ texts_refused.Merge refused.Memory = only (λ q. cc q) in
    let same : refused.Memory ≡ e = cc in
    subst (TellsAmong numbers) same tt

-- the place of the row that an input gave last
abbrev pub source_last : {R : Type 0} → Box (TextSource R) Global → Option Place
source_last b = b.value.last

-- rows that were put: the merge of the rows of the inputs that were passed
pub record HasPut {S : Type 0} (d : ℕ) (telling : S → Type 0) (own : S → Copies) (gives : S → Reading (List (List ℕ))) (sources : List S) (passed : Option Place) (heads : List (Head (List (List ℕ)) S))
    (start : Option (List ℕ)) (begun block : Writer (Vec ℕ Global)) (told : Option (List ℕ)) : Type 0 where
  pub rows : List (Placed (List (List ℕ)))
  pub tells : All telling sources → AllTell telling heads
  pub gave : All telling sources → GaveSoFar own gives sources rows (stage_of own gives passed heads)
  pub shown : (text : List ℕ) → HasWritten d begun text [] → IsTold d start (text ++ records_text d rows) block told

module _ {S : Type 0} (d : ℕ) (telling : S → Type 0) (own : S → Copies) (gives : S → Reading (List (List ℕ))) (sources : List S) (start : Option (List ℕ)) (begun : Writer (Vec ℕ Global)) where
  -- no row was put
  pub put-none : (passed : Option Place) (heads : List (Head (List (List ℕ)) S)) → passed ≡ None → (All telling sources → AllTell telling heads)
      → (All telling sources → IsPermutation (rows_of_inputs own gives sources) (rows_of_heads own gives heads))
      → (All telling sources → IsPermutation (faults_of_inputs gives sources) (faults_of_heads gives heads))
      → HasPut d telling own gives sources passed heads start begun begun start
  put-none passed heads none tells all faults = record {
    rows = [];
    tells = tells;
    gave = λ t. record { opened = stage_of own gives passed heads; passed = none; all = all t; faults = faults t; steps = refl };
    shown = λ text h. told-none d start (text ++ records_text d []) begun (subst (λ t. HasWritten d begun t []) (sym (ap (λ t. text ++ t) (no_records d) ∙ append-nil text)) h);
  }

  module _ (passed : Option Place) (heads : List (Head (List (List ℕ)) S)) (block : Writer (Vec ℕ Global)) (told : Option (List ℕ)) (h : HasPut d telling own gives sources passed heads start begun block told) where
    -- a row more
    pub put-more : (next : Option Place) (row : Placed (List (List ℕ))) (left : List (Head (List (List ℕ)) S)) (new : Writer (Vec ℕ Global)) (tells : Option (List ℕ))
        → (AllTell telling heads → AllTell telling left)
        → (AllTell telling heads → IsStep (stage_of own gives passed heads) (Some row) (stage_of own gives next left))
        → ((text : List ℕ) → IsTold d start text block told → IsTold d start (text ++ row_text (writer_of d) row.row) new tells)
        → HasPut d telling own gives sources next left start begun new tells
    put-more next row left new tells keeps step write = record {
      rows = h.rows ++ row ∷ [];
      tells = λ all. keeps (h.tells all);
      gave = λ all. gave_more own gives sources h.rows (stage_of own gives passed heads) (stage_of own gives next left) row (h.gave all) (step (h.tells all));
      shown = λ text w. subst (λ t. IsTold d start t new tells) (records-more d text h.rows row) (write (text ++ records_text d h.rows) (h.shown text w));
    }

    -- no row is left
    pub put-all : (last : Option Place) (left : List (Head (List (List ℕ)) S)) → (AllTell telling heads → IsStep (stage_of own gives passed heads) None (stage_of own gives last left))
        → rows_of_heads own gives left ≡ [] → faults_of_heads gives left ≡ [] → All telling sources → GaveAll own gives sources h.rows
    put-all last left step no_rows no_faults all =
        record { last = stage_of own gives passed heads; end = stage_of own gives last left; gave = h.gave all; none = step (h.tells all); no_rows = no_rows; no_faults = no_faults }
