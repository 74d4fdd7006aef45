-- The merge of texts, as a text, and the errors that prevent it.
use Rattle.std.specs.Prelude.{◌≡◌, ◌⊎◌, false, ℕ, List, [], ◌∷◌, ◌++◌, map, Option, None, Some, Result, Err}
use Rattle.std.specs.List.{zip}
use Rattle.std.specs.Io.KnownBytes.{Appends}
use Rattle.std.specs.declared.alloc.Global.{Global}
use Rattle.std.specs.declared.vec.Vec.{Vec}
use Rattle.csv.specs.declared.writer.Writer.{Writer}
use Rattle.rj_csv_io.specs.Shown.{rows_text}
use Rattle.rj_csv_io.specs.Written.{HasWritten}
use Rattle.rj_shards.specs.declared.merge.columns.Columns.{Columns}
use Rattle.rj_shards.specs.declared.merge.copies.Copies.{Copies}
use Rattle.rj_shards.specs.declared.merge.options.MergeOptions.{MergeOptions}
use Rattle.rj_shards.specs.declared.merge.place.Place.{Place}
use Rattle.rj_shards.specs.declared.merge.place.Placed.{Placed}
use Rattle.rj_shards.specs.declared.merge.refused.MergeRefused.{MergeRefused}
use Rattle.rj_shards.specs.declared.merge.refused.MergeTextsRefused.{MergeTextsRefused}
use Rattle.rj_shards.specs.declared.merge.refused.MergeTextsRefused.TheVariants as texts_refused
use Rattle.rj_shards.specs.Copies.{Copied, copied_rows, up_to}
use Rattle.rj_shards.specs.MergeHeaders.{place_columns}
use Rattle.rj_shards.specs.Inputs.{faults_of_readings, first_header, header_fault, readings}
use Rattle.rj_shards.specs.Merging.{IsFaultOf}
use Rattle.rj_shards.specs.MergeRanges.{between}
use Rattle.rj_shards.specs.Sources.{is_outside}
use Rattle.rj_shards.specs.MergeTexts.{others}
use Rattle.rj_shards.specs.Wholes.{IsMergeOf}

-- the records of rows, one after the other, with this delimiter
abbrev pub records_text : ℕ → List (Placed (List (List ℕ))) → List ℕ
records_text d rows = rows_text d (map (λ p. p.row) rows)

-- the header is above rows whose range has no first place, and not above a later range
abbrev pub head_rows : Option Place → List (List ℕ) → List (List (List ℕ))
head_rows None header = header ∷ []
head_rows (Some from) header = []

-- what texts with these copies give
abbrev pub lists_of_texts : MergeOptions → List Copies → List (List ℕ) → List (Copies × List (Placed (List (List ℕ))))
lists_of_texts how copies texts = zip copies (map (λ r. r.rows) (readings how texts))

-- the text of a merge of texts with these copies within a range: their header without the columns
-- of the places, if the range has no first place, and under it the merge of their rows within it
pub record IsMergedText (how : MergeOptions) (copies : List Copies) (texts : List (List ℕ)) (text : List ℕ) : Type 0 where
  pub columns : Columns
  pub rows : List (Placed (List (List ℕ)))
  pub places : place_columns (first_header texts) ≡ Some columns
  pub merge : IsMergeOf (copied_rows (lists_of_texts how copies texts)) rows
  pub shown : text ≡ rows_text how.delimiter (head_rows how.from (others columns (first_header texts)) ++ map (λ p. p.row) rows)

-- texts are those of the merges of the ranges between these cuts, the first from this place on, the last to the end
abbrev pub AreRanges : MergeOptions → List Copies → List (List ℕ) → Option Place → List Place → List (List ℕ) → Type 0
AreRanges how copies texts from [] [] = ⊥
AreRanges how copies texts from [] (part ∷ []) = IsMergedText (between how from None) copies texts part
AreRanges how copies texts from [] (part ∷ more ∷ parts) = ⊥
AreRanges how copies texts from (cut ∷ cuts) [] = ⊥
AreRanges how copies texts from (cut ∷ cuts) (part ∷ parts) = IsMergedText (between how from (Some cut)) copies texts part × AreRanges how copies texts (Some cut) cuts parts

-- no text has an error
abbrev pub HaveNoFault : MergeOptions → List (List ℕ) → Type 0
HaveNoFault how texts = faults_of_readings (readings how texts) ≡ []

-- an error of one of the texts, or that a place occurs too often among their rows
abbrev pub IsFaultOfTexts : MergeOptions → List Copies → List (List ℕ) → MergeRefused → Type 0
IsFaultOfTexts how copies texts e = IsFaultOf (copied_rows (lists_of_texts how copies texts)) (faults_of_readings (readings how texts)) e

-- an output got the merge of texts with these copies
pub record GotMerge (how : MergeOptions) (copies : List Copies) (texts : List (List ℕ)) (old new : Option (List ℕ)) : Type 0 where
  pub text : List ℕ
  pub merge : IsMergedText how copies texts text
  pub got : Appends old new text

-- an output got the first bytes of a text and of the records of a merge below it, with this
-- delimiter: of the merge of the rows up to some place
pub record GotFirst (d : ℕ) (above : List ℕ) (all : List (Copied (List (List ℕ)))) (old new : Option (List ℕ)) : Type 0 where
  pub last : Option Place
  pub rows : List (Placed (List (List ℕ)))
  pub merge : IsMergeOf (up_to last all) rows
  pub text : List ℕ
  pub more : List ℕ
  pub whole : above ++ records_text d rows ≡ text ++ more
  pub got : Appends old new text

-- an output is as it was, or it got the first bytes of a merge of texts with these copies: of the
-- header, if that is above the rows, and of the merge of the rows up to some place
abbrev pub IsPartlyMerged : MergeOptions → List Copies → List (List ℕ) → Option (List ℕ) → Option (List ℕ) → Type 0
IsPartlyMerged how copies texts old new = (new ≡ old) ⊎ ((columns : Columns) × (place_columns (first_header texts) ≡ Some columns)
    × GotFirst how.delimiter (rows_text how.delimiter (head_rows how.from (others columns (first_header texts)))) (copied_rows (lists_of_texts how copies texts)) old new)

-- a call is refused by this error, which isn't one of the machine
pub record IsRefusedBy {T : Type 0} (result : Result T MergeTextsRefused) (e : MergeRefused) : Type 0 where
  pub is : result ≡ Err (texts_refused.Merge e)
  pub inside : is_outside e ≡ false

-- if a header of texts has an error, the first such error refuses a call, or the machine does
-- before
abbrev pub HeedsHeaders : {T : Type 0} → Result T MergeTextsRefused → List (List ℕ) → Type 0
HeedsHeaders result texts =
    (f : MergeRefused) → header_fault texts ≡ Some f → (e : MergeRefused) × (result ≡ Err (texts_refused.Merge e)) × (is_outside e ≡ false → e ≡ f)

-- if a header of texts has an error, an output is as it was
abbrev pub IsUntouched : {O : Type 0} → O → O → List (List ℕ) → Type 0
IsUntouched old new texts = (f : MergeRefused) → header_fault texts ≡ Some f → new ≡ old

-- an output got all of a text after what it already had, except the records that still are in a
-- block, with this delimiter
pub record IsTold (d : ℕ) (start : Option (List ℕ)) (text : List ℕ) (block : Writer (Vec ℕ Global)) (told : Option (List ℕ)) : Type 0 where
  pub put : List ℕ
  pub kept : List ℕ
  pub whole : text ≡ put ++ kept
  pub got : Appends start told put
  pub written : HasWritten d block kept []
