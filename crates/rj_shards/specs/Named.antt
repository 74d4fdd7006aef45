-- Texts that are opened by their names.
use Rattle.std.specs.Prelude.{◌≡◌, ◌-◌, ◌≤◌, ℕ, List, [], ◌∷◌, length, slice_index_or, Option, Some}
use Rattle.rj_shards.specs.declared.merge.copies.MergeInput.{MergeInput}
use Rattle.rj_shards.specs.declared.merge.refused.MergeRefused.{MergeRefused}
use Rattle.rj_shards.specs.declared.merge.refused.MergeRefused.TheVariants as refused
use Rattle.rj_csv_io.specs.declared.retrying.RetryingReader.{RetryingReader}
use Rattle.rj_csv_io.specs.Devices.{reader_retried}

-- each input reads what its name opens
abbrev pub AreOpened : {R : Type 0} → (List ℕ → R → Type 0) → List (List ℕ) → List (MergeInput (RetryingReader R)) → Type 0
AreOpened opens [] [] = Unit {0}
AreOpened opens [] (i ∷ inputs) = ⊥
AreOpened opens (name ∷ names) [] = ⊥
AreOpened opens (name ∷ names) (i ∷ inputs) = opens name (reader_retried i.reader) × AreOpened opens names inputs

-- whatever the names open tells these texts
abbrev pub OpenTexts : {R : Type 0} → (List ℕ → R → Type 0) → (R → Option (List ℕ)) → List (List ℕ) → List (List ℕ) → Type 0
OpenTexts opens known [] [] = Unit {0}
OpenTexts opens known [] (text ∷ texts) = ⊥
OpenTexts opens known (name ∷ names) [] = ⊥
OpenTexts {R} opens known (name ∷ names) (text ∷ texts) = ((r : R) → opens name r → known r ≡ Some text) × OpenTexts opens known names texts

-- this holds of the texts that names open
abbrev pub ForNamed : {R : Type 0} → (List ℕ → R → Type 0) → (R → Option (List ℕ)) → List (List ℕ) → (List (List ℕ) → Type 0) → Type 0
ForNamed opens known names holds = (texts : List (List ℕ)) → OpenTexts opens known names texts → holds texts

-- the name of this number, counted from 1, is one that can't be opened
pub record IsShut (shut : List ℕ → Type 0) (names : List (List ℕ)) (number : ℕ) : Type 0 where
  pub first : 1 ≤ number
  pub last : number ≤ length names
  pub is : shut (slice_index_or names (number - 1) [])

-- the name of this number, counted from 1, is one that opens nothing
pub record OpensNothing {R : Type 0} (opens : List ℕ → R → Type 0) (names : List (List ℕ)) (number : ℕ) : Type 0 where
  pub first : 1 ≤ number
  pub last : number ≤ length names
  pub none : (r : R) → opens (slice_index_or names (number - 1) []) r → ⊥

-- the error of a name that can't be opened, which is the one of this number or one before it; or
-- memory ran out
abbrev pub IsOpenFault : (List ℕ → Type 0) → List (List ℕ) → ℕ → MergeRefused → Type 0
IsOpenFault shut names number (refused.ReadDevice i) = (i ≤ number) × IsShut shut names i
IsOpenFault shut names number refused.Memory = Unit {0}
IsOpenFault shut names number e = ⊥
