-- The steps of a merge, one after another.
use Rattle.std.specs.Prelude.{◌≡◌, List, [], ◌∷◌, Option, None, Some}
use Rattle.std.specs.List.Sorted.{IsPermutation}
use Rattle.std.specs.Option.{option_to_list}
use Rattle.rj_shards.specs.declared.merge.copies.Copies.{Copies}
use Rattle.rj_shards.specs.declared.merge.head.Head.{Head}
use Rattle.rj_shards.specs.declared.merge.place.Place.{Place}
use Rattle.rj_shards.specs.declared.merge.place.Placed.{Placed}
use Rattle.rj_shards.specs.declared.merge.refused.MergeRefused.{MergeRefused}
use Rattle.rj_shards.specs.Copies.{Copied}
use Rattle.rj_shards.specs.Merging.{Passes, faults_of_heads, faults_of_inputs, rows_of_heads, rows_of_inputs}
use Rattle.rj_shards.specs.Sources.{Reading}

-- the stage of a merge: the place up to which it has passed all rows, and the rows and errors that
-- its inputs still have
pub record Stage (T : Type 0) : Type 0 where
  pub passed : Option Place
  pub rows : List (Copied T)
  pub faults : List MergeRefused

-- the stage of a merge that has these heads, and has passed all rows up to this place
abbrev pub stage_of : {T S : Type 0} → (S → Copies) → (S → Reading T) → Option Place → List (Head T S) → Stage T
stage_of copies reading passed heads = record { passed = passed; rows = rows_of_heads copies reading heads; faults = faults_of_heads reading heads }

-- a step gives a row, or none at the end
pub record IsStep {T : Type 0} (old : Stage T) (given : Option (Placed T)) (new : Stage T) : Type 0 where
  pub rows : Passes old.passed new.passed old.rows new.rows (option_to_list given)
  pub faults : IsPermutation old.faults new.faults

-- steps one after another give these rows
abbrev pub AreSteps : {T : Type 0} → Stage T → List (Placed T) → Stage T → Type 0
AreSteps old [] new = old ≡ new
AreSteps {T} old (row ∷ rows) new = (mid : Stage T) × IsStep old (Some row) mid × AreSteps mid rows new

-- a merge of inputs was opened, and its steps gave these rows so far
pub record GaveSoFar {T S : Type 0} (copies : S → Copies) (reading : S → Reading T) (inputs : List S) (rows : List (Placed T)) (now : Stage T) : Type 0 where
  pub opened : Stage T
  pub passed : opened.passed ≡ None
  pub all : IsPermutation (rows_of_inputs copies reading inputs) opened.rows
  pub faults : IsPermutation (faults_of_inputs reading inputs) opened.faults
  pub steps : AreSteps opened rows now

-- and the next step gave none, after which nothing is left
pub record GaveAll {T S : Type 0} (copies : S → Copies) (reading : S → Reading T) (inputs : List S) (rows : List (Placed T)) : Type 0 where
  pub last : Stage T
  pub end : Stage T
  pub gave : GaveSoFar copies reading inputs rows last
  pub none : IsStep last None end
  pub no_rows : end.rows ≡ []
  pub no_faults : end.faults ≡ []
