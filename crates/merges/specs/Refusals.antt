-- The failure of a refused merge.
use Rattle.std.specs.Prelude.{◌≡◌, ◌-◌, ◌⊎◌, ℕ, List, [], IsSome, String, string_bytes, slice_index_or}
use Rattle.std.specs.declared.alloc.Global.{Global}
use Rattle.merges.specs.declared.failure.Failure.{Failure}
use Rattle.merges.specs.declared.failure.Failure.TheVariants as failure
use Rattle.rj_shards.specs.Sources.{told_input}
use Rattle.rj_shards.specs.declared.merge.refused.MergeRefused.{MergeRefused}
use Rattle.rj_shards.specs.declared.merge.refused.MergeRefused.TheVariants as refused
use Rattle.rj_shards.specs.declared.merge.refused.MergeTextsRefused.{MergeTextsRefused}
use Rattle.rj_shards.specs.declared.merge.refused.MergeTextsRefused.TheVariants as texts_refused

-- a failure of the file of this number, counted from 1, by its name
abbrev pub IsOfFile : List (List ℕ) → ℕ → (String Global → Failure) → Failure → Type 0
IsOfFile files input make f = (name : String Global) × (string_bytes name ≡ slice_index_or files (input - 1) []) × (f ≡ make name)

-- the failure of this error of files of these names
abbrev pub IsOfMerge : List (List ℕ) → MergeRefused → Failure → Type 0
IsOfMerge files refused.Memory f = f ≡ failure.Memory
IsOfMerge files (refused.ReadDevice input) f = IsOfFile files input failure.ReadDevice f
IsOfMerge files (refused.NoHeader input) f = IsOfFile files input failure.NoHeader f
IsOfMerge files (refused.NoPlaces input) f = IsOfFile files input failure.NoPlaces f
IsOfMerge files (refused.OtherHeader input) f = IsOfFile files input failure.OtherHeader f
IsOfMerge files (refused.RaggedRow input row) f = IsOfFile files input (λ name. failure.RaggedRow name row) f
IsOfMerge files (refused.BadPlace input row) f = IsOfFile files input (λ name. failure.BadPlace name row) f
IsOfMerge files (refused.NoPlace input row) f = IsOfFile files input (λ name. failure.NoPlace name row) f
IsOfMerge files (refused.NotInOrder input row) f = IsOfFile files input (λ name. failure.NotInOrder name row) f
IsOfMerge files (refused.RepeatedPlace place) f = f ≡ failure.RepeatedPlace place

-- the same of a refusal; or memory ran out for the name of the file, if the error is one of a file
abbrev pub IsOf : List (List ℕ) → MergeTextsRefused → Failure → Type 0
IsOf files texts_refused.WriteDevice f = f ≡ failure.WriteDevice
IsOf files (texts_refused.Merge e) f = IsOfMerge files e f ⊎ (IsSome (told_input e) × (f ≡ failure.Memory))
