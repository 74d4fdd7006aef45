-- What a part tells that is open only while something is put to it.
use Rattle.std.specs.Prelude.{ℕ, string_bytes, List, [], Option, option_map, if◌then◌else◌}
use Rattle.rj_shards.specs.declared.division.part_file.PartFile.{PartFile}
use Rattle.rj_shards.specs.declared.division.stored.StoredPart.{StoredPart}

-- what was put to a part, if its store tells what it holds: nothing before the first time, whatever
-- it holds then, and later all that it holds
abbrev pub told_of : {S W : Type 0} → (S → Option (List ℕ)) → StoredPart S W → Option (List ℕ)
told_of holds part = if part.is_begun then holds part.store else option_map (λ _. []) (holds part.store)

-- how often it failed
abbrev pub put_failures_of : {S W : Type 0} → StoredPart S W → ℕ
put_failures_of part = part.failures

-- where the file of a part is
abbrev pub path_of : {R F D : Type 0} → PartFile R F D → List ℕ
path_of part = string_bytes part.path
