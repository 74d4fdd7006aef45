-- The shard that the cells of a row lead to.
use Rattle.std.specs.Prelude.{ℕ, List, map, slice_index_or}
use Rattle.rj_columns.specs.Contents.{Content, nothing}
use Rattle.rj_shards.specs.Shards.{shard_of_hash}
use Rattle.rj_radix.specs.Hashes.{hash_of}

-- the shard of a row of these cells, among this many shards, by its key at these columns
abbrev pub shard_of_cells : (List Content → ℕ) → ℕ → List ℕ → List Content → ℕ
shard_of_cells value count columns cells = shard_of_hash count (hash_of value (map (λ c. slice_index_or cells c nothing) columns))
