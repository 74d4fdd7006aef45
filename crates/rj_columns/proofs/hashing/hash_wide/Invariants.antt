use Rattle.std.proofs.Common.{◌-◌, Some, map, get_or}
use Rattle.rj_columns.specs.Contents.{nothing}
use Rattle.rj_columns.specs.Internal.Stores.{number_content}
use Rattle.rj_columns.proofs.HashFacts.{Taking}
use Rattle.rj_columns.proofs.hashing.hash_wide.Given as goal

abbrev pub invariant-loop-i : goal.invariant-loop-i
invariant-loop-i g l = Taking (g.H.CellHash.added l.by) (λ r. get_or (map number_content (map Some l.values)) (r - l.from) nothing) l.rows l.initial.hashes l.hashes l.i
