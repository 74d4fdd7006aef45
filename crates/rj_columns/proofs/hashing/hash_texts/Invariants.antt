use Rattle.std.proofs.Common.{◌-◌, map, get_or}
use Rattle.rj_columns.specs.Contents.{nothing}
use Rattle.rj_columns.specs.Internal.Stores.{text_content}
use Rattle.rj_columns.proofs.HashFacts.{Taking}
use Rattle.rj_columns.proofs.hashing.hash_texts.Given as goal

abbrev pub invariant-loop-i : goal.invariant-loop-i
invariant-loop-i g l = Taking (g.H.CellHash.added l.by) (λ r. get_or (map text_content l.texts) (r - l.from) nothing) l.rows l.initial.hashes l.hashes l.i
