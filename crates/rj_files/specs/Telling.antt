-- What is told beside a joined table of columns whose types nobody declared.
use Rattle.std.specs.Prelude.{Bool, List, ◌&&◌, ◌||◌, ◌==◌, nat_lt, vec_len}
use Rattle.std.specs.List.{list_any}
use Rattle.rj_command.specs.declared.join.stats.PartitionRows.{PartitionRows}
use Rattle.rj_command.specs.declared.join.stats.Stats.{Stats}
use Rattle.rj_line.specs.declared.line.Line.{Line}

-- a table has rows with a key: these are the rows of partitions
abbrev pub has_left_keys : List PartitionRows → Bool
has_left_keys partitions = list_any (λ (p : PartitionRows). nat_lt 0 p.left) partitions

abbrev pub has_right_keys : List PartitionRows → Bool
has_right_keys partitions = list_any (λ (p : PartitionRows). nat_lt 0 p.right) partitions

-- both tables have such rows, and no two of them match
abbrev pub is_unmatched : Stats → Bool
is_unmatched s = has_left_keys s.partitions.items && has_right_keys s.partitions.items && (s.pairs == 0)

-- it is told that no rows match: where errors are explained, a column's type may be undeclared, and
-- no key is told to hold numbers
abbrev pub tells_unmatched : Line → Stats → Bool
tells_unmatched line s = line.explain
    && (line.request.left_undeclared || line.request.right_undeclared)
    && (vec_len s.text_keys == 0)
    && is_unmatched s
