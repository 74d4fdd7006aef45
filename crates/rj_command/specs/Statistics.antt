-- The text of the statistics of a join.
use Rattle.std.specs.Prelude.{ℕ, if◌then◌else◌, List, [], ◌∷◌, ◌++◌, codes, decimal, string_bytes}
use Rattle.std.specs.List.{flat_map}
use Rattle.rj_line.specs.Faults.{side_text}
use Rattle.rj_line.specs.declared.fault.Side.{Side}
use Rattle.rj_line.specs.declared.fault.Side.TheVariants as side
use Rattle.rj_command.specs.declared.join.stats.PartitionRows.{PartitionRows}
use Rattle.rj_command.specs.declared.join.stats.Stats.{Stats}
use Rattle.rj_command.specs.declared.join.stats.TextKey.{TextKey}

-- the line of a partition
abbrev pub partition_text : PartitionRows → List ℕ
partition_text p = codes "partition " ++ (decimal p.number ++ (codes " left " ++ (decimal p.left ++ (codes " right " ++ decimal p.right))))

-- the line of the members of the joined table: matches, and unmatched rows of either side
abbrev pub written_text : Stats → List ℕ
written_text s = codes "pairs " ++ (decimal s.pairs ++ (codes " lone-left " ++ (decimal s.lone_left ++ (codes " lone-right " ++ decimal s.lone_right))))

-- the line of the pieces
abbrev pub pieces_text : Stats → List ℕ
pieces_text s = codes "pieces " ++ decimal s.pieces

-- a line for each partition, ended by LF, then that of the members of the joined table, and if it
-- is asked for, on a line of its own, that of the pieces
abbrev pub stats_text : Stats → List ℕ
stats_text s =
    flat_map (λ p. partition_text p ++ 10 ∷ []) s.partitions.items
    ++ (if s.tells_pieces then written_text s ++ (10 ∷ pieces_text s) else written_text s)

-- the line that tells a key of numbers that were compared as texts, without the line end
abbrev pub text_key_text : TextKey → List ℕ
text_key_text k =
    codes "L." ++ (string_bytes k.left ++ (codes " and R." ++ (string_bytes k.right
    ++ codes " hold numbers and were compared as texts, so 1.50 isn't 1.5; --types makes them numbers")))

-- the type of a join, beside FULL, that keeps the unmatched rows of a table (SQL-92, 7.5)
abbrev pub keeping_type : Side → List ℕ
keeping_type side.Left = codes "LEFT"
keeping_type side.Right = codes "RIGHT"

-- the line that tells that a join's type keeps none, without the line end
abbrev pub unkept_text : Side → List ℕ
unkept_text s =
    codes "the join keeps no unmatched " ++ (side_text s ++ (codes " rows; a " ++ (keeping_type s ++ codes " or FULL JOIN keeps them")))
