-- The lines that are added to an error: for rows that a join doesn't keep, for running out of memory
-- while a file is read, and the system's.
use Rattle.std.specs.Prelude.{ℕ, ◌≡◌, List, [], ◌∷◌, ◌++◌, codes, None, Option, Some}
use Rattle.rj_line.specs.Faults.{side_text}
use Rattle.rj_line.specs.declared.fault.Side.{Side}
use Rattle.rj_command.specs.Statistics.{unkept_text}

-- the line for a join that keeps no unmatched rows of a table
abbrev pub unkept_lines : Side → List ℕ
unkept_lines s = codes "  " ++ (unkept_text s ++ 10 ∷ [])

-- the line when a side's file was being read
abbrev pub unread_memory_text : Side → List ℕ
unread_memory_text side = codes "  while the " ++ (side_text side ++ (codes " file was read" ++ 10 ∷ []))

-- a line with two blanks in front
abbrev pub IsIndented : List ℕ → Type 0
IsIndented text = (line : List ℕ) × (text ≡ codes "  " ++ (line ++ 10 ∷ []))

-- such a line for a name, with the system's words behind it, if there are any
abbrev pub system_line : List ℕ → Option (List ℕ) → List ℕ
system_line name None = codes "  " ++ (name ++ 10 ∷ [])
system_line name (Some words) = codes "  " ++ ((name ++ (codes ": " ++ words)) ++ 10 ∷ [])

-- the same, whatever the system's words are
abbrev pub IsSystemLine : List ℕ → List ℕ → Type 0
IsSystemLine name text = (words : Option (List ℕ)) × (text ≡ system_line name words)
