-- What a join of two files takes in memory, as far as that is known when memory has run out.
use Rattle.std.specs.Prelude.{ℕ, ◌≡◌, ◌≢◌, ◌⊎◌, ◌+◌, ◌*◌, ◌/◌, ◌==◌, ◌&&◌, Bool, true, false, nat_lt, if◌then◌else◌, List, [], ◌∷◌, ◌++◌, codes, decimal, length, Option, None, Some}
use Rattle.rj_command.specs.Operands.{AreOperands, IsFirstFault}
use Rattle.rj_command.specs.Sizes.{AreKnown, AreSizes}
use Rattle.rj_command.specs.declared.join.operands.Operands.{Operands}
use Rattle.rj_command.specs.declared.join.sizes.Sizes.{Sizes}
use Rattle.rj_command.specs.declared.join.unwritten.Known.{Known}
use Rattle.rj_engine.specs.declared.counts.Counts.{Counts}
use Rattle.rj_explain.specs.declared.inputs.Inputs.{Inputs}
use Rattle.rj_line.specs.declared.fault.Fault.{Fault}
use Rattle.rj_line.specs.declared.fault.Fault.TheVariants as fault
use Rattle.rj_line.specs.declared.request.Request.{Request}
use Rattle.rj_files.specs.Shares.{bounded}
use Rattle.rj_files.specs.declared.memory.FileSizes.{FileSizes}

-- how many bytes the two files have
abbrev pub sizes_of : Inputs → FileSizes
sizes_of inputs = record { left = length inputs.left.now; right = length inputs.right.now }

-- a number of bytes, in whole kB or MB if it is large
abbrev pub size_text : ℕ → List ℕ
size_text n =
    if nat_lt n 10000 then decimal n ++ codes " bytes"
    else (if nat_lt n 10000000 then decimal (n / 1000) ++ codes " kB"
    else decimal (n / 1000000) ++ codes " MB")

-- the line for the files and their tables
abbrev pub files_text : FileSizes → List ℕ
files_text files = codes "  the files have " ++ (size_text files.left ++ (codes " and " ++ (size_text files.right
    ++ (codes ", and their tables take about as much again" ++ 10 ∷ []))))

-- the line if memory ran out once more, when the members of the joined table were counted, and the
-- tables read again before, if they weren't there any more
abbrev pub tables_text : List ℕ
tables_text = codes "  it ran out once more when these were looked at again: the likely cause is the tables" ++ 10 ∷ []

-- the mean length of a file's rows
abbrev pub mean_length : ℕ → ℕ → ℕ
mean_length bytes rows = if rows == 0 then 0 else bytes / rows

-- the number of members of a kind, if these are written
abbrev pub count_if : Bool → ℕ → ℕ
count_if is_written n = if is_written then n else 0

-- about how many bytes the text of these members has from one file, whose rows have this length
abbrev pub part_bytes : ℕ → ℕ → ℕ → ℕ
part_bytes pairs lone mean = bounded (bounded (pairs + lone) * mean)

abbrev pub left_bytes : Request → FileSizes → Sizes → Counts → ℕ
left_bytes q files s c = part_bytes (count_if q.choice.rows.pairs c.pairs) (count_if q.choice.rows.lone_left c.lone_left) (mean_length files.left s.left_rows)

abbrev pub right_bytes : Request → FileSizes → Sizes → Counts → ℕ
right_bytes q files s c = part_bytes (count_if q.choice.rows.pairs c.pairs) (count_if q.choice.rows.lone_right c.lone_right) (mean_length files.right s.right_rows)

-- about how many bytes the text has of what is written, with all columns; matched left rows are at
-- most the left file
abbrev pub text_bytes : Request → FileSizes → Sizes → Counts → ℕ
text_bytes q files s c = bounded (bounded (count_if q.choice.rows.matched_left files.left + left_bytes q files s c) + right_bytes q files s c)

-- a list of matches has 8 bytes for each
abbrev pub match_bytes : Counts → ℕ
match_bytes c = bounded (c.pairs * 8)

-- what is largest of the tables, the matches and the text
abbrev pub likely_cause : ℕ → ℕ → ℕ → List ℕ
likely_cause tables matches text =
    if nat_lt tables text && nat_lt matches text then codes "the text of the result"
    else (if nat_lt tables matches then codes "the matches"
    else codes "the tables, or the stacks of too many --workers")

-- of a joined table with these members
abbrev pub cause_of : Request → FileSizes → Sizes → Counts → List ℕ
cause_of q files s c = likely_cause (bounded (files.left + files.right)) (match_bytes c) (text_bytes q files s c)

abbrev pub rows_of : Counts → ℕ
rows_of c = bounded (bounded (c.pairs + c.lone_left) + c.lone_right)

-- the lines for so many rows, by the bytes of their matches and of their text, and the likely cause
unfoldable pub joined_text : ℕ → ℕ → ℕ → List ℕ → List ℕ
joined_text rows matches text cause = codes "  the joined table has " ++ (decimal rows ++ (codes " rows, and its matches take " ++ (size_text matches
    ++ (10 ∷ [] ++ (codes "  the text of what is written takes about " ++ (size_text text ++ (codes ", if it has all columns"
    ++ (10 ∷ [] ++ (codes "  so the likely cause is " ++ (cause ++ 10 ∷ []))))))))))

abbrev pub members_text : Request → FileSizes → Sizes → Counts → List ℕ
members_text q files s c = joined_text (rows_of c) (match_bytes c) (text_bytes q files s c) (cause_of q files s c)

-- the line for one whose members aren't known before it is made
abbrev pub unknown_text : FileSizes → Sizes → List ℕ
unknown_text files s =
    codes "  how many rows match isn't known before the join, since the clause has more than equalities" ++ (10 ∷ [] ++ (codes "  each match takes 8 bytes, and about "
    ++ (decimal (bounded (mean_length files.left s.left_rows + mean_length files.right s.right_rows)) ++ (codes " bytes of text" ++ 10 ∷ []))))

-- the lines for either
abbrev pub told_of : Request → FileSizes → Sizes → Option Counts → List ℕ
told_of q files s None = unknown_text files s
told_of q files s (Some c) = members_text q files s c

abbrev pub sizes_text : Request → FileSizes → Sizes → List ℕ
sizes_text q files s = told_of q files s s.members

-- What is told beside the files: that memory ran out once more; nothing, if the tables or the
-- clause have another error; or the sizes of the tables and of their joined table.
abbrev pub IsMoreTold : Inputs → List ℕ → Type 0
IsMoreTold inputs more =
    (more ≡ tables_text)
    ⊎ (((f : Fault) × (f ≢ fault.Memory) × IsFirstFault false inputs.left.now inputs.right.now inputs.request.now f × (more ≡ []))
    ⊎ ((s : Sizes) × AreSizes inputs.left.now inputs.right.now inputs.request.now s × (more ≡ sizes_text inputs.request.now (sizes_of inputs) s)))

-- the lines behind its own, when two files were joined, or the rows of their joined table counted
abbrev pub IsMemoryTold : Bool → Inputs → List ℕ → Type 0
IsMemoryTold count inputs text =
    ((count ≡ true) × (text ≡ files_text (sizes_of inputs)))
    ⊎ ((count ≡ false) × ((more : List ℕ) × IsMoreTold inputs more × (text ≡ files_text (sizes_of inputs) ++ more)))

-- this is known of the tables of two files
abbrev pub AreFilesOf : Inputs → Known → Type 0
AreFilesOf inputs k =
    (o : Operands) × AreOperands inputs.left.now inputs.right.now inputs.request.now o.left o.right o.join × AreKnown o k
