-- The texts of the rows of a joined table, run by run. Internal: no public contract uses it.
use Rattle.std.specs.Prelude.{◌≡◌, ◌<◌, ◌==◌, ℕ, Bool, List, [], All, IfSome, filter, length, map, slice_index_or}
use Rattle.std.specs.List.{concat}
use Rattle.std.specs.declared.alloc.Global.{Global}
use Rattle.std.specs.declared.vec.Vec.{Vec}
use Rattle.rj_columns.specs.Contents.{Content}
use Rattle.rj_columns.specs.Tables.{TableValue}
use Rattle.rj_csv_io.specs.Shown.{rows_text, shown}
use Rattle.rj_engine.specs.Shown.{IsRunWithin, IsShownOf, run_view, shown_view}
use Rattle.rj_engine.specs.declared.runs.Run.{Run}
use Rattle.rj_command.specs.declared.join.texts.Written.{Written}
use Rattle.rj_command.specs.Internal.Ends.{AreEndsOf}

-- texts, one after another
abbrev pub whole_text : Vec (Vec ℕ Global) Global → List ℕ
whole_text v = concat (map (λ (t : Vec ℕ Global). t.items) v.items)

-- the text of rows of cells
abbrev pub cells_text : ℕ → List ℕ → List (List Content) → List ℕ
cells_text d null rows = rows_text d (map (map (shown null)) rows)

-- whether the left rows of a run are in this segment
abbrev pub is_of : ℕ → Run → Bool
is_of segment run = run.segment == segment

-- the text of a run of what is written, by its segment of the left table
abbrev pub run_text : Written → TableValue → Run → List ℕ
run_text w t run = cells_text w.format.delimiter w.format.null.now (run_view w.shown.now t w.right.now w.joined.now.members run).cells

-- the texts of the runs of a segment, in their order
abbrev pub AreRunTexts : Written → TableValue → ℕ → List Run → Vec (Vec (Vec ℕ Global) Global) Global → Type 0
AreRunTexts w t segment runs texts = map whole_text texts.items ≡ map (run_text w t) (filter (is_of segment) runs)

-- the texts of the rows' ends, if there are any, are those of what is written
abbrev pub HasEnds : Written → Type 0
HasEnds w = IfSome w.ends.now (AreEndsOf w.format.delimiter w.format.null.now w.shown.now w.right.now)

-- the runs of a segment are within it, and the texts of ends are those of what is written
abbrev pub AreWithin : Written → TableValue → ℕ → List Run → Type 0
AreWithin w t segment runs =
    HasEnds w × All (λ run. run.segment ≡ segment → IsRunWithin t w.right.now w.joined.now.members w.shown.now run) runs

-- a table of nothing
abbrev pub no_table : TableValue
no_table = record { names = []; types = []; rows = [] }

-- what is written is of the joined table of this left table
abbrev pub AreShownOf : Written → TableValue → Type 0
AreShownOf w left = IsShownOf left w.right.now w.joined.now.members w.shown.now

-- the cells that are written of it
abbrev pub shown_cells : Written → TableValue → List (List Content)
shown_cells w left = (shown_view w.shown.now left w.right.now w.joined.now.members).cells

-- the text of a run, by all segments
abbrev pub text_in : Written → List TableValue → Run → List ℕ
text_in w segments run = run_text w (slice_index_or segments run.segment no_table) run

-- there are these texts for each segment, one for each of its runs, in their order
abbrev pub AreTextsOf : (Run → List ℕ) → List Run → List (Vec (Vec (Vec ℕ Global) Global) Global) → Type 0
AreTextsOf text runs made =
    (k : ℕ) (d : Vec (Vec (Vec ℕ Global) Global) Global) → k < length made → map whole_text (slice_index_or made k d).items ≡ map text (filter (is_of k) runs)

-- there are this many texts for each segment
abbrev pub AreCounted : List Run → List (Vec (Vec (Vec ℕ Global) Global) Global) → Type 0
AreCounted runs made = (k : ℕ) (d : Vec (Vec (Vec ℕ Global) Global) Global) → k < length made → length (slice_index_or made k d).items ≡ length (filter (is_of k) runs)
