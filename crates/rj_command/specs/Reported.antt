-- The lines of a report.
use Rattle.std.specs.Prelude.{ℕ, ◌≡◌, Bool, true, false, List, [], ◌∷◌, ◌++◌, map, codes, decimal, Option, None, Some, slice_index_or, string_bytes}
use Rattle.std.specs.List.{flat_map}
use Rattle.std.specs.declared.alloc.Global.{Global}
use Rattle.std.specs.declared.string.String.{String}
use Rattle.rj_columns.specs.Tables.{TableValue, cell_of}
use Rattle.rj_condition.specs.Joins.{kind_of_join}
use Rattle.rj_condition.specs.Splits.{keys_of}
use Rattle.rj_condition.specs.declared.bound.BoundJoin.{BoundJoin}
use Rattle.rj_condition.specs.declared.tree.JoinKind.{JoinKind}
use Rattle.rj_condition.specs.declared.tree.JoinKind.TheVariants as kind
use Rattle.rj_csv_io.specs.Shown.{shown}
use Rattle.rj_engine.specs.Reports.{IsReport}
use Rattle.rj_engine.specs.declared.groups.Group.{Group}
use Rattle.rj_engine.specs.declared.groups.KeyReport.{KeyReport}
use Rattle.rj_engine.specs.declared.reporting.JoinReport.{JoinReport}
use Rattle.rj_line.specs.Shown as texts
use Rattle.rj_line.specs.declared.request.Request.{Request}

-- the lines of the rows and the matches
abbrev pub counts_text : JoinReport → List ℕ
counts_text x =
    codes "rows left " ++ (decimal x.left_rows ++ (codes " right " ++ (decimal x.right_rows ++ (10 ∷ (codes "pairs " ++ (decimal x.pairs
    ++ (codes " lone-left " ++ (decimal x.lone_left ++ (codes " lone-right " ++ decimal x.lone_right)))))))))

-- the lines of NULL and of repeated keys
abbrev pub spread_text : KeyReport → List ℕ
spread_text k =
    10 ∷ (codes "null-keys left " ++ (decimal k.left_nulls ++ (codes " right " ++ (decimal k.right_nulls ++ (10 ∷ (codes "repeated-keys left "
    ++ (decimal k.left_repeated ++ (codes " right " ++ decimal k.right_repeated))))))))

-- the name of a column and its cell at a row, as they are shown
abbrev pub cell_part : TableValue → ℕ → ℕ → List ℕ
cell_part t row c = codes ", " ++ (texts.shown (slice_index_or t.names c []) ++ (codes " = " ++ texts.shown (shown [] (cell_of t row c))))

-- the line of the largest group: its counts, and its key as the left table has it
abbrev pub largest_text : BoundJoin → TableValue → Option Group → List ℕ
largest_text join l None = 10 ∷ codes "largest-key none"
largest_text join l (Some g) =
    (10 ∷ (codes "largest-key left " ++ (decimal g.left ++ (codes " right " ++ decimal g.right))))
    ++ flat_map (λ c. cell_part l g.row c) (map (λ k. k.0) (keys_of join))

-- the lines of keys; none if a join has no keys
abbrev pub keys_text : BoundJoin → TableValue → Option KeyReport → List ℕ
keys_text join l None = []
keys_text join l (Some k) = spread_text k ++ largest_text join l k.largest

-- what the short form says behind the matches of the unmatched rows that a join of this type doesn't
-- keep
abbrev pub kept_note : Bool → JoinKind → List ℕ
kept_note false k = []
kept_note true kind.Inner = codes " (lone rows not kept)"
kept_note true kind.Left = codes " (lone-right not kept)"
kept_note true kind.Right = codes " (lone-left not kept)"
kept_note true kind.Full = []

-- all lines in the short or the long form, without the last line end
abbrev pub report_text : Bool → BoundJoin → TableValue → JoinReport → List ℕ
report_text short join l x = (counts_text x ++ kept_note short (kind_of_join join)) ++ keys_text join l x.keys

-- the text is the report of a join of two tables
abbrev pub IsReportText : Bool → BoundJoin → TableValue → TableValue → List ℕ → Type 0
IsReportText short join l r text = (x : JoinReport) × IsReport join l r x × (text ≡ report_text short join l x)

-- there is a report exactly if one is asked for, and it is that of the join
abbrev pub IsReported : Request → BoundJoin → TableValue → TableValue → Option (String Global) → Type 0
IsReported q join l r None = q.report ≡ false
IsReported q join l r (Some text) = (q.report ≡ true) × IsReportText q.short join l r (string_bytes text)
