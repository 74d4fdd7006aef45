-- What a run has to do with terminals.
use Rattle.std.specs.Prelude.{ℕ, ◌&&◌, Bool, not, is_some, if◌then◌else◌, List, Option, None}
use Rattle.rj_line.specs.declared.fault.Side.{Side}
use Rattle.rj_files.specs.Outputs.{file_of, input_side}
use Rattle.rj_files.specs.declared.progress.Terminals.{Terminals}

-- the rows that are written go to one: standard output is one, and the line names no file
abbrev pub shares_terminal : Terminals → Option (List ℕ) → Bool
shares_terminal t output = t.output && not (is_some (file_of output))

-- the side of a line whose table is typed by hand: standard input, if that is one
abbrev pub side_by_hand : Terminals → List ℕ → List ℕ → Option Side
side_by_hand t left right = if t.input then input_side left right else None

-- progress is shown at all: standard error is a terminal, and the line isn't quiet
abbrev pub is_shown : Terminals → Bool → Bool
is_shown t quiet = t.error && not quiet
