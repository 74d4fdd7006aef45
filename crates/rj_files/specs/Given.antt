-- The bytes that are joined in place of those that were read.
use Rattle.std.specs.Prelude.{ℕ, ◌≡◌, Bool, true, false, List}
use Rattle.rj_command.specs.Sides.{delimiter_of}
use Rattle.rj_line.specs.declared.fault.Side.{Side}
use Rattle.rj_csv_io.specs.Completed.{IsCompleted}
use Rattle.rj_line.specs.declared.line.Line.{Line}
use Rattle.rj_line.specs.declared.request.Strictness.{Strictness}
use Rattle.rj_line.specs.declared.request.Strictness.TheVariants as strictness

-- texts have to be of RFC 4180's grammar
abbrev pub is_strict : Strictness → Bool
is_strict strictness.Off = false
is_strict strictness.On = true
is_strict strictness.Full = true

-- what stands for the bytes of a side's table: the bytes themselves or, with `--unnamed`, the text
-- under its completed header
abbrev pub IsGiven : Line → Side → List ℕ → List ℕ → Type 0
IsGiven line side bytes given =
    (line.unnamed ≡ false → given ≡ bytes)
    × (line.unnamed ≡ true → (told : List (ℕ × List ℕ)) × IsCompleted (is_strict line.request.strict) (delimiter_of line.request side) bytes given told)
