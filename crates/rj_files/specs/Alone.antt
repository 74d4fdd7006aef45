-- The lines for an error of the only file of `--suggest-types`.
use Rattle.std.specs.Prelude.{ℕ, ◌≡◌, ◌⊎◌, List, None, Ok, Option}
use Rattle.rj_explain.specs.Explained.{IsExplainedAlone, file_of_texts}
use Rattle.rj_line.specs.declared.fault.Fault.{Fault}
use Rattle.rj_line.specs.declared.fault.Fault.TheVariants as fault
use Rattle.rj_line.specs.declared.fault.Side.TheVariants as side
use Rattle.rj_line.specs.declared.request.Strictness.{Strictness}
use Rattle.rj_files.specs.Streams.{AreBytesOf, IsUnread}
use Rattle.rj_files.specs.Texts.{IsIndented}
use Rattle.rj_files.specs.Told.{IsThere, OptionalText}

-- there is one that explains its stream if the file can't be read, and none if memory ran out
abbrev pub IsUnreadTold : (List ℕ → Type 0) → Fault → OptionalText → Type 0
IsUnreadTold explains (fault.ReadDevice s) lines = IsThere lines (λ text. IsIndented text × explains text)
IsUnreadTold explains f lines = lines ≡ Ok None

-- those are for a file that can't be read, or else for an error of its bytes, read by a delimiter and
-- as strictly as this
abbrev pub AreLinesAlone : Strictness → ℕ → Option (List ℕ) → (List ℕ → Type 0) → Fault → OptionalText → Type 0
AreLinesAlone strict d told explains f lines =
    (IsUnread side.Left f × IsUnreadTold explains f lines)
    ⊎ ((bytes : List ℕ) × AreBytesOf told bytes × IsThere lines (IsExplainedAlone f (file_of_texts d strict bytes)))
