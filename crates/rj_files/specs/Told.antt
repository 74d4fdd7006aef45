-- What an error has beside it, and what is printed of it.
use Rattle.std.specs.Prelude.{ℕ, ◌≡◌, List, [], ◌∷◌, ◌++◌, codes, drop, if◌then◌else◌, nat_eq, Option, None, Some, IfOk, Result, Ok, Err, option_map, string_bytes, unwrap_or}
use Rattle.std.specs.Fmt.{◌++?◌}
use Rattle.std.specs.List.{starts_with}
use Rattle.std.specs.declared.alloc.AllocError.{AllocError}
use Rattle.std.specs.declared.alloc.Global.{Global}
use Rattle.std.specs.declared.string.String.{String}
use Rattle.rj_line.specs.declared.form.Form.{Form}
use Rattle.rj_line.specs.declared.form.Form.TheVariants as form

-- a text, if there is one, or that memory ran out for it
abbrev pub OptionalText : Type 0
OptionalText = Result (Option (String Global)) AllocError

-- it is this one, or none
abbrev pub IsKept : OptionalText → Option (List ℕ) → Type 0
IsKept kept text = IfOk kept (λ o. option_map string_bytes o ≡ text)

-- there is one, of which this holds
abbrev pub IsThere : OptionalText → (List ℕ → Type 0) → Type 0
IsThere (Ok None) holds = ⊥
IsThere (Ok (Some s)) holds = holds (string_bytes s)
IsThere (Err e) holds = Unit {0}

-- what there is of it
abbrev pub kept_text : OptionalText → Option (List ℕ)
kept_text (Ok o) = option_map string_bytes o
kept_text (Err e) = None

-- the file that is told: that of an error, in the short form
abbrev pub told_file : Form → OptionalText → Option (List ℕ)
told_file form.Short file = kept_text file
told_file form.Long file = None

-- the lines that are told
abbrev pub told_lines : OptionalText → List ℕ
told_lines lines = unwrap_or (kept_text lines) []

-- an error's own text, the name of a file behind it, if that is told, and the lines that explain it
abbrev pub told_text : Option (List ℕ) → Option (List ℕ) → List ℕ → Option (List ℕ)
told_text own None lines = own ++? Some (10 ∷ lines)
told_text own (Some file) lines = own ++? Some (32 ∷ file ++ 10 ∷ lines)

-- a text without its first ` left`
abbrev pub without_side : List ℕ → List ℕ
without_side [] = []
without_side (b ∷ line) = if starts_with nat_eq (b ∷ line) (codes " left") then drop 5 (b ∷ line) else b ∷ without_side line
