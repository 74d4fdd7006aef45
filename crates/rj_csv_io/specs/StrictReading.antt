-- What the library csv reads from a text: it reads no record from an empty line.
use Rattle.std.specs.Prelude.{ℕ, ◌==◌, ◌||◌, not, Bool, false, if◌then◌else◌, List, [], ◌∷◌, map, filter}
use Rattle.csv.specs.Reading.{default_config, is_bom, strip_bom}
use Rattle.csv.specs.declared.parser.Config.{Config}
use Rattle.rj_csv_io.specs.Grammar.{Line, File, cr, lf, escaped, is_blank}
use Rattle.rj_csv_io.specs.declared.strict.header.HeaderPlace.{HeaderPlace}
use Rattle.rj_csv_io.specs.declared.strict.header.HeaderPlace.TheVariants.{First, Above}
use Rattle.rj_csv_io.specs.declared.strict.standing.Place.{Place}
use Rattle.rj_csv_io.specs.declared.strict.standing.Place.TheVariants as place

-- how the library reads with this delimiter
abbrev pub config_of : ℕ → Config
config_of d = record default_config { delimiter = d }

-- a text that begins with the header may begin with a byte order mark, which is no part of the file
abbrev pub body_of : HeaderPlace → List ℕ → List ℕ
body_of First text = strip_bom text
body_of (Above names) text = text

-- a text that begins with a byte order mark
unfoldable pub has_mark : List ℕ → Bool
has_mark [] = false
has_mark (a ∷ []) = false
has_mark (a ∷ b ∷ []) = false
has_mark (a ∷ b ∷ c ∷ rest) = is_bom a b c

-- a file without its empty lines
abbrev pub without_empty : File → File
without_empty file = record { lines = filter (λ l. not (is_blank l.fields)) file.lines; rest = file.rest }

-- an empty line with an escaped field of no bytes in it, as csv writes a record of one empty field
abbrev pub quoted_line : Line → Line
quoted_line l = if is_blank l.fields then record { fields = record { before = []; last = escaped [] }; ended = l.ended } else l

abbrev pub quoted : File → File
quoted file = record { lines = map quoted_line file.lines; rest = file.rest }

-- the byte begins an empty line at the check's place
abbrev pub begins_empty : Place → ℕ → Bool
begins_empty place.Start c = (c == lf) || (c == cr)
begins_empty place.Fresh c = false
begins_empty place.Inside c = false
begins_empty place.Open c = false
begins_empty place.Closed c = false
begins_empty place.Blank c = false
begins_empty place.Return c = false
