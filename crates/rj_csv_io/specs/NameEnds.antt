-- Where the first record of a text ends.
use Rattle.std.specs.Prelude.{ℕ, ◌≡◌, ◌-◌, if◌then◌else◌, true, false, List, [], ◌∷◌, length, take, Option, Some, None}
use Rattle.csv.specs.Machine.{is_end, step}
use Rattle.csv.specs.declared.parser.Action.{Action}
use Rattle.csv.specs.declared.parser.Config.{Config}
use Rattle.csv.specs.declared.parser.State.{State}
use Rattle.csv.specs.declared.parser.State.TheVariants as st
use Rattle.rj_csv_io.specs.StrictReading.{config_of}
use Rattle.rj_csv_io.specs.declared.names.line_end.Place.{Place}
use Rattle.rj_csv_io.specs.declared.names.line_end.Place.TheVariants as place

-- what is left of a text, from the line end of the record that csv's machine is in
unfoldable pub from_end : Config → State → List ℕ → List ℕ
from_end cfg s [] = []
from_end cfg s (c ∷ text) = if is_end (step cfg s c).1 then c ∷ text else from_end cfg (step cfg s c).0 text

-- what is left of a text from the line end of its first record: nothing, if that has none
abbrev pub behind_first : ℕ → List ℕ → List ℕ
behind_first d text = from_end (config_of d) st.StartRecord text

-- what is before it
abbrev pub first_text : ℕ → List ℕ → List ℕ
first_text d text = take (length text - length (behind_first d text)) text

abbrev pub state_of : Place → State
state_of place.Start = st.StartRecord
state_of place.Fresh = st.StartField
state_of place.Inside = st.InField
state_of place.Open = st.InQuoted
state_of place.Closed = st.AfterQuote

-- a byte ends the record, or the machine is at this place behind it
abbrev pub GoesTo : State × Action → Option Place → Type 0
GoesTo p None = is_end p.1 ≡ true
GoesTo p (Some q) = (is_end p.1 ≡ false) × (p.0 ≡ state_of q)
