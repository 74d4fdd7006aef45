-- The header of a text: what is read of it, where the first range of rows begins, and why none is read.
use Rattle.std.specs.Prelude.{ℕ, ◌≡◌, ◌≢◌, ◌+◌, ◌-◌, ◌<◌, ◌≤◌, ◌^◌, ◌⊎◌, ◌++◌, ◌==◌, not, if◌then◌else◌, Bool, true, false, List, [], ◌∷◌, fold, length, take, slice_index, Option, IfSome}
use Rattle.csv.specs.Reading.{records, strip_bom}
use Rattle.rj_command.specs.Sides.{strict_fault}
use Rattle.rj_csv_io.specs.Pieces.{names_in}
use Rattle.rj_line.specs.declared.fault.Fault.{Fault}
use Rattle.rj_line.specs.declared.fault.Fault.TheVariants as fault
use Rattle.rj_line.specs.declared.fault.Side.{Side}
use Rattle.rj_line.specs.declared.request.Strictness.{Strictness}
use Rattle.rj_line.specs.declared.request.Strictness.TheVariants as strictness
use Rattle.rj_csv_io.specs.StrictFaults.{HasFault}
use Rattle.rj_csv_io.specs.Grammar.{Derives, File, dquote, lf, records_of}
use Rattle.rj_csv_io.specs.StrictReading.{config_of}
use Rattle.rj_csv_io.specs.declared.strict.fault.StrictFault.{StrictFault}
use Rattle.rj_csv_io.specs.declared.strict.header.HeaderPlace.TheVariants.{First}
use Rattle.shards.specs.declared.head.Head.{Head}

-- a quote is open behind these bytes: each one opens or closes
abbrev pub is_open : List ℕ → Bool
is_open bytes = fold (λ opened c. if c == dquote then not opened else opened) false bytes

-- at this place a line feed is outside quotes
pub record IsFeed (text : List ℕ) (at : ℕ) : Type 0 where
  pub within : at < length text
  pub feed : slice_index text at ≡ lf
  pub outside : is_open (take at text) ≡ false

-- no such line feed is before this place
abbrev pub HasNoFeed : List ℕ → ℕ → Type 0
HasNoFeed text end = (at : ℕ) → at < end → IsFeed text at → ⊥

-- the length of a text's first line, with its line feed, or that of the text if it has no line feed
-- outside quotes
abbrev pub IsFirstLine : List ℕ → ℕ → Type 0
IsFirstLine text n = ((at : ℕ) × IsFeed text at × HasNoFeed text at × (n ≡ at + 1)) ⊎ (HasNoFeed text (length text) × (n ≡ length text))

-- how long a text's byte order mark is: 3 bytes, or 0 without one
abbrev pub mark_length : List ℕ → ℕ
mark_length text = length text - length (strip_bom text)

-- read leniently: the first record that csv finds, at which the first range begins
pub record IsFirstRecord (d : ℕ) (text : List ℕ) (h : Head) : Type 0 where
  pub rest : List (List (List ℕ))
  pub names : records (config_of d) (strip_bom text) ≡ names_in h.header ∷ rest
  pub begin : h.begin ≡ mark_length text

-- read strictly: the first record of the first line's derivation; the first range begins behind the line
pub record IsOfFirstLine (full : Bool) (d : ℕ) (text : List ℕ) (h : Head) : Type 0 where
  pub line : ℕ
  pub first : IsFirstLine (strip_bom text) line
  pub file : File
  pub derived : Derives d First full (take line (strip_bom text)) file
  pub rest : List (List (List ℕ))
  pub names : records_of file ≡ names_in h.header ∷ rest
  pub begin : h.begin ≡ mark_length text + line

-- the header of a text, read as strictly as this
abbrev pub IsHeadOf : Strictness → ℕ → List ℕ → Head → Type 0
IsHeadOf strictness.Off d text h = IsFirstRecord d text h
IsHeadOf strictness.On d text h = IsOfFirstLine false d text h
IsHeadOf strictness.Full d text h = IsOfFirstLine true d text h

-- why there is none: the first line isn't of the grammar; or it has no record
pub data HasNoLine (full : Bool) (d : ℕ) (s : Side) (text : List ℕ) : Fault → Type 0 where
  broken : (n : ℕ) (f : StrictFault) → IsFirstLine (strip_bom text) n → HasFault d First full (take n (strip_bom text)) f
      → HasNoLine full d s text (strict_fault s f)
  blank : (n : ℕ) (file : File) → IsFirstLine (strip_bom text) n → Derives d First full (take n (strip_bom text)) file → records_of file ≡ []
      → HasNoLine full d s text (fault.NoHeader s)

-- or csv finds no record
abbrev pub HasNoHead : Strictness → ℕ → Side → List ℕ → Fault → Type 0
HasNoHead strictness.Off d s text f = (f ≡ fault.NoHeader s) × (records (config_of d) (strip_bom text) ≡ [])
HasNoHead strictness.On d s text f = HasNoLine false d s text f
HasNoHead strictness.Full d s text f = HasNoLine true d s text f

-- or the device failed, or memory ran out
abbrev pub IsHeadFault : Strictness → ℕ → Side → List ℕ → Fault → Type 0
IsHeadFault how d s text f = (f ≢ fault.Memory) → (f ≢ fault.ReadDevice s) → HasNoHead how d s text f

-- a text that continues as these bytes and more: it has no more if they are whole, and else they
-- are more than a byte order mark
abbrev pub Continues : Bool → List ℕ → List ℕ → Type 0
Continues true bytes more = more ≡ []
Continues false bytes more = 3 ≤ length bytes

-- this is the text of a device, if it tells any
abbrev pub IsTold : Option (List ℕ) → List ℕ → Type 0
IsTold tells text = IfSome tells (λ t. t ≡ text)

-- a header of some text, which is that of the device if it tells any
abbrev pub HasHead : Strictness → ℕ → Option (List ℕ) → Head → Type 0
HasHead how d tells h = (text : List ℕ) × IsTold tells text × IsHeadOf how d text h

-- why there is none in some text
abbrev pub HasHeadFault : Strictness → ℕ → Side → Option (List ℕ) → Fault → Type 0
HasHeadFault how d s tells f = (text : List ℕ) × IsTold tells text × IsHeadFault how d s text f

-- bytes are the first ones of a text, if it is told: a mebibyte or more, or else all of them
abbrev pub Begins : Option (List ℕ) → List ℕ → Type 0
Begins tells bytes = IfSome tells (λ text. (more : List ℕ) × (text ≡ bytes ++ more) × (length bytes < 2 ^ 20 → more ≡ []))
