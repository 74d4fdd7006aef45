-- Where a check is after bytes that have neither an error nor an empty line, whatever the header
-- is. Internal: no public contract uses it.
use Rattle.std.specs.Prelude.{ℕ, ◌==◌, ◌&&◌, ◌||◌, not, if◌then◌else◌, Bool, true, false, List, [], ◌∷◌, Option, Some, None, option_and_then, IfSome, slice_index_or, ◌<◌, ◌≡◌, length}
use Rattle.rj_csv_io.specs.Grammar.{dquote, cr, lf}
use Rattle.rj_csv_io.specs.declared.strict.standing.Place.{Place}
use Rattle.rj_csv_io.specs.declared.strict.standing.Place.TheVariants as place

-- a choice by a byte: LF, CR, a quote, the delimiter and TEXTDATA
abbrev pub by_byte : {X : Type 0} → ℕ → ℕ → X → X → X → X → X → X
by_byte d c n r q k x = if c == lf then n else if c == cr then r else if c == dquote then q else if c == d then k else x

abbrev pub walk_byte : ℕ → Place → ℕ → Option Place
walk_byte d place.Start c = by_byte d c None None (Some place.Open) (Some place.Fresh) (Some place.Inside)
walk_byte d place.Fresh c = by_byte d c (Some place.Start) (Some place.Return) (Some place.Open) (Some place.Fresh) (Some place.Inside)
walk_byte d place.Inside c = by_byte d c (Some place.Start) (Some place.Return) None (Some place.Fresh) (Some place.Inside)
walk_byte d place.Open c = by_byte d c (Some place.Open) (Some place.Open) (Some place.Closed) (Some place.Open) (Some place.Open)
walk_byte d place.Closed c = by_byte d c (Some place.Start) (Some place.Return) (Some place.Open) (Some place.Fresh) None
walk_byte d place.Blank c = None
walk_byte d place.Return c = by_byte d c (Some place.Start) None None None None

-- the place after a quote
abbrev pub over_quote : Place → Option Place
over_quote place.Start = Some place.Open
over_quote place.Fresh = Some place.Open
over_quote place.Inside = None
over_quote place.Open = Some place.Closed
over_quote place.Closed = Some place.Open
over_quote place.Blank = None
over_quote place.Return = None

-- the place after bytes
unfoldable pub walk : ℕ → Place → List ℕ → Option Place
walk d p [] = Some p
walk d p (c ∷ text) = option_and_then (λ q. walk d q text) (walk_byte d p c)

-- the place after a byte that is no quote, outside quotes
abbrev pub place_after : ℕ → ℕ → Place
place_after d c = if c == lf then place.Start else if c == cr then place.Return else if c == d then place.Fresh else place.Inside

-- a byte may not follow another outside quotes: a quote, an empty line, and a CR with no LF
abbrev pub may_not_follow : ℕ → ℕ → Bool
may_not_follow before c = (c == dquote) || ((before == lf) && ((c == lf) || (c == cr))) || ((before == cr) && not (c == lf))

-- each of these bytes may follow the one before it
unfoldable pub all_follow : ℕ → List ℕ → Bool
all_follow before [] = true
all_follow before (c ∷ text) = not (may_not_follow before c) && all_follow c text

-- a text may end there
abbrev pub may_end : Bool → Place → Bool
may_end full place.Start = true
may_end full place.Fresh = not full
may_end full place.Inside = not full
may_end full place.Open = false
may_end full place.Closed = not full
may_end full place.Blank = false
may_end full place.Return = false

-- each of these is the place after its text alone, where it is seen to have neither an error nor an empty line
abbrev pub AreWalked : ℕ → List (List ℕ) → List (Option Place) → Type 0
AreWalked d texts places = (i : ℕ) (none : Option Place) → i < length texts
    → IfSome (slice_index_or places i none) (λ p. walk d place.Start (slice_index_or texts i []) ≡ Some p)
