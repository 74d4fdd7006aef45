-- Words that name things, and flags.
use Rattle.std.specs.Prelude.{◌≡◌, Bool, false, Option, Some, None, codes}
use Rattle.std.specs.Str.{bytes_eq}
use Rattle.clap.specs.Words.{Text}

-- what an option's value names, or another one if it has none
abbrev pub IsNamedOr : {X : Type 0} → (X → Text) → X → Option Text → X → Type 0
IsNamedOr name other None x = x ≡ other
IsNamedOr name other (Some text) x = text ≡ name x

-- an option's value, if it has one, is the name of something
abbrev pub IsNameOf : {X : Type 0} → (X → Text) → Option Text → Type 0
IsNameOf name None = Unit {0}
IsNameOf {X} name (Some text) = (x : X) × (text ≡ name x)

-- an option's value is this word
abbrev pub is_word : Text → Option Text → Bool
is_word word None = false
is_word word (Some text) = bytes_eq text word

-- a flag's value is `true` if it is given
abbrev pub is_true : Option Text → Bool
is_true word = is_word (codes "true") word
