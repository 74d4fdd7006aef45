-- What the words of a command line ask for: explanations of its error, or suggested types.
use Rattle.std.specs.Prelude.{ℕ, ◌||◌, Bool, List, [], ◌∷◌, ◌++◌, codes, if◌then◌else◌, nat_eq, not, None, Option, Some}
use Rattle.std.specs.List.{list_any, starts_with, take_while}
use Rattle.std.specs.Str.{bytes_eq}
use Rattle.rj_line.specs.Forms.{form_of, is_explained}
use Rattle.rj_files.specs.declared.asking.Asking.{Asking}
use Rattle.rj_files.specs.declared.asking.Asking.TheVariants as asking

-- the words that may be options: those before `--`
abbrev pub options_in : List (List ℕ) → List (List ℕ)
options_in words = take_while (λ w. not (bytes_eq w (codes "--"))) words

-- one of the words is this one
abbrev pub has_word : List (List ℕ) → List ℕ → Bool
has_word words sought = list_any (λ w. bytes_eq w sought) words

-- the letters of options, and those of help and of the version
abbrev pub letters : List ℕ
letters = codes "dwoqhV"

-- a word asks for nothing but the line of an error: by the option's name, or by its letter, alone or
-- before another letter
abbrev pub is_quiet : List ℕ → Bool
is_quiet word =
    bytes_eq word (codes "--quiet") || (bytes_eq word (codes "-q") || list_any (λ letter. starts_with nat_eq word (codes "-q" ++ letter ∷ [])) letters)

abbrev pub are_quiet : List (List ℕ) → Bool
are_quiet words = list_any is_quiet words

-- the words ask for explanations: by their form and the words that may be options
abbrev pub ask_for_lines : List (List ℕ) → Bool
ask_for_lines words =
    is_explained (form_of words) (has_word (options_in words) (codes "--explain") || has_word (options_in words) (codes "--explain=all"))
    (has_word (options_in words) (codes "--terse")) (are_quiet (options_in words))

-- one of the words begins so
abbrev pub has_start : List (List ℕ) → List ℕ → Bool
has_start words start = list_any (λ w. starts_with nat_eq w start) words

-- how the words that may be options ask for suggested types, if they do
abbrev pub asking_in : List (List ℕ) → Option Asking
asking_in words =
    if has_word words (codes "--suggest-types") then Some asking.Apart
    else if has_start words (codes "--suggest-types=") then Some asking.WithFile else None

abbrev pub asking_of : List (List ℕ) → Option Asking
asking_of words = asking_in (options_in words)
