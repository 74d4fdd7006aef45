-- The delimiters of the tables and of the result, by the values of options.
use Rattle.std.specs.Prelude.{◌≡◌, ◌||◌, ◌&&◌, if◌then◌else◌, ℕ, Bool, [], ◌∷◌, Option, Some, None, codes, is_some}
use Rattle.std.specs.Option.{option_or}
use Rattle.std.specs.Str.{bytes_eq}
use Rattle.clap.specs.Words.{Text}
use Rattle.rj_csv_io.specs.Grammar.{comma, may_delimit}
use Rattle.rj_line.specs.declared.delimiters.Delimiters.{Delimiters}

-- a byte that may delimit is a delimiter
abbrev pub delimiter_at : ℕ → Option ℕ
delimiter_at byte = if may_delimit byte then Some byte else None

-- the only byte of a text
abbrev pub delimiter_in : Text → Option ℕ
delimiter_in [] = None
delimiter_in (byte ∷ []) = delimiter_at byte
delimiter_in (byte ∷ next ∷ rest) = None

abbrev pub is_tab : Text → Bool
is_tab text = bytes_eq text (codes "tab") || bytes_eq text (codes "\\t")

-- the delimiter that a text names: a tab, which is 9, or the text's only byte
abbrev pub delimiter_named : Text → Option ℕ
delimiter_named text = if is_tab text then Some 9 else delimiter_in text

-- the same of an option's value; a comma if it has none
abbrev pub named_or_comma : Option Text → Option ℕ
named_or_comma None = Some comma
named_or_comma (Some text) = delimiter_named text

-- the delimiter of a table or of the result, by the value of its own option, or that of `--delimiter`
-- if it has none
abbrev pub delimiter_given : (Text → Option Text) → Text → Option ℕ
delimiter_given word own = named_or_comma (option_or (word own) (word (codes "delimiter")))

-- there is one for each table and for the result
abbrev pub are_delimiters_given : (Text → Option Text) → Bool
are_delimiters_given word =
    is_some (delimiter_given word (codes "left-delimiter"))
    && (is_some (delimiter_given word (codes "right-delimiter")) && is_some (delimiter_given word (codes "out-delimiter")))

-- the values of the options give these
pub record AreDelimitersOf (word : Text → Option Text) (d : Delimiters) : Type 0 where
  pub left : delimiter_given word (codes "left-delimiter") ≡ Some d.left
  pub right : delimiter_given word (codes "right-delimiter") ≡ Some d.right
  pub out : delimiter_given word (codes "out-delimiter") ≡ Some d.out
