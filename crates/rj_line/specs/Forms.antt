-- The two forms of a command line, and what each asks for where its words don't say.
use Rattle.std.specs.Prelude.{ℕ, Bool, true, false, not, ◌&&◌, ◌||◌, nat_eq, nat_lt, if◌then◌else◌, List, codes}
use Rattle.std.specs.List.{list_any, starts_with}
use Rattle.std.specs.Str.{bytes_eq}
use Rattle.clap.specs.Words.{Text}
use Rattle.rj_settings.specs.declared.choice.Repeated.{Repeated}
use Rattle.rj_settings.specs.declared.choice.Repeated.TheVariants as repeated
use Rattle.rj_line.specs.declared.form.Form.{Form}
use Rattle.rj_line.specs.declared.form.Form.TheVariants as form
use Rattle.rj_line.specs.declared.request.Strictness.{Strictness}
use Rattle.rj_line.specs.declared.request.Strictness.TheVariants as strictness

-- a word is one of the options that only the long form has, alone or with its value
abbrev pub is_of_long : Text → Bool
is_of_long word =
    bytes_eq word (codes "--left") || (bytes_eq word (codes "--right") || (bytes_eq word (codes "--join")
    || (starts_with nat_eq word (codes "--left=") || (starts_with nat_eq word (codes "--right=") || starts_with nat_eq word (codes "--join=")))))

-- a line is of the long form if one of its words is such an option
abbrev pub form_of : List Text → Form
form_of words = if list_any is_of_long words then form.Long else form.Short

-- a worker for each processor, from 1 to 64
abbrev pub workers_for : ℕ → ℕ
workers_for processors = if nat_lt processors 1 then 1 else if nat_lt 64 processors then 64 else processors

abbrev pub default_workers : Form → ℕ → ℕ
default_workers form.Long processors = 1
default_workers form.Short processors = workers_for processors

-- what becomes of names that occur twice
abbrev pub default_repeated : Form → Repeated
default_repeated form.Long = repeated.Kept
default_repeated form.Short = repeated.Qualified

-- how strictly files are read: in the short form they are, unless the line is lenient
abbrev pub default_strictness : Form → Bool → Strictness
default_strictness form.Long lenient = strictness.Off
default_strictness form.Short lenient = if lenient then strictness.Off else strictness.On

-- whether an error is explained where a line doesn't ask for that: in the short form it is, unless
-- the line is terse
abbrev pub default_explain : Form → Bool → Bool
default_explain form.Long terse = false
default_explain form.Short terse = not terse

-- whether an error is explained: not if the line is quiet, and else if it asks for that, or by its
-- form
abbrev pub is_explained : Form → Bool → Bool → Bool → Bool
is_explained f explain terse quiet = not quiet && (explain || default_explain f terse)

-- a word of a line asks for all that explains an error
abbrev pub is_explain_all : Text → Bool
is_explain_all word = bytes_eq word (codes "--explain=all")

-- the option that explains errors takes a word in a line that has it with that word, and nothing in others
abbrev pub explains_by_word : List Text → Bool
explains_by_word words = list_any is_explain_all words

abbrev pub is_short : Form → Bool
is_short form.Long = false
is_short form.Short = true
