-- The letters of the options of a command line.
use Rattle.std.proofs.Common.{◌≡◌, ◌++◌, Bool, true, false, codes, refl}
use Rattle.std.specs.List.{filter_map}
use Rattle.rj_line.specs.Options.{OptionWords, option_rules}
use Rattle.rj_line.specs.declared.form.Form.{Form}
use Rattle.rj_line.specs.declared.form.Form.TheVariants as form
use Rattle.rj_files.specs.Asking.{letters}

pub option-letters : (f : Form) (by_word : Bool) (words : OptionWords) → filter_map (λ r. r.short) (option_rules f by_word words) ++ codes "hV" ≡ letters
option-letters form.Long true words = refl
option-letters form.Long false words = refl
option-letters form.Short true words = refl
option-letters form.Short false words = refl
