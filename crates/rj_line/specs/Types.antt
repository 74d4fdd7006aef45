-- The types of a side's columns, by the value of an option.
use Rattle.std.specs.Prelude.{◌≡◌, ◌&&◌, ◌⊎◌, Bool, true, List, [], Option, Some, None, codes}
use Rattle.clap.specs.Words.{Text}
use Rattle.rj_line.specs.Forms.{is_short}
use Rattle.rj_line.specs.Named.{is_word}
use Rattle.rj_line.specs.declared.form.Form.{Form}
use Rattle.rj_line.specs.declared.form.Form.TheVariants as form
use Rattle.rj_settings.specs.Columns.{is_open, with_shared, with_texts}
use Rattle.rj_settings.specs.Lists.{IsSharedList, IsTypeList}
use Rattle.rj_settings.specs.declared.types.entry.TypeEntry.{TypeEntry}

-- an option's value is a list of these types; only in the short form it may be missing, and then
-- lists none
abbrev pub GivesTypes : Form → Option Text → List TypeEntry → Type 0
GivesTypes f None types = (is_short f ≡ true) × (types ≡ [])
GivesTypes f (Some text) types = IsTypeList text types

-- an option's value isn't a type list
abbrev pub GivesNoTypes : Option Text → Type 0
GivesNoTypes word = (text : Text) × (word ≡ Some text) × ((types : List TypeEntry) → IsTypeList text types → ⊥)

-- in place of a list for both tables, an option's value asks for the types that the cells suggest
abbrev pub is_auto : Option Text → Bool
is_auto word = is_word (codes "auto") word

-- an option's value is a list of these types for both tables; it may be missing, or ask for those that
-- the cells suggest, and then lists none
abbrev pub GivesShared : Option Text → List TypeEntry → Type 0
GivesShared None shared = shared ≡ []
GivesShared (Some text) shared = ((text ≡ codes "auto") × (shared ≡ [])) ⊎ IsSharedList text shared

-- an option's value isn't a type list for both tables
abbrev pub GivesNoShared : Option Text → Type 0
GivesNoShared word = (text : Text) × (word ≡ Some text) × ((types : List TypeEntry) → GivesShared word types → ⊥)

-- columns of which a side's list says nothing have the types of the list for both tables, and in the
-- short form those of which neither does are of texts
abbrev pub completed : Form → List TypeEntry → List TypeEntry → List TypeEntry
completed form.Long shared listed = with_shared listed shared
completed form.Short shared listed = with_texts (with_shared listed shared)

-- the types of a side's columns by those for both tables and by an option's value, and whether the
-- types of those that no entry names aren't declared
pub record AreTypesOf (f : Form) (shared : List TypeEntry) (word : Option Text) (types : List TypeEntry) (undeclared : Bool) : Type 0 where
  pub listed : List TypeEntry
  pub given : GivesTypes f word listed
  pub entries : types ≡ completed f shared listed
  pub marked : undeclared ≡ (is_short f && is_open listed)
