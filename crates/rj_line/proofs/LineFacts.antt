-- Which fault of the command line a bad type list is, too many null texts, and what is chosen wrongly.
use Rattle.std.proofs.Common.{◌≡◌, ◌≢◌, ◌∙◌, ◌⊎◌, ◌<◌, ◌≤◌, ◌∷◌, arith, ℕ, Bool, true, false, List, [], length, Option, ap, inl, inr, is_some, refl, sym, subst, true≢false, codes, Bor}
use Rattle.std.specs.Cmp.Derive.{both_true}
use Rattle.std.proofs.lemmas.List.{length-map}
use Rattle.clap.specs.Words.{IsAmong, Text, fault_of, kind_of}
use Rattle.clap.specs.declared.error.Error.{Error}
use Rattle.clap.specs.declared.error.kind.ErrorKind.{ErrorKind}
use Rattle.clap.specs.declared.error.kind.ErrorKind.TheVariants as kind
use Rattle.rj_line.specs.Faults.{clap_fault, fault_by}
use Rattle.rj_line.specs.declared.fault.Fault.{Fault}
use Rattle.rj_line.specs.declared.fault.Fault.TheVariants as fault
use Rattle.rj_line.specs.declared.fault.Side.TheVariants as side
use Rattle.rj_line.specs.Choices.{IsChoiceFault}
use Rattle.rj_line.specs.Delimiters.{AreDelimitersOf}
use Rattle.rj_line.specs.declared.delimiters.Delimiters.{Delimiters}
use Rattle.rj_line.specs.Line.{AreTablesGiven, GiveShared, GiveTypes, IsAskedOf, IsChosenFault, IsFaultIn, IsParseError, IsRequestFault, IsRequestOf, IsValueFault, app_for, null_word, nulls_or, word_of, words_of}
use Rattle.rj_line.specs.Options.{OptionWords}
use Rattle.rj_line.specs.Types.{GivesNoShared, GivesNoTypes, GivesTypes}
use Rattle.rj_line.specs.declared.form.Form.{Form}
use Rattle.rj_line.specs.declared.request.Request.{Request}
use Rattle.rj_settings.specs.declared.types.entry.TypeEntry.{TypeEntry}

abbrev is_memory : Fault → Bool
is_memory fault.Memory = true
is_memory _ = false

-- what holds of want of memory, and of each other fault, holds of a fault
pub or_memory : (P : Fault → Type 0) (f : Fault) → P fault.Memory → (f ≢ fault.Memory → P f) → P f
or_memory P fault.Memory memory other = memory
or_memory P f memory other = other (λ is. true≢false (sym (ap is_memory is)))

-- a fault of the choice is told where these delimiters are given
pub choice_fault : (form : Form) (word : Text → Option Text) (d : Delimiters) (f : Fault) → AreDelimitersOf word d → IsChoiceFault form word f → IsChosenFault form word f
choice_fault form word d fault.Memory given told = tt
choice_fault form word d fault.BadDelimiter given told = absurd told
choice_fault form word d f given told = (both_true (ap is_some given.left) (both_true (ap is_some given.right) (ap is_some given.out)), told)

module _ (form : Form) (word : Text → Option Text) (texts : Text → List Text) where
  pub shared_list_fault : (f : Fault) → (f ≢ fault.Memory → (f ≡ fault.BadSharedTypeList) × GivesNoShared (word (codes "types"))) → IsRequestFault form word texts f
  shared_list_fault f told = or_memory (IsRequestFault form word texts) f tt (λ not.
      let t = told not in
      subst (IsRequestFault form word texts) (sym t.0) t.1)

  pub left_list_fault : (f : Fault) → GiveShared word → (f ≢ fault.Memory → (f ≡ fault.BadTypeList side.Left) × GivesNoTypes (word (codes "left-types")))
      → IsRequestFault form word texts f
  left_list_fault f shared told = or_memory (IsRequestFault form word texts) f tt (λ not.
      let t = told not in
      subst (IsRequestFault form word texts) (sym t.0) (shared, t.1))

  pub right_list_fault : (types : List TypeEntry) (f : Fault) → GiveShared word → GivesTypes form (word (codes "left-types")) types
      → (f ≢ fault.Memory → (f ≡ fault.BadTypeList side.Right) × GivesNoTypes (word (codes "right-types"))) → IsRequestFault form word texts f
  right_list_fault types f shared has told = or_memory (IsRequestFault form word texts) f tt (λ not.
      let t = told not in
      subst (IsRequestFault form word texts) (sym t.0) (shared, (types, has), t.1))

  pub left_nulls_fault : (f : Fault) → GiveTypes form word
      → (f ≢ fault.Memory → (f ≡ fault.TooManyNulls side.Left) × (4 < length (texts (codes "left-null")))) → IsRequestFault form word texts f
  left_nulls_fault f types told = or_memory (IsRequestFault form word texts) f tt (λ not.
      let t = told not in
      subst (IsRequestFault form word texts) (sym t.0) (types, t.1))

  pub right_nulls_fault : (f : Fault) → GiveTypes form word → length (texts (codes "left-null")) ≤ 4
      → (f ≢ fault.Memory → (f ≡ fault.TooManyNulls side.Right) × (4 < length (texts (codes "right-null")))) → IsRequestFault form word texts f
  right_nulls_fault f types few told = or_memory (IsRequestFault form word texts) f tt (λ not.
      let t = told not in
      subst (IsRequestFault form word texts) (sym t.0) (types, few, t.1))

  -- a fault of what is chosen is told where nothing is wrong with the tables
  pub chosen_fault : (f : Fault) → AreTablesGiven form word texts → IsChosenFault form word f → IsRequestFault form word texts f
  chosen_fault fault.Memory given told = tt
  chosen_fault (fault.BadTypeList side) given told = absurd told.1
  chosen_fault fault.BadSharedTypeList given told = absurd told.1
  chosen_fault (fault.TooManyNulls side) given told = absurd told.1
  chosen_fault f given told = (given, told)

  -- a fault of what is asked of the tables is one of the values
  pub asked_fault : (f : Fault) → IsRequestFault form word texts f → IsValueFault form word texts f
  asked_fault fault.QuietTwice told = absurd told.1.1
  asked_fault fault.CountedChoice told = absurd told.1.1
  asked_fault f told = told

-- a table has as many null texts as it is given, or one
pub few_given : (texts : List Text) (null : Text) (count : ℕ) → count ≡ length (nulls_or texts null) → count ≤ 4 → length texts ≤ 4
few_given [] null count is few = omega arith
few_given (t ∷ texts) null count is few = subst (λ n. n ≤ 4) is few

-- where a request is read, what is asked of the tables is given
pub asked_of : (form : Form) (processors : ℕ) (word : Text → Option Text) (texts : Text → List Text) (r : Request) → IsRequestOf form processors word texts r
    → IsAskedOf form word texts
asked_of form processors word texts r is =
    let null = null_word word in
    let lefts : length r.left_nulls.items ≡ length (nulls_or (texts (codes "left-null")) null) =
    sym (length-map r.left_nulls.items (λ (n : Bor Text). n.now)) ∙ ap length is.left_nulls in
    let rights : length r.right_nulls.items ≡ length (nulls_or (texts (codes "right-null")) null) =
    sym (length-map r.right_nulls.items (λ (n : Bor Text). n.now)) ∙ ap length is.right_nulls in (
      (
        ((r.shared_types.items, is.shared_types), (is.left_types.listed, is.left_types.given), (is.right_types.listed, is.right_types.given)),
        few_given _ null _ lefts is.few_nulls.0,
        few_given _ null _ rights is.few_nulls.1,
      ),
      both_true (ap is_some is.left_delimiter) (both_true (ap is_some is.right_delimiter) (ap is_some is.out_delimiter)),
      (r.choice, is.choice),
    )

-- where `clap` has no fault to tell, a fault of the values is one of the line
pub line_fault : (form : Form) (words : List Text) (h : OptionWords) (f : Fault) → fault_of (app_for form h words) words ≡ []
    → IsValueFault form (word_of form h words) (words_of form h words) f → IsFaultIn form words f
line_fault form words h (fault.CommandLine e) accepted told = absurd told.1.1
line_fault form words h fault.Memory accepted told = tt
line_fault form words h f accepted told = (h, accepted, told)

abbrev is_want_of_memory : ErrorKind → Bool
is_want_of_memory kind.OutOfMemory = true
is_want_of_memory _ = false

fault_of_kind : (form : Form) (words : List Text) (e : Error) (k : ErrorKind) → kind_of e ≡ k
    → (k ≡ kind.OutOfMemory) ⊎ ((h : OptionWords) × IsAmong k (fault_of (app_for form h words) words)) → IsFaultIn form words (fault_by k e)
fault_of_kind form words e kind.OutOfMemory is told = tt
fault_of_kind form words e k is (inl memory) = absurd (true≢false (sym (ap is_want_of_memory memory)))
fault_of_kind form words e k is (inr told) = (
  λ memory. true≢false (sym (ap is_want_of_memory memory) ∙ ap is_want_of_memory is),
  (told.0, subst (λ j. IsAmong j (fault_of (app_for form told.0 words) words)) (sym is) told.1),
)

-- the fault that an error of `clap`'s is told as is one of the line
pub clap_line_fault : (form : Form) (words : List Text) (e : Error) → IsParseError form words e → IsFaultIn form words (clap_fault e)
clap_line_fault form words e told = fault_of_kind form words e (kind_of e) refl told
