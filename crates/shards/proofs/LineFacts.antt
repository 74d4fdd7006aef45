-- Which fault an invalid value of an option is.
use Rattle.std.proofs.Common.{◌≡◌, ◌≢◌, ◌<◌, ◌≤◌, List, [], ◌∷◌, Bor, arith, Option, None, length, inl, inr, ap, sym, subst, codes, Bool, true, false, true≢false}
use Rattle.std.proofs.lemmas.List.{length-map}
use Rattle.clap.specs.Words.{Text, fault_of}
use Rattle.rj_csv_io.specs.Typed.{null_texts}
use Rattle.rj_line.specs.Line.{nulls_or}
use Rattle.rj_line.specs.declared.fault.Fault.{Fault}
use Rattle.rj_line.specs.declared.fault.Fault.TheVariants as fault
use Rattle.rj_line.specs.declared.fault.Side.TheVariants as side
use Rattle.rj_line.specs.Delimiters.{delimiter_given}
use Rattle.rj_settings.specs.Lists.{IsTypeList}
use Rattle.rj_settings.specs.declared.types.entry.TypeEntry.{TypeEntry}
use Rattle.shards.specs.Lines.{GiveTexts, GiveTypes, GivesTypes, IsLineFailure, IsTableFault, IsValueFailure, text_or_none, word_of, words_of}
use Rattle.shards.specs.Options.{OptionWords, line_app}
use Rattle.shards.specs.declared.failure.Failure.{Failure}
use Rattle.shards.specs.declared.failure.Failure.TheVariants as failure

abbrev is_memory : Fault → Bool
is_memory fault.Memory = true
is_memory _ = false

-- what holds of want of memory, and of each other fault, holds of a fault
or_memory : (P : Fault → Type 0) (f : Fault) → P fault.Memory → (f ≢ fault.Memory → P f) → P f
or_memory P fault.Memory memory other = memory
or_memory P f memory other = other (λ is. true≢false (sym (ap is_memory is)))

-- no types are listed in a text
abbrev ListsNone : Text → Type 0
ListsNone text = (types : List TypeEntry) → IsTypeList text types → ⊥

-- an option's value that is a type list
pub gives_types : (word : Option Text) (text : Text) (types : List TypeEntry) → text ≡ text_or_none word → IsTypeList text types → GivesTypes word
gives_types word text types is listed = (types, subst (λ (t : Text). IsTypeList t types) is listed)

-- a list of NULL texts that isn't too long has few texts given
pub few_given : (items : List (Bor Text)) (given : List Text) (null : Text) → null_texts items ≡ nulls_or given null → length items ≤ 4 → length given ≤ 4
few_given items [] null is few = omega arith
few_given items (t ∷ given) null is few =
    let size = length-map items (λ (b : Bor Text). b.now) in
    let same : length (null_texts items) ≡ length (t ∷ given) = ap length is in
    omega (arith, size, same, few)

module _ (word : Text → Option Text) (texts : Text → List Text) where
  pub left_list_fault : (text : Text) (f : Fault) → text ≡ text_or_none (word (codes "left-types"))
      → (f ≢ fault.Memory → (f ≡ fault.BadTypeList side.Left) × ListsNone text) → IsTableFault word texts f
  left_list_fault text f is told = or_memory (IsTableFault word texts) f tt (λ not.
      let t = told not in
      subst (IsTableFault word texts) (sym t.0) (subst ListsNone is t.1))

  pub right_list_fault : (text : Text) (f : Fault) → GivesTypes (word (codes "left-types")) → text ≡ text_or_none (word (codes "right-types"))
      → (f ≢ fault.Memory → (f ≡ fault.BadTypeList side.Right) × ListsNone text) → IsTableFault word texts f
  right_list_fault text f left is told = or_memory (IsTableFault word texts) f tt (λ not.
      let t = told not in
      subst (IsTableFault word texts) (sym t.0) (left, subst ListsNone is t.1))

  pub left_nulls_fault : (f : Fault) → GiveTypes word
      → (f ≢ fault.Memory → (f ≡ fault.TooManyNulls side.Left) × (4 < length (texts (codes "left-null")))) → IsTableFault word texts f
  left_nulls_fault f types told = or_memory (IsTableFault word texts) f tt (λ not.
      let t = told not in
      subst (IsTableFault word texts) (sym t.0) (types, t.1))

  pub right_nulls_fault : (f : Fault) → GiveTypes word → length (texts (codes "left-null")) ≤ 4
      → (f ≢ fault.Memory → (f ≡ fault.TooManyNulls side.Right) × (4 < length (texts (codes "right-null")))) → IsTableFault word texts f
  right_nulls_fault f types few told = or_memory (IsTableFault word texts) f tt (λ not.
      let t = told not in
      subst (IsTableFault word texts) (sym t.0) (types, few, t.1))

  pub left_delimiter_fault : (f : Fault) → GiveTexts word texts → (f ≡ fault.BadDelimiter) × (delimiter_given word (codes "left-delimiter") ≡ None)
      → IsTableFault word texts f
  left_delimiter_fault f given told = subst (IsTableFault word texts) (sym told.0) (given, inl told.1)

  pub right_delimiter_fault : (f : Fault) → GiveTexts word texts → (f ≡ fault.BadDelimiter) × (delimiter_given word (codes "right-delimiter") ≡ None)
      → IsTableFault word texts f
  right_delimiter_fault f given told = subst (IsTableFault word texts) (sym told.0) (given, inr told.1)

-- what holds of the values that a parse found holds of those that the words give
pub by-words : (P : (Text → Option Text) → (Text → List Text) → Type 0) (found word : Text → Option Text) (found_texts texts : Text → List Text)
    → ((name : Text) → found name ≡ word name) → ((name : Text) → found_texts name ≡ texts name) → P found found_texts → P word texts
by-words P found word found_texts texts same alike holds =
    let words : found ≡ word = λ i name. same name i in
    let lists : found_texts ≡ texts = λ i name. alike name i in
    subst (P word) lists (subst (λ w. P w found_texts) words holds)

-- where `clap` has no error to report, a failure of the values is one of the line
pub line-failure : (words : List Text) (h : OptionWords) (e : Failure) → fault_of (line_app h) words ≡ [] → IsValueFailure (word_of h words) (words_of h words) e → IsLineFailure words e
line-failure words h (failure.Told (fault.CommandLine e)) accepted told = absurd told
line-failure words h (failure.Told fault.Memory) accepted told = tt
line-failure words h e accepted told = (h, accepted, told)
