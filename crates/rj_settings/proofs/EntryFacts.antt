-- An entry of a type list is found if and only if it is there.
use Rattle.std.proofs.Common.{◌≡◌, ◌∙◌, ◌++◌, ℕ, List, Option, refl, sym, ap, subst}
use Rattle.rj_columns.specs.declared.cell.ColumnType.{ColumnType}
use Rattle.rj_settings.specs.Lists.{BeginsEntry}
use Rattle.rj_settings.specs.Internal.Scanning.{label_in, or_place}
use Rattle.rj_settings.specs.Words.{BeginsType, before}
use Rattle.rj_settings.specs.declared.types.entry.Label.{Label}
use Rattle.rj_settings.specs.declared.types.entry.TypeEntry.{TypeEntry}
use Rattle.rj_settings.proofs.LabelFacts.{label_complete, label_sound}
use Rattle.rj_settings.proofs.WordFacts.{before_more, one_left}

-- an entry is a label and the word of a type
pub entry_found : (l : Label) (k : ColumnType) (text after : List ℕ) (rest : Option (List ℕ)) → (l, after) ≡ or_place (label_in text) text → BeginsType k after rest
    → BeginsEntry (record { label = l; kind = k }) text rest
entry_found l k text after rest label type =
    let has = label_sound text (l, after) label in (
      has.0 ++ type.0,
      (has.0, type.0, has.1, type.1, refl),
      has.2 ∙ (ap (λ (x : List ℕ). has.0 ++ x) type.2 ∙ sym (before_more has.0 type.0 rest)),
    )

-- what a text begins with is found
abbrev Split : TypeEntry → List ℕ → Option (List ℕ) → Type 0
Split e text rest = (after : List ℕ) × BeginsType e.kind after rest × (or_place (label_in text) text ≡ (e.label, after))

pub entry_split : (e : TypeEntry) (text : List ℕ) (rest : Option (List ℕ)) → BeginsEntry e text rest → Split e text rest
entry_split e text rest begins =
    let entry = begins.1 in
    let whole : text ≡ entry.0 ++ before entry.1 rest =
    begins.2 ∙ (ap (λ (x : List ℕ). before x rest) entry.4 ∙ before_more entry.0 entry.1 rest) in
    (before entry.1 rest, (entry.1, entry.3, refl), label_complete e.label e.kind text entry.0 entry.1 rest entry.2 entry.3 whole)

pub entry_missing : (l : Label) (text after : List ℕ) → (l, after) ≡ or_place (label_in text) text → ((t : ColumnType) (rest : Option (List ℕ)) → BeginsType t after rest → ⊥)
    → (e : TypeEntry) (rest : Option (List ℕ)) → BeginsEntry e text rest → ⊥
entry_missing l text after label none e rest begins =
    let s = entry_split e text rest begins in
    let same : s.0 ≡ after = sym (ap (λ (p : Label × List ℕ). p.1) (label ∙ s.2)) in
    none e.kind rest (subst (λ (x : List ℕ). BeginsType e.kind x rest) same s.1)

-- its label is one, and so is what is left behind it
pub one_entry : (e f : TypeEntry) (text : List ℕ) (r s : Option (List ℕ)) → BeginsEntry e text r → BeginsEntry f text s → (e.label ≡ f.label) × (r ≡ s)
one_entry e f text r s one two =
    let a = entry_split e text r one in
    let b = entry_split f text s two in
    let same : (e.label, a.0) ≡ (f.label, b.0) = sym a.2 ∙ b.2 in (
      ap (λ (p : Label × List ℕ). p.0) same,
      one_left e.kind f.kind b.0 r s (subst (λ (x : List ℕ). BeginsType e.kind x r) (ap (λ (p : Label × List ℕ). p.1) same) a.1) b.1,
    )
