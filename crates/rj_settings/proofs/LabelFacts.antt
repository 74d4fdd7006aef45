-- The label at the front of a list: what is found has its form, and what has it is found.
use Rattle.std.proofs.Common.{◌≡◌, ◌∙◌, ◌++◌, ◌∷◌, [], ℕ, List, Option, Some, None, inl, inr, refl, sym, ap, subst, codes, append_assoc}
use Rattle.rj_columns.specs.declared.cell.ColumnType.{ColumnType}
use Rattle.rj_columns.specs.declared.cell.ColumnType.TheVariants as kind
use Rattle.rj_condition.specs.declared.tree.Name.{Name}
use Rattle.rj_settings.specs.Labels.{IsLabelText, IsNameWord}
use Rattle.rj_settings.specs.Internal.Scanning.{behind, label_by, label_in, labelled, name_in, or_place, rest_by}
use Rattle.rj_settings.specs.Words.{IsTypeWord, before}
use Rattle.rj_settings.specs.declared.types.entry.Label.{Label}
use Rattle.rj_settings.specs.declared.types.entry.Label.TheVariants as of
use Rattle.rj_settings.proofs.NameFacts.{HasName, behind_sound, name_found, name_sound}

-- what is found has the form of a label
abbrev pub HasLabel : List ℕ → Label × List ℕ → Type 0
HasLabel text p = (label : List ℕ) × IsLabelText p.0 label × (text ≡ label ++ p.1)

labelled_sound : (label : Label) (o : Option (List ℕ)) (p : Label × List ℕ) → labelled label o ≡ Some p → (o ≡ Some p.1) × (label ≡ p.0)
labelled_sound label None p e = cc
labelled_sound label (Some rest) p e = let f : (label, rest) ≡ p = cc in (ap (λ (z : Label × List ℕ). Some z.1) f, ap (λ (z : Label × List ℕ). z.0) f)

named_sound : (text : List ℕ) (n : Name × List ℕ) (p : Label × List ℕ) → HasName text n → labelled (of.Name n.0) (behind 61 n.1) ≡ Some p → HasLabel text p
named_sound text n p has e =
    let f = labelled_sound (of.Name n.0) (behind 61 n.1) p e in
    subst (λ (l : Label). (label : List ℕ) × IsLabelText l label × (text ≡ label ++ p.1)) f.1 (
      has.0 ++ 61 ∷ [],
      (has.0, has.1, refl),
      has.2 ∙ (ap (λ (z : List ℕ). has.0 ++ z) (behind_sound 61 n.1 p.1 f.0) ∙ sym (append_assoc has.0 (61 ∷ []) p.1)),
    )

rest_sound : (text : List ℕ) (o : Option (List ℕ)) (p : Label × List ℕ) → behind 42 text ≡ o → rest_by o ≡ Some p → HasLabel text p
rest_sound text None p is e = cc
rest_sound text (Some star) p is e =
    let f = labelled_sound of.Rest (behind 61 star) p e in
    subst (λ (l : Label). (label : List ℕ) × IsLabelText l label × (text ≡ label ++ p.1)) f.1 (
      codes "*=",
      refl,
      behind_sound 42 text star is ∙ ap (λ (z : List ℕ). 42 ∷ z) (behind_sound 61 star p.1 f.0),
    )

by_sound : (text : List ℕ) (o : Option (Name × List ℕ)) (p : Label × List ℕ) → name_in text ≡ o → label_by o text ≡ Some p → HasLabel text p
by_sound text (Some n) p is e = named_sound text n p (name_sound text n is) e
by_sound text None p is e = rest_sound text (behind 42 text) p refl e

place_sound : (text : List ℕ) (o : Option (Label × List ℕ)) → label_in text ≡ o → HasLabel text (or_place o text)
place_sound text (Some p) e = by_sound text (name_in text) p refl e
place_sound text None e = ([], refl, refl)

pub label_sound : (text : List ℕ) (p : Label × List ℕ) → p ≡ or_place (label_in text) text → HasLabel text p
label_sound text p e = subst (HasLabel text) (sym e) (place_sound text (label_in text) refl)

-- no label stands before the word of a type
no_label : (t : ColumnType) (word : List ℕ) (rest : Option (List ℕ)) → IsTypeWord t word → label_in (before word rest) ≡ None
no_label kind.Int word None is = ap label_in is
no_label kind.Int word (Some rest) is = ap (λ (w : List ℕ). label_in (w ++ 44 ∷ rest)) is
no_label kind.Text word None is = ap label_in is
no_label kind.Text word (Some rest) is = ap (λ (w : List ℕ). label_in (w ++ 44 ∷ rest)) is
no_label (kind.Num n) word None (inl is) = ap label_in is
no_label (kind.Num n) word (Some rest) (inl is) = ap (λ (w : List ℕ). label_in (w ++ 44 ∷ rest)) is
no_label (kind.Num n) word None (inr is) = ap label_in is
no_label (kind.Num n) word (Some rest) (inr is) = ap (λ (w : List ℕ). label_in (w ++ 44 ∷ rest)) is

named_found : (n : Name) (word rest : List ℕ) → IsNameWord n.delimited n.text word → label_in (word ++ 61 ∷ rest) ≡ Some (of.Name n, rest)
named_found n word rest is =
    ap (λ (o : Option (Name × List ℕ)). label_by o (word ++ 61 ∷ rest)) (name_found n word (61 ∷ rest) is (record { letters = refl; quotes = refl }))

-- a label in front of the word of a type is found
pub label_complete : (l : Label) (t : ColumnType) (text label word : List ℕ) (rest : Option (List ℕ)) → IsLabelText l label → IsTypeWord t word → text ≡ label ++ before word rest
    → or_place (label_in text) text ≡ (l, before word rest)
label_complete of.Place t text label word rest is type whole =
    let e : text ≡ before word rest = whole ∙ ap (λ (x : List ℕ). x ++ before word rest) is in
    ap (λ (x : List ℕ). or_place (label_in x) x) e ∙ ap (λ (o : Option (Label × List ℕ)). or_place o (before word rest)) (no_label t word rest type)
label_complete (of.Name n) t text label word rest is type whole =
    let e : text ≡ is.0 ++ 61 ∷ before word rest =
    whole ∙ (ap (λ (x : List ℕ). x ++ before word rest) is.2 ∙ append_assoc is.0 (61 ∷ []) (before word rest)) in
    ap (λ (o : Option (Label × List ℕ)). or_place o text) (ap label_in e ∙ named_found n is.0 (before word rest) is.1)
label_complete (of.Shared n) t text label word rest is type whole = absurd is
label_complete of.Rest t text label word rest is type whole =
    let e : text ≡ codes "*=" ++ before word rest = whole ∙ ap (λ (x : List ℕ). x ++ before word rest) is in
    ap (λ (o : Option (Label × List ℕ)). or_place o text) (ap label_in e)
