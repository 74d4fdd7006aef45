-- A text is one list of types at most.
use Rattle.std.proofs.Common.{◌≡◌, ◌∙◌, ◌≤◌, ◌++◌, ◌∷◌, [], ℕ, List, Option, Some, inl, inr, refl, sym, ap, subst, arith, codes, get_or}
use Rattle.std.specs.Char.{is_ascii_digit}
use Rattle.std.specs.Fmt.{decimal}
use Rattle.std.specs.List.{prefix_len}
use Rattle.std.proofs.Props.{props}
use Rattle.std.proofs.lemmas.Fmt.{decimal_injective}
use Rattle.std.proofs.lemmas.List.{append_cancel_left, append_cancel_right}
use Rattle.rj_columns.specs.declared.cell.ColumnType.{ColumnType}
use Rattle.rj_columns.specs.declared.cell.ColumnType.TheVariants as kind
use Rattle.rj_columns.specs.declared.decimal.numeric.NumericType.{NumericType}
use Rattle.rj_settings.specs.Lists.{BeginsEntry, IsEntry, IsTypeList}
use Rattle.rj_settings.specs.Words.{BeginsType, IsTypeWord, before, begin_word, end_word}
use Rattle.rj_settings.specs.declared.types.entry.Label.{Label}
use Rattle.rj_settings.specs.declared.types.entry.TypeEntry.{TypeEntry}
use Rattle.rj_settings.proofs.EntryFacts.{entry_split, one_entry}
use Rattle.rj_settings.proofs.Separated.{IsReadOnce, one_separated}
use Rattle.rj_settings.proofs.WordFacts.{before_comma, begin_no_comma, colon_cut, cut_once, end_no_comma, n_is_i, n_is_t, no_paren, not_begun, some_same, type_cut, word_form}

-- a numeric type is its two numbers
abbrev AreLimits : ℕ → ℕ → Type 0
AreLimits precision scale = (1 ≤ precision) × (precision ≤ 18) × (scale ≤ precision)

abbrev make : (precision scale : ℕ) → AreLimits precision scale → NumericType
make precision scale limits = record { precision = precision; scale = scale; limits = limits }

limits_prop : (precision scale : ℕ) → IsProp (AreLimits precision scale)
limits_prop precision scale = hlevel props

same_made : (p s q t : ℕ) → p ≡ q → s ≡ t → (l : AreLimits p s) (m : AreLimits q t) → make p s l ≡ make q t m
same_made p s q t one two l =
    subst (λ (q : ℕ). (m : AreLimits q t) → make p s l ≡ make q t m) one
    (subst (λ (t : ℕ). (m : AreLimits p t) → make p s l ≡ make p t m) two (λ m. ap (make p s) (limits_prop p s l m)))

same_numeric : (m n : NumericType) → m.precision ≡ n.precision → m.scale ≡ n.scale → kind.Num m ≡ kind.Num n
same_numeric m n one two = ap kind.Num (same_made m.precision m.scale n.precision n.scale one two m.limits n.limits)

same_precision : (m n : NumericType) → decimal m.precision ≡ decimal n.precision → m.precision ≡ n.precision
same_precision m n is = decimal_injective m.precision n.precision (omega (arith, m.limits)) (omega (arith, n.limits)) is

same_scale : (m n : NumericType) → decimal m.scale ≡ decimal n.scale → m.scale ≡ n.scale
same_scale m n is = decimal_injective m.scale n.scale (omega (arith, m.limits)) (omega (arith, n.limits)) is

-- by what stands before the comma of its word, and behind it
by_pieces : (m n : NumericType) → begin_word m.precision ≡ begin_word n.precision → end_word m.scale ≡ end_word n.scale → kind.Num m ≡ kind.Num n
by_pieces m n front back =
    same_numeric m n (same_precision m n (append_cancel_left (codes "num(") (decimal m.precision) (decimal n.precision) front))
    (same_scale m n (append_cancel_right (decimal m.scale) (decimal n.scale) (codes ")") back))

-- by its numbers with a colon between them
by_numbers : (m n : NumericType) → decimal m.precision ++ 58 ∷ decimal m.scale ≡ decimal n.precision ++ 58 ∷ decimal n.scale → kind.Num m ≡ kind.Num n
by_numbers m n is =
    let numbers = decimal m.precision ++ 58 ∷ decimal m.scale in
    let one = colon_cut m numbers (prefix_len is_ascii_digit numbers) refl refl in
    let two = colon_cut n numbers (prefix_len is_ascii_digit numbers) refl is in
    same_numeric m n (same_precision m n (sym one.0 ∙ two.0)) (same_scale m n (append_cancel_left (58 ∷ []) (decimal m.scale) (decimal n.scale) (sym one.1 ∙ two.1)))

int_no_text : codes "int" ≡ codes "text" → ⊥
int_no_text e = i_is_t (ap (λ (w : List ℕ). get_or w 0 0) e)
  where
    i_is_t : ◌≡◌ {A = ℕ} 105 116 → ⊥
    i_is_t e = absurd (omega arith)

int_no_numeric : (n : NumericType) → IsTypeWord (kind.Num n) (codes "int") → ⊥
int_no_numeric n (inl is) = n_is_i (ap (λ (w : List ℕ). get_or w 0 0) (sym is))
int_no_numeric n (inr is) = n_is_i (ap (λ (w : List ℕ). get_or w 0 0) (sym is))

text_no_numeric : (n : NumericType) → IsTypeWord (kind.Num n) (codes "text") → ⊥
text_no_numeric n (inl is) = n_is_t (ap (λ (w : List ℕ). get_or w 0 0) (sym is))
text_no_numeric n (inr is) = n_is_t (ap (λ (w : List ℕ). get_or w 0 0) (sym is))

same_words : (m n : NumericType) (word : List ℕ) → IsTypeWord (kind.Num m) word → IsTypeWord (kind.Num n) word → kind.Num m ≡ kind.Num n
same_words m n word (inl one) (inl two) =
    let cut = cut_once (begin_word m.precision) (begin_word n.precision) (Some (end_word m.scale)) (Some (end_word n.scale)) (begin_no_comma m) (begin_no_comma n) (sym one ∙ two) in
    by_pieces m n cut.0 (some_same _ _ cut.1)
same_words m n word (inl one) (inr two) = absurd (no_paren (ap (λ (w : List ℕ). get_or w 3 0) (sym one ∙ two)))
same_words m n word (inr one) (inl two) = absurd (no_paren (ap (λ (w : List ℕ). get_or w 3 0) (sym two ∙ one)))
same_words m n word (inr one) (inr two) = by_numbers m n (append_cancel_left (codes "num:") _ _ (sym one ∙ two))

-- a word is of one type
one_word : (t u : ColumnType) (word : List ℕ) → IsTypeWord t word → IsTypeWord u word → t ≡ u
one_word kind.Int kind.Int word one two = refl
one_word kind.Int (kind.Num n) word one two = absurd (int_no_numeric n (subst (IsTypeWord (kind.Num n)) one two))
one_word kind.Int kind.Text word one two = absurd (int_no_text (sym one ∙ two))
one_word (kind.Num m) kind.Int word one two = absurd (int_no_numeric m (subst (IsTypeWord (kind.Num m)) two one))
one_word (kind.Num m) (kind.Num n) word one two = same_words m n word one two
one_word (kind.Num m) kind.Text word one two = absurd (text_no_numeric m (subst (IsTypeWord (kind.Num m)) two one))
one_word kind.Text kind.Int word one two = absurd (int_no_text (sym two ∙ one))
one_word kind.Text (kind.Num n) word one two = absurd (text_no_numeric n (subst (IsTypeWord (kind.Num n)) one two))
one_word kind.Text kind.Text word one two = refl

-- so a text begins with the word of one type
one_type : (t u : ColumnType) (text : List ℕ) (r s : Option (List ℕ)) → BeginsType t text r → BeginsType u text s → t ≡ u
one_type t u text r s one two = elim (word_form u two.0 two.1) [
  | inl whole ↦ elim (type_cut t text two.0 s r one two.2 whole) [
    | inl same ↦ one_word t u two.0 same.0 two.1
    | inr cut ↦ absurd (not_begun u cut.numeric two.0 cut.front two.1)
  ]
  | inr n ↦
      let e : text ≡ before (begin_word n.0.precision) (Some (before (end_word n.0.scale) s)) =
      two.2 ∙ (ap (λ (w : List ℕ). before w s) n.2 ∙ before_comma (begin_word n.0.precision) (end_word n.0.scale) s) in
      elim (type_cut t text (begin_word n.0.precision) (Some (before (end_word n.0.scale) s)) r one e (begin_no_comma n.0)) [
        | inl same ↦ absurd (not_begun t n.0 (begin_word n.0.precision) refl same.0)
        | inr cut ↦
            let back = cut_once (end_word cut.numeric.scale) (end_word n.0.scale) r s (end_no_comma cut.numeric) (end_no_comma n.0) (sym (some_same _ _ cut.back)) in
            cut.is ∙ (by_pieces cut.numeric n.0 (sym cut.front) back.0 ∙ sym n.1)
      ]
]

abbrev entry : Label → ColumnType → TypeEntry
entry label kind = record { label = label; kind = kind }

same_entry : (e f : TypeEntry) → e.label ≡ f.label → e.kind ≡ f.kind → e ≡ f
same_entry e f one two = ap (λ (l : Label). entry l e.kind) one ∙ ap (entry f.label) two

-- and with one entry
whole_entry : (e f : TypeEntry) (text : List ℕ) (r s : Option (List ℕ)) → BeginsEntry e text r → BeginsEntry f text s → e ≡ f
whole_entry e f text r s one two =
    let a = entry_split e text r one in
    let b = entry_split f text s two in
    let same : (e.label, a.0) ≡ (f.label, b.0) = sym a.2 ∙ b.2 in
    same_entry e f (ap (λ p. p.0) same) (one_type e.kind f.kind b.0 r s (subst (λ (x : List ℕ). BeginsType e.kind x r) (ap (λ p. p.1) same) a.1) b.1)

-- and with it once
pub type_once : IsReadOnce IsEntry
type_once e f text r s one two = (whole_entry e f text r s one two, (one_entry e f text r s one two).1)

pub one_list : (text : List ℕ) (a b : List TypeEntry) → IsTypeList text a → IsTypeList text b → a ≡ b
one_list text a b one two = one_separated IsEntry type_once a b (Some text) one.0 two.0
