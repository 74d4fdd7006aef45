-- The word of a type at the front of a list: it is one, and so is what is left behind it.
use Rattle.std.proofs.Common.{◌≡◌, ◌≢◌, ◌∙◌, ◌<◌, ◌+◌, ◌++◌, ◌⊎◌, ◌∷◌, [], ℕ, Bool, List, Option, Some, None, true, inl, inr, refl, sym, ap, subst, arith, not, codes, append_assoc, drop, take, get_or, length, suc, ◌≤◌, ◌^◌, true≢false}
use Rattle.std.specs.Prelude.{◌==◌, ◌&&◌, ◌↔◌, IfNone, IsSome}
use Rattle.std.specs.Char.{is_ascii_digit}
use Rattle.std.specs.Fmt.{decimal}
use Rattle.std.specs.List.{list_all, prefix_len}
use Rattle.std.proofs.lemmas.Bool.{and_parts}
use Rattle.std.proofs.lemmas.Bool.Decides.{nat_tests}
use Rattle.std.proofs.lemmas.Fmt.{decimal_injective}
use Rattle.std.proofs.Math.Seq.{drop-append_seam, take-append_seam}
use Rattle.rj_condition.proofs.Runs.{run_is}
use Rattle.rj_columns.specs.declared.cell.ColumnType.{ColumnType}
use Rattle.rj_columns.specs.declared.cell.ColumnType.TheVariants as kind
use Rattle.rj_columns.specs.declared.decimal.numeric.NumericType.{NumericType}
use Rattle.rj_settings.specs.Words.{BeginsType, IsTypeWord, before, begin_word, colon_word, end_word, has_no_comma}
use Rattle.rj_settings.proofs.NumberFacts.{small_pass}

pub before_cons : (x : ℕ) (a : List ℕ) (r : Option (List ℕ)) → before (x ∷ a) r ≡ x ∷ before a r
before_cons x a None = refl
before_cons x a (Some rest) = refl

pub before_more : (a b : List ℕ) (r : Option (List ℕ)) → before (a ++ b) r ≡ a ++ before b r
before_more a b None = refl
before_more a b (Some rest) = append_assoc a b (44 ∷ rest)

pub before_comma : (a b : List ℕ) (r : Option (List ℕ)) → before (a ++ 44 ∷ b) r ≡ before a (Some (before b r))
before_comma a b r = before_more a (44 ∷ b) r ∙ ap (λ (x : List ℕ). a ++ x) (before_cons 44 b r)

all_more : (q : ℕ → Bool) (a b : List ℕ) → list_all q a ≡ true → list_all q b ≡ true → list_all q (a ++ b) ≡ true
all_more q [] b one two = two
all_more q (x ∷ a) b one two =
    let h = and_parts (q x) (list_all q a) one in
    ap (λ (t : Bool). t && list_all q (a ++ b)) h.0 ∙ all_more q a b h.1 two

no_comma_here : (x : ℕ) (a : List ℕ) → has_no_comma (x ∷ a) ≡ true → x ≢ 44
no_comma_here x a none = apart (and_parts (not (x == 44)) (has_no_comma a) none).0
  where
    apart : not (x == 44) ≡ true → x ≢ 44
    apart e is = grind (arith, nat_tests)

no_comma_later : (x : ℕ) (a : List ℕ) → has_no_comma (x ∷ a) ≡ true → has_no_comma a ≡ true
no_comma_later x a none = (and_parts (not (x == 44)) (has_no_comma a) none).1

pub some_same : {A : Type 0} (x y : A) → Some x ≡ Some y → x ≡ y
some_same x y e = cc

-- a text is cut at its first comma in one way
pub cut_once : (a b : List ℕ) (r s : Option (List ℕ)) → has_no_comma a ≡ true → has_no_comma b ≡ true → before a r ≡ before b s → (a ≡ b) × (r ≡ s)
cut_once [] [] None None one two is = (refl, refl)
cut_once [] [] None (Some s) one two is = cc
cut_once [] [] (Some r) None one two is = cc
cut_once [] [] (Some r) (Some s) one two is = (refl, ap Some (ap (drop 1) is))
cut_once [] (y ∷ b) None s one two is = let e : ◌≡◌ {A = List ℕ} [] (y ∷ before b s) = is ∙ before_cons y b s in cc
cut_once [] (y ∷ b) (Some r) s one two is =
    let e : 44 ∷ r ≡ y ∷ before b s = is ∙ before_cons y b s in
    let same : y ≡ 44 = cc in
    absurd (no_comma_here y b two same)
cut_once (x ∷ a) [] r None one two is = let e : x ∷ before a r ≡ [] = sym (before_cons x a r) ∙ is in cc
cut_once (x ∷ a) [] r (Some s) one two is =
    let e : x ∷ before a r ≡ 44 ∷ s = sym (before_cons x a r) ∙ is in
    let same : x ≡ 44 = cc in
    absurd (no_comma_here x a one same)
cut_once (x ∷ a) (y ∷ b) r s one two is =
    let e : x ∷ before a r ≡ y ∷ before b s = sym (before_cons x a r) ∙ (is ∙ before_cons y b s) in
    let rest = cut_once a b r s (no_comma_later x a one) (no_comma_later y b two) (ap (drop 1) e) in
    let head : x ≡ y = cc in
    (ap (λ (z : ℕ). z ∷ a) head ∙ ap (λ (z : List ℕ). y ∷ z) rest.0, rest.1)

-- no comma is in these words
no_comma_number : (n : ℕ) → n < 100 → has_no_comma (decimal n) ≡ true
no_comma_number n less = small_pass (λ b. not (b == 44)) each n less
  where
    each : (d : ℕ) → d < 10 → not (48 + d == 44) ≡ true
    each d low = grind (arith, nat_tests)

pub begin_no_comma : (n : NumericType) → has_no_comma (begin_word n.precision) ≡ true
begin_no_comma n = no_comma_number n.precision (omega (arith, n.limits))

pub end_no_comma : (n : NumericType) → has_no_comma (end_word n.scale) ≡ true
end_no_comma n = all_more (λ b. not (b == 44)) (decimal n.scale) (codes ")") (no_comma_number n.scale (omega (arith, n.limits))) refl

pub colon_no_comma : (n : NumericType) → has_no_comma (colon_word n.precision n.scale) ≡ true
colon_no_comma n =
    all_more (λ b. not (b == 44)) (decimal n.precision) (58 ∷ decimal n.scale) (no_comma_number n.precision (omega (arith, n.limits)))
    (no_comma_number n.scale (omega (arith, n.limits)))

-- a word is without a comma, or a numeric type's with one
pub word_form : (t : ColumnType) (word : List ℕ) → IsTypeWord t word
    → (has_no_comma word ≡ true) ⊎ ((n : NumericType) × (t ≡ kind.Num n) × (word ≡ begin_word n.precision ++ 44 ∷ end_word n.scale))
word_form kind.Int word is = inl (ap has_no_comma is)
word_form kind.Text word is = inl (ap has_no_comma is)
word_form (kind.Num n) word (inl is) = inr (n, refl, is)
word_form (kind.Num n) word (inr is) = inl (ap has_no_comma is ∙ colon_no_comma n)

pub n_is_i : ◌≡◌ {A = ℕ} 110 105 → ⊥
n_is_i e = absurd (omega arith)

pub n_is_t : ◌≡◌ {A = ℕ} 110 116 → ⊥
n_is_t e = absurd (omega arith)

pub no_paren : ◌≡◌ {A = ℕ} 40 58 → ⊥
no_paren e = absurd (omega arith)

-- what stands before its comma is no word
pub not_begun : (t : ColumnType) (m : NumericType) (word : List ℕ) → word ≡ begin_word m.precision → IsTypeWord t word → ⊥
not_begun kind.Int m word begun is = let e : begin_word m.precision ≡ codes "int" = sym begun ∙ is in n_is_i (ap (λ (w : List ℕ). get_or w 0 0) e)
not_begun kind.Text m word begun is = let e : begin_word m.precision ≡ codes "text" = sym begun ∙ is in n_is_t (ap (λ (w : List ℕ). get_or w 0 0) e)
not_begun (kind.Num n) m word begun (inl is) =
    let e = cut_once (begin_word m.precision) (begin_word n.precision) None (Some (end_word n.scale)) (begin_no_comma m) (begin_no_comma n) (sym begun ∙ is) in
    let none : ◌≡◌ {A = Option (List ℕ)} None (Some (end_word n.scale)) = e.1 in
    cc
not_begun (kind.Num n) m word begun (inr is) =
    let e : begin_word m.precision ≡ colon_word n.precision n.scale = sym begun ∙ is in
    no_paren (ap (λ (w : List ℕ). get_or w 3 0) e)

-- the word that a text begins with, by how the text is cut at its first comma
pub record IsNumericCut (t : ColumnType) (first : List ℕ) (behind left : Option (List ℕ)) : Type 0 where
  pub numeric : NumericType
  pub is : t ≡ kind.Num numeric
  pub front : first ≡ begin_word numeric.precision
  pub back : behind ≡ Some (before (end_word numeric.scale) left)

pub type_cut : (t : ColumnType) (text first : List ℕ) (behind left : Option (List ℕ)) → BeginsType t text left → text ≡ before first behind → has_no_comma first ≡ true
    → (IsTypeWord t first × (behind ≡ left)) ⊎ IsNumericCut t first behind left
type_cut t text first behind left begins cut none = elim (word_form t begins.0 begins.1) [
  | inl whole ↦
      let same = cut_once begins.0 first left behind whole none (sym begins.2 ∙ cut) in
      inl (subst (IsTypeWord t) same.0 begins.1, sym same.1)
  | inr n ↦
      let e : before begins.0 left ≡ before (begin_word n.0.precision) (Some (before (end_word n.0.scale) left)) =
      ap (λ (w : List ℕ). before w left) n.2 ∙ before_comma (begin_word n.0.precision) (end_word n.0.scale) left in
      let same = cut_once (begin_word n.0.precision) first (Some (before (end_word n.0.scale) left)) behind (begin_no_comma n.0) none (sym e ∙ (sym begins.2 ∙ cut)) in
      inr (record { numeric = n.0; is = n.1; front = sym same.0; back = sym same.1 })
]

-- so what is left behind the word is one
pub one_left : (t u : ColumnType) (text : List ℕ) (r s : Option (List ℕ)) → BeginsType t text r → BeginsType u text s → r ≡ s
one_left t u text r s one two = elim (word_form u two.0 two.1) [
  | inl whole ↦ elim (type_cut t text two.0 s r one two.2 whole) [
    | inl same ↦ sym same.1
    | inr cut ↦ absurd (not_begun u cut.numeric two.0 cut.front two.1)
  ]
  | inr n ↦
      let e : text ≡ before (begin_word n.0.precision) (Some (before (end_word n.0.scale) s)) =
      two.2 ∙ (ap (λ (w : List ℕ). before w s) n.2 ∙ before_comma (begin_word n.0.precision) (end_word n.0.scale) s) in
      elim (type_cut t text (begin_word n.0.precision) (Some (before (end_word n.0.scale) s)) r one e (begin_no_comma n.0)) [
        | inl same ↦ absurd (not_begun t n.0 (begin_word n.0.precision) refl same.0)
        | inr cut ↦ sym (cut_once (end_word n.0.scale) (end_word cut.numeric.scale) s r (end_no_comma n.0) (end_no_comma cut.numeric) (some_same _ _ cut.back)).1
      ]
]

-- no word stands where neither kind does
pub no_word : (text first : List ℕ) (behind : Option (List ℕ)) → text ≡ before first behind → has_no_comma first ≡ true
    → (has_no_comma first ≡ true → (t : ColumnType) → IsTypeWord t first → ⊥) → ((t : ColumnType) (left : Option (List ℕ)) → IsNumericCut t first behind left → ⊥)
    → (t : ColumnType) (left : Option (List ℕ)) → BeginsType t text left → ⊥
no_word text first behind cut none whole comma t left begins = elim (type_cut t text first behind left begins cut none) [
  | inl same ↦ whole none t same.0
  | inr numeric ↦ comma t left numeric
]

pub no_second : (t : ColumnType) (first more second : List ℕ) (behind left next : Option (List ℕ)) → behind ≡ Some more → more ≡ before second next → has_no_comma second ≡ true
    → ((n : NumericType) → first ≡ begin_word n.precision → second ≢ end_word n.scale) → IsNumericCut t first behind left → ⊥
no_second t first more second behind left next some cut none missing numeric =
    let e : before second next ≡ before (end_word numeric.numeric.scale) left = sym cut ∙ some_same _ _ (sym some ∙ numeric.back) in
    missing numeric.numeric numeric.front (cut_once second (end_word numeric.numeric.scale) next left none (end_no_comma numeric.numeric) e).0

-- the word of two pieces
pub comma_word : (n : NumericType) (text first more second : List ℕ) (behind next : Option (List ℕ)) → text ≡ before first behind → behind ≡ Some more → more ≡ before second next
    → first ≡ begin_word n.precision → second ≡ end_word n.scale → BeginsType (kind.Num n) text next
comma_word n text first more second behind next cut some again front back = (
  begin_word n.precision ++ 44 ∷ end_word n.scale,
  inl refl,
  cut ∙ (ap (before first) some ∙ (ap (λ (x : List ℕ). before first (Some x)) again
      ∙ (ap (λ (x : List ℕ). before x (Some (before second next))) front ∙ (ap (λ (x : List ℕ). before (begin_word n.precision) (Some (before x next))) back
      ∙ sym (before_comma (begin_word n.precision) (end_word n.scale) next))))),
)

-- by bytes that are no commas
pub no_comma_each : (text : List ℕ) → ((i : ℕ) → i < length text → get_or text i 0 ≢ 44) → has_no_comma text ≡ true
no_comma_each [] each = refl
no_comma_each (x ∷ text) each =
    let here : not (x == 44) ≡ true = apart (each 0 (omega arith)) in
    ap (λ (t : Bool). t && has_no_comma text) here ∙ no_comma_each text (λ i less. each (suc i) (omega arith))
  where
    apart : x ≢ 44 → not (x == 44) ≡ true
    apart e = grind (arith, nat_tests)

-- the numbers of a word with colons
colon_digits : (n : ℕ) → n < 100 → list_all is_ascii_digit (decimal n) ≡ true
colon_digits n less = small_pass is_ascii_digit each n less
  where
    each : (d : ℕ) → d < 10 → is_ascii_digit (48 + d) ≡ true
    each d low = grind (arith, nat_tests)

pub colon_cut : (n : NumericType) (numbers : List ℕ) (k : ℕ) → k ≡ prefix_len is_ascii_digit numbers → numbers ≡ decimal n.precision ++ 58 ∷ decimal n.scale
    → (take k numbers ≡ decimal n.precision) × (drop k numbers ≡ 58 ∷ decimal n.scale)
colon_cut n numbers k len is =
    let run : prefix_len is_ascii_digit (decimal n.precision ++ 58 ∷ decimal n.scale) ≡ length (decimal n.precision) =
    run_is is_ascii_digit (decimal n.precision) (58 ∷ decimal n.scale) (colon_digits n.precision (omega (arith, n.limits))) refl in
    let k_is : k ≡ length (decimal n.precision) = len ∙ (ap (prefix_len is_ascii_digit) is ∙ run) in (
      ap (λ (i : ℕ). take i numbers) k_is ∙ (ap (take (length (decimal n.precision))) is ∙ take-append_seam (decimal n.precision) (58 ∷ decimal n.scale)),
      ap (λ (i : ℕ). drop i numbers) k_is ∙ (ap (drop (length (decimal n.precision))) is ∙ drop-append_seam (decimal n.precision) (58 ∷ decimal n.scale)),
    )

-- a precision and a scale that are of no numeric type
pub no_numeric : (p s : ℕ) (ps ss : List ℕ) (o : Option NumericType) → ps ≡ decimal p → ss ≡ decimal s → p < 2 ^ 64 → s < 2 ^ 64
    → (IsSome o ↔ ((1 ≤ p) × (p ≤ 18) × (s ≤ p))) → IfNone o ((n : NumericType) → ps ≡ decimal n.precision → ss ≢ decimal n.scale)
no_numeric p s ps ss (Some m) pis sis low small limits = tt
no_numeric p s ps ss None pis sis low small limits = λ n front back.
    let few : n.precision < 2 ^ 64 = omega (arith, n.limits) in
    let scale : n.scale < 2 ^ 64 = omega (arith, n.limits) in
    let one : p ≡ n.precision = decimal_injective p n.precision low few (sym pis ∙ front) in
    let two : s ≡ n.scale = decimal_injective s n.scale small scale (sym sis ∙ back) in
    true≢false (sym (limits.1 (rw (one, two) n.limits)))

pub colon_missing : (numbers front rest scale : List ℕ) (k : ℕ) (o : Option NumericType) → k ≡ prefix_len is_ascii_digit numbers → front ≡ take k numbers → rest ≡ drop k numbers
    → rest ≡ 58 ∷ scale → IfNone o ((n : NumericType) → front ≡ decimal n.precision → scale ≢ decimal n.scale)
    → IfNone o ((n : NumericType) → numbers ≢ decimal n.precision ++ 58 ∷ decimal n.scale)
colon_missing numbers front rest scale k (Some n) len fr re colon missing = tt
colon_missing numbers front rest scale k None len fr re colon missing = λ n is.
    let parts = colon_cut n numbers k len is in
    missing n (fr ∙ parts.0) (ap (drop 1) (sym colon ∙ (re ∙ parts.1)))

pub colon_none : (numbers rest : List ℕ) (k : ℕ) → k ≡ prefix_len is_ascii_digit numbers → rest ≡ drop k numbers → ((more : List ℕ) → rest ≢ 58 ∷ more)
    → (n : NumericType) → numbers ≢ decimal n.precision ++ 58 ∷ decimal n.scale
colon_none numbers rest k len re none n is = none (decimal n.scale) (re ∙ (colon_cut n numbers k len is).1)
