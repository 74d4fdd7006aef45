-- The first bytes of a text that may begin with a byte order mark.
use Rattle.std.proofs.Common.{◌≡◌, ◌≤◌, ◌+◌, ◌-◌, ◌∙◌, ℕ, List, [], ◌∷◌, length, take, get_or, true, false, ap, sym, arith, inl, inr}
use Rattle.std.proofs.lemmas.Bool.{cases_Bool, false≢true}
use Rattle.std.proofs.lemmas.List.{drop-take, get_or-take, length-drop, length-take-le}
use Rattle.csv.specs.Reading.{strip_bom, is_bom}
use Rattle.rj_csv_io.specs.StrictReading.{body_of, has_mark}
use Rattle.rj_csv_io.specs.declared.strict.header.HeaderPlace.{HeaderPlace}
use Rattle.rj_csv_io.specs.declared.strict.header.HeaderPlace.TheVariants.{First, Above}
use Rattle.rj_csv_io.proofs.Marks.{mark-long, strip-mark, strip-none}

long-mark : (text : List ℕ) → has_mark text ≡ true → 3 ≤ length text
unfolding has_mark
long-mark [] e = absurd (false≢true e)
long-mark (a ∷ []) e = absurd (false≢true e)
long-mark (a ∷ b ∷ []) e = absurd (false≢true e)
long-mark (a ∷ b ∷ c ∷ rest) e = omega arith

-- three bytes decide
same-mark : (text : List ℕ) (n : ℕ) → 3 ≤ n → n ≤ length text → has_mark (take n text) ≡ has_mark text
same-mark text n low high =
    let size = length-take-le n text high in
    let long : 3 ≤ length (take n text) = omega (arith, size) in
    let whole : 3 ≤ length text = omega arith in
    let a = get_or-take n text 0 0 (omega arith) in
    let b = get_or-take n text 1 0 (omega arith) in
    let c = get_or-take n text 2 0 (omega arith) in
    mark-long (take n text) long
    ∙ (ap (λ (x : ℕ). is_bom x (get_or (take n text) 1 0) (get_or (take n text) 2 0)) a
    ∙ (ap (λ (x : ℕ). is_bom (get_or text 0 0) x (get_or (take n text) 2 0)) b
    ∙ (ap (λ (x : ℕ). is_bom (get_or text 0 0) (get_or text 1 0) x) c ∙ sym (mark-long text whole))))

unmarked-start : (text : List ℕ) (n : ℕ) → has_mark text ≡ false → n ≤ length text → has_mark (take n text) ≡ false
unmarked-start text n none high = elim (cases_Bool (has_mark (take n text))) [
  | inl mark ↦
      let size = length-take-le n text high in
      let long = long-mark (take n text) mark in
      let low : 3 ≤ n = omega (arith, size, long) in
      let same = same-mark text n low high in
      absurd (false≢true (sym none ∙ (sym same ∙ mark)))
  | inr none2 ↦ none2
]

-- the text without its mark is no longer
pub body-short : (h : HeaderPlace) (text : List ℕ) → length (body_of h text) ≤ length text
body-short (Above names) text = omega arith
body-short First text = elim (cases_Bool (has_mark text)) [
  | inl mark ↦
      let is = ap (λ (x : List ℕ). length x) (strip-mark text mark) in
      let size = length-drop 3 text in
      omega (arith, is, size)
  | inr none ↦ let is = ap (λ (x : List ℕ). length x) (strip-none text none) in omega (arith, is)
]

marked-start : (text : List ℕ) (at : ℕ) → has_mark text ≡ true → 3 + at ≤ length text → strip_bom (take (3 + at) text) ≡ take at (strip_bom text)
marked-start text at mark high =
    strip-mark (take (3 + at) text) (same-mark text (3 + at) (omega arith) high ∙ mark)
    ∙ (drop-take 3 at text ∙ ap (λ (x : List ℕ). take at x) (sym (strip-mark text mark)))

-- the first bytes behind the mark, with the mark before them
pub body-start : (h : HeaderPlace) (text : List ℕ) (at : ℕ) → at ≤ length (body_of h text)
    → body_of h (take (length text - length (body_of h text) + at) text) ≡ take at (body_of h text)
body-start (Above names) text at high =
    let same : length text - length text + at ≡ at = omega arith in
    ap (λ (n : ℕ). take n text) same
body-start First text at high = elim (cases_Bool (has_mark text)) [
  | inl mark ↦
      let is = ap (λ (x : List ℕ). length x) (strip-mark text mark) in
      let size = length-drop 3 text in
      let long = long-mark text mark in
      let same : length text - length (strip_bom text) + at ≡ 3 + at = omega (arith, is, size, long, high) in
      ap (λ (n : ℕ). strip_bom (take n text)) same ∙ marked-start text at mark (omega (arith, is, size, long, high))
  | inr none ↦
      let is = ap (λ (x : List ℕ). length x) (strip-none text none) in
      let same : length text - length (strip_bom text) + at ≡ at = omega (arith, is, high) in
      ap (λ (n : ℕ). strip_bom (take n text)) same
      ∙ (strip-none (take at text) (unmarked-start text at none (omega (arith, is, high))) ∙ ap (λ (x : List ℕ). take at x) (sym (strip-none text none)))
]
