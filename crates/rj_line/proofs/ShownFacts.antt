-- How much of a text is shown.
use Rattle.std.proofs.Common.{◌≡◌, ◌∙◌, ℕ, ◌≤◌, List, [], ◌∷◌, ◌++◌, length, take, ap, append-nil, arith, sym}
use Rattle.std.specs.Prelude.{IsUtf8}
use Rattle.std.specs.List.{flat_map}
use Rattle.std.specs.Str.Lossy.{utf8_valid_len}
use Rattle.std.proofs.lemmas.Grind.{flat_map-append}
use Rattle.std.proofs.lemmas.List.{length-take-le, take-take, take_all}
use Rattle.std.proofs.lemmas.Str.{utf8_valid_len-IsUtf8}
use Rattle.rj_line.specs.Shown.{shown_part}

-- a text of so few bytes is shown whole
pub whole_shown : (text : List ℕ) → IsUtf8 text → length text ≤ 60 → text ≡ shown_part text
whole_shown text utf8 low =
    let all : take 60 text ≡ text = take_all 60 text low in
    let len : utf8_valid_len (take 60 text) ≡ length text = ap utf8_valid_len all ∙ utf8_valid_len-IsUtf8 text utf8 in
    sym (ap (λ n. take n text) len ∙ take_all (length text) text (omega arith))

-- the first bytes of a longer one, where they are UTF-8
pub head_shown : (text head : List ℕ) → head ≡ take 60 text → IsUtf8 head → 60 ≤ length text → head ≡ shown_part text
head_shown text head is utf8 long =
    let len : utf8_valid_len (take 60 text) ≡ 60 = sym (ap utf8_valid_len is) ∙ (utf8_valid_len-IsUtf8 head utf8 ∙ (ap length is ∙ length-take-le 60 text long)) in
    is ∙ sym (ap (λ n. take n text) len)

-- and else those of them that are
pub front_shown : (text head part : List ℕ) (n : ℕ) → head ≡ take 60 text → n ≡ utf8_valid_len head → n ≤ 60 → part ≡ take n head → part ≡ shown_part text
front_shown text head part n is len low front =
    front ∙ (ap (take n) is ∙ (take-take n 60 text low ∙ ap (λ m. take m text) (len ∙ ap utf8_valid_len is)))

-- one more character
pub flat_map-one : (f : ℕ → List ℕ) (cs : List ℕ) (c : ℕ) → flat_map f cs ++ f c ≡ flat_map f (cs ++ c ∷ [])
flat_map-one f cs c = ap (λ xs. flat_map f cs ++ xs) (sym (append-nil (f c))) ∙ sym (flat_map-append f cs (c ∷ []))
