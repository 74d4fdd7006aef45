-- The value of an option, word by word.
use Rattle.std.proofs.Common.{◌≡◌, ◌≢◌, ◌∙◌, ◌+◌, ◌++◌, ◌∷◌, [], ℕ, List, true, false, inl, inr, refl, sym, ap, append_assoc, drop, length, length-append}
use Rattle.std.specs.Borrow.{Bor}
use Rattle.std.specs.Prelude.{MatchOption, None, Option, Some, nat_eq}
use Rattle.std.specs.List.{starts_with}
use Rattle.std.proofs.lemmas.Bool.{cases_Bool}
use Rattle.std.proofs.lemmas.Bool.Decides.{Decides-eqb}
use Rattle.std.proofs.lemmas.List.Prefix.{front_rest}
use Rattle.std.proofs.lemmas.Slice.Eq.{starts_is}

pub no_value : (word option : List ℕ) → ((value : List ℕ) → word ≢ option ++ 61 ∷ value) → starts_with nat_eq word (option ++ 61 ∷ []) ≡ false
no_value word option none = elim (cases_Bool (starts_with nat_eq word (option ++ 61 ∷ []))) [
  | inl e ↦
      let is = (starts_is Decides-eqb word (option ++ 61 ∷ []) (starts_with nat_eq word (option ++ 61 ∷ [])) refl).0 e in
      absurd (none (drop (length (option ++ 61 ∷ [])) word) (is ∙ append_assoc option (61 ∷ []) (drop (length (option ++ 61 ∷ [])) word)))
  | inr e ↦ e
]

pub has_value : (word option value : List ℕ) → word ≡ option ++ 61 ∷ value
    → (starts_with nat_eq word (option ++ 61 ∷ []) ≡ true) × (value ≡ drop (length option + 1) word)
has_value word option value is =
    let whole : word ≡ (option ++ 61 ∷ []) ++ value = is ∙ sym (append_assoc option (61 ∷ []) value) in (
      (starts_is Decides-eqb word (option ++ 61 ∷ []) (starts_with nat_eq word (option ++ 61 ∷ [])) refl).1 value whole,
      sym (front_rest word (option ++ 61 ∷ []) value whole) ∙ ap (λ (n : ℕ). drop n word) (length-append option (61 ∷ [])),
    )

-- what stands behind an option in a word
pub value-found : (word option behind : List ℕ) (r : Option (Bor (List ℕ))) → word ≡ option ++ behind
    → MatchOption r ((value : List ℕ) → behind ≢ 61 ∷ value) (λ value. behind ≡ 61 ∷ value.now)
    → MatchOption r (starts_with nat_eq word (option ++ 61 ∷ []) ≡ false)
    (λ value. (starts_with nat_eq word (option ++ 61 ∷ []) ≡ true) × (value.now ≡ drop (length option + 1) word))
value-found word option behind None whole none =
    no_value word option (λ value is. none value (sym (front_rest word option behind whole) ∙ front_rest word option (61 ∷ value) is))
value-found word option behind (Some value) whole is = has_value word option value.now (whole ∙ ap (λ (x : List ℕ). option ++ x) is)
