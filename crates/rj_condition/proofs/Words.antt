-- Words: keywords and identifiers.
use Rattle.std.proofs.Common.{◌≡◌, inl, inr, ℕ, ◌&&◌, List, [], ◌∷◌, ◌++◌, Bool, true, false, cond, take, drop, length, Option, Some, None, refl, sym, ap, ◌∙◌, subst, arith}
use Rattle.std.specs.Char.{is_ascii_alphabetic}
use Rattle.std.specs.List.{prefix_len, list_all, find}
use Rattle.std.specs.Str.{bytes_eq, str_to_ascii_lowercase}
use Rattle.std.proofs.lemmas.Bool.Decides.{nat_tests}
use Rattle.std.proofs.lemmas.List.{take-append-drop}
use Rattle.std.proofs.lemmas.Slice.Eq.{bytes_eq-Decides}
use Rattle.std.proofs.Math.Seq.{drop-append_seam}
use Rattle.std.proofs.lemmas.Bool.{cases_Bool}
use Rattle.rj_condition.specs.declared.token.Keyword.{Keyword}
use Rattle.rj_condition.specs.declared.token.Keyword.TheVariants as keyword
use Rattle.rj_condition.specs.declared.token.Token.TheVariants as token
use Rattle.rj_condition.specs.Tokens.{spelling_of, spells, is_name_byte, begins, IsIdentifier, IsSpelled, Ends, IsToken}
use Rattle.rj_condition.specs.Internal.Scanning.{all_keywords, keyword_of, word_or_name, word_at, named}
use Rattle.rj_condition.proofs.Runs.{run_passes, run_ends, run_is, len_in}

pub letter_is_name_byte : (b : ℕ) → is_ascii_alphabetic b ≡ true → is_name_byte b ≡ true
letter_is_name_byte b e = grind (arith, nat_tests)

find_some : {A : Type 0} (p : A → Bool) (xs : List A) (x : A) → find p xs ≡ Some x → p x ≡ true
find_some p [] x e = cc
find_some {A} p (y ∷ xs) x e = elim (cases_Bool (p y)) [
  | inl h ↦
      let q : Some y ≡ Some x = sym (ap (λ c. cond c (Some y) (find p xs)) h) ∙ e in
      let same : y ≡ x = cc in
      ap p (sym same) ∙ h
  | inr h ↦ find_some p xs x (sym (ap (λ c. cond c (Some y) (find p xs)) h) ∙ e)
]

-- no two keywords are spelled alike
pub spelled_once : (k : Keyword) → find (λ j. bytes_eq (str_to_ascii_lowercase (spelling_of k)) (str_to_ascii_lowercase (spelling_of j))) all_keywords ≡ Some k
spelled_once keyword.And = refl
spelled_once keyword.Between = refl
spelled_once keyword.Cross = refl
spelled_once keyword.False = refl
spelled_once keyword.Full = refl
spelled_once keyword.In = refl
spelled_once keyword.Inner = refl
spelled_once keyword.Is = refl
spelled_once keyword.Join = refl
spelled_once keyword.Left = refl
spelled_once keyword.Natural = refl
spelled_once keyword.Not = refl
spelled_once keyword.Null = refl
spelled_once keyword.On = refl
spelled_once keyword.Or = refl
spelled_once keyword.Outer = refl
spelled_once keyword.Right = refl
spelled_once keyword.True = refl
spelled_once keyword.Unknown = refl
spelled_once keyword.Using = refl

keyword_found : (w : List ℕ) (k : Keyword) → spells w k ≡ true → keyword_of w ≡ Some k
unfolding keyword_of
keyword_found w k e =
    let same : str_to_ascii_lowercase w ≡ str_to_ascii_lowercase (spelling_of k) = (bytes_eq-Decides (str_to_ascii_lowercase w) (str_to_ascii_lowercase (spelling_of k))).0 e in
    ap (λ (z : List ℕ). find (λ j. bytes_eq z (str_to_ascii_lowercase (spelling_of j))) all_keywords) same ∙ spelled_once k

keyword_spells : (w : List ℕ) (k : Keyword) → keyword_of w ≡ Some k → spells w k ≡ true
unfolding keyword_of
keyword_spells w k e = find_some (spells w) all_keywords k e

no_keyword : (w : List ℕ) → keyword_of w ≡ None → (k : Keyword) → spells w k ≡ false
no_keyword w e k = elim (cases_Bool (spells w k)) [ inl h ↦ let f = keyword_found w k h in cc | inr h ↦ h ]

-- where no keyword is spelled, none is found
none_spelled : (w : List ℕ) (o : Option Keyword) → ((k : Keyword) → spells w k ≡ false) → keyword_of w ≡ o → o ≡ None
none_spelled w None n e = refl
none_spelled w (Some k) n e = let f = keyword_spells w k e in let g = n k in cc

word_spelled : (w rest : List ℕ) (o : Option Keyword) → keyword_of w ≡ o → IsIdentifier w → begins is_name_byte rest ≡ false → IsSpelled (word_or_name o w) w × Ends (word_or_name o w) rest
word_spelled w rest (Some k) e name ends = ((name, keyword_spells w k e), ends)
word_spelled w rest None e name ends = ((refl, name, no_keyword w e), ends)

-- a word that is not empty is its first byte and the run behind it
name_taken : (b : ℕ) (bs : List ℕ) → is_ascii_alphabetic b ≡ true → IsIdentifier (take (prefix_len is_name_byte (b ∷ bs)) (b ∷ bs))
name_taken b bs e =
    let P : ℕ → Type 0 = λ n. IsIdentifier (take n (b ∷ bs)) in
    subst P (sym (len_in is_name_byte b bs (letter_is_name_byte b e))) (e, run_passes is_name_byte bs)

pub word_token : (b : ℕ) (bs : List ℕ) → is_ascii_alphabetic b ≡ true → IsToken (b ∷ bs) (word_at (b ∷ bs)).0 (word_at (b ∷ bs)).1
word_token b bs e =
    let n = prefix_len is_name_byte (b ∷ bs) in
    let s = word_spelled (take n (b ∷ bs)) (drop n (b ∷ bs)) (keyword_of (take n (b ∷ bs))) refl (name_taken b bs e) (run_ends is_name_byte (b ∷ bs)) in
    (take n (b ∷ bs), sym (take-append-drop n (b ∷ bs)), s.0, s.1)

pub take_seam : (w rest : List ℕ) → take (length w) (w ++ rest) ≡ w
take_seam [] rest = refl
take_seam (b ∷ w) rest = ap (λ z. b ∷ z) (take_seam w rest)

identifier_run : (w : List ℕ) → IsIdentifier w → list_all is_name_byte w ≡ true
identifier_run [] name = absurd name
identifier_run (b ∷ w) name = ap (λ c. c && list_all is_name_byte w) (letter_is_name_byte b name.0) ∙ name.1

-- a word in front of what does not carry it on is found
pub word_found : (w rest : List ℕ) (o : Option Keyword) → keyword_of w ≡ o → IsIdentifier w → begins is_name_byte rest ≡ false → word_at (w ++ rest) ≡ (word_or_name o w, rest)
word_found w rest o e name ends =
    let run : prefix_len is_name_byte (w ++ rest) ≡ length w = run_is is_name_byte w rest (identifier_run w name) ends in
    ap (λ n. (word_or_name (keyword_of (take n (w ++ rest))) (take n (w ++ rest)), drop n (w ++ rest))) run
    ∙ ap (λ z. (word_or_name (keyword_of z) z, drop (length w) (w ++ rest))) (take_seam w rest)
    ∙ ap (λ z. (word_or_name (keyword_of w) w, z)) (drop-append_seam w rest)
    ∙ ap (λ (z : Option Keyword). (word_or_name z w, rest)) e

pub keyword_word : (w rest : List ℕ) (k : Keyword) → IsIdentifier w → spells w k ≡ true → begins is_name_byte rest ≡ false → word_at (w ++ rest) ≡ (token.Keyword k, rest)
keyword_word w rest k name e ends = word_found w rest (Some k) (keyword_found w k e) name ends

pub name_word : (w rest : List ℕ) → IsIdentifier w → ((k : Keyword) → spells w k ≡ false) → begins is_name_byte rest ≡ false → word_at (w ++ rest) ≡ (named false w, rest)
name_word w rest name n ends = word_found w rest None (none_spelled w (keyword_of w) n refl) name ends
