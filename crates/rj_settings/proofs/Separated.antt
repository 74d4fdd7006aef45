-- Entries with commas between them, read one after the other.
use Rattle.std.proofs.Common.{◌≡◌, ◌∙◌, ◌++◌, ◌∷◌, [], ℕ, List, Option, Some, None, refl, sym, ap, subst, append_assoc}
use Rattle.rj_settings.specs.Separated.{AreSeparated, Begins}

-- a text begins with one entry, and what is left behind it is one
abbrev pub IsReadOnce : {E : Type 0} → (E → List ℕ → Type 0) → Type 0
IsReadOnce {E} IsOne = (e f : E) (text : List ℕ) (r s : Option (List ℕ)) → Begins IsOne e text r → Begins IsOne f text s → (e ≡ f) × (r ≡ s)

-- the entries seen, and those of what is left, are those of the text
abbrev pub Sound : {E : Type 0} → (E → List ℕ → Type 0) → List ℕ → List E → List ℕ → Type 0
Sound {E} IsOne text seen left = (es : List E) → AreSeparated IsOne es (Some left) → AreSeparated IsOne (seen ++ es) (Some text)

-- what is left has entries if the text has
abbrev pub Only : {E : Type 0} → (E → List ℕ → Type 0) → List ℕ → List ℕ → Type 0
Only {E} IsOne text left = (all : List E) → AreSeparated IsOne all (Some text) → (es : List E) × AreSeparated IsOne es (Some left)

pub sound_more : {E : Type 0} (IsOne : E → List ℕ → Type 0) (text left more : List ℕ) (seen all : List E) (e : E) → all ≡ seen ++ e ∷ [] → Sound IsOne text seen left
    → Begins IsOne e left (Some more) → Sound IsOne text all more
sound_more {E} IsOne text left more seen all e push sound begins = λ es are.
    subst (λ (x : List E). AreSeparated IsOne x (Some text)) (sym (append_assoc seen (e ∷ []) es) ∙ ap (λ (x : List E). x ++ es) (sym push))
    (sound (e ∷ es) (Some more, begins, are))

pub sound_end : {E : Type 0} (IsOne : E → List ℕ → Type 0) (text left : List ℕ) (seen all : List E) (e : E) → all ≡ seen ++ e ∷ [] → Sound IsOne text seen left
    → Begins IsOne e left None → AreSeparated IsOne all (Some text)
sound_end {E} IsOne text left seen all e push sound begins = subst (λ (x : List E). AreSeparated IsOne x (Some text)) (sym push) (sound (e ∷ []) (None, begins, tt))

next_left : {E : Type 0} (IsOne : E → List ℕ → Type 0) → IsReadOnce IsOne → (left more : List ℕ) (e : E) → Begins IsOne e left (Some more) → (es : List E)
    → AreSeparated IsOne es (Some left) → (fs : List E) × AreSeparated IsOne fs (Some more)
next_left IsOne once left more e begins [] are = absurd are
next_left IsOne once left more e begins (f ∷ fs) are = (fs, subst (AreSeparated IsOne fs) (once f e left are.0 (Some more) are.1 begins).1 are.2)

pub only_more : {E : Type 0} (IsOne : E → List ℕ → Type 0) → IsReadOnce IsOne → (text left more : List ℕ) (e : E) → Only IsOne text left → Begins IsOne e left (Some more)
    → Only IsOne text more
only_more IsOne once text left more e only begins = λ all are.
    let o = only all are in
    next_left IsOne once left more e begins o.0 o.1

no_more : {E : Type 0} (IsOne : E → List ℕ → Type 0) (left : List ℕ) (es : List E) → ((e : E) (rest : Option (List ℕ)) → Begins IsOne e left rest → ⊥)
    → AreSeparated IsOne es (Some left) → ⊥
no_more IsOne left [] none are = are
no_more IsOne left (f ∷ fs) none are = none f are.0 are.1

pub none_whole : {E : Type 0} (IsOne : E → List ℕ → Type 0) (text left : List ℕ) → Only IsOne text left → ((e : E) (rest : Option (List ℕ)) → Begins IsOne e left rest → ⊥)
    → (all : List E) → AreSeparated IsOne all (Some text) → ⊥
none_whole IsOne text left only none all are = let o = only all are in no_more IsOne left o.0 none o.1

-- the entries of a text are one list
pub one_separated : {E : Type 0} (IsOne : E → List ℕ → Type 0) → IsReadOnce IsOne → (a b : List E) (text : Option (List ℕ)) → AreSeparated IsOne a text → AreSeparated IsOne b text
    → a ≡ b
one_separated IsOne once [] [] None one two = refl
one_separated IsOne once [] [] (Some text) one two = absurd one
one_separated IsOne once [] (f ∷ b) None one two = absurd two
one_separated IsOne once [] (f ∷ b) (Some text) one two = absurd one
one_separated IsOne once (e ∷ a) [] None one two = absurd one
one_separated IsOne once (e ∷ a) [] (Some text) one two = absurd two
one_separated IsOne once (e ∷ a) (f ∷ b) None one two = absurd one
one_separated {E} IsOne once (e ∷ a) (f ∷ b) (Some text) one two =
    let same = once e f text one.0 two.0 one.1 two.1 in
    ap (λ (x : E). x ∷ a) same.0 ∙ ap (λ (x : List E). f ∷ x) (one_separated IsOne once a b two.0 (subst (AreSeparated IsOne a) same.1 one.2) two.2)
