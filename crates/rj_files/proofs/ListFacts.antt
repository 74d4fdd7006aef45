-- Words with the lists of files in their places, one by one.
use Rattle.std.proofs.Common.{◌≡◌, ◌≢◌, ◌∙◌, ◌+◌, ◌++◌, ◌∷◌, [], ℕ, Bool, Bor, List, ap, append_assoc, arith, drop, false, inl, inr, length, map, ne_eqb, refl, subst, sym, true}
use Rattle.std.specs.Prelude.{Err, IfErr, IfSome, MatchOption, None, Option, Result, Some, string_bytes}
use Rattle.std.proofs.lemmas.List.{map-append}
use Rattle.std.specs.declared.alloc.Global.{Global}
use Rattle.std.specs.declared.string.String.{String}
use Rattle.rj_files.specs.Labels.{AreReadWords, IsListError, IsListsError, IsReadWord, IsWordError, NameFile, file_label, is_file, label_of, named_file}
use Rattle.rj_files.specs.declared.explained.ExplainedFault.{ExplainedFault}
use Rattle.rj_files.specs.declared.reading.FileLabel.{FileLabel}

no_file : (value : List ℕ) → ((name : List ℕ) → value ≢ 64 ∷ name) → is_file value ≡ false
no_file [] none = refl
no_file (b ∷ name) none = ne_eqb b 64 (λ e. none name (ap (λ x. x ∷ name) e))

-- what a value has behind `@`
pub file-found : (value : List ℕ) (r : Option (Bor (List ℕ))) → MatchOption r ((name : List ℕ) → value ≢ 64 ∷ name) (λ name. value ≡ 64 ∷ name.now)
    → MatchOption r (is_file value ≡ false) (λ name. is_file value ≡ true)
file-found value None none = no_file value none
file-found value (Some name) is = ap is_file is

-- the name there
pub name-found : (value : List ℕ) (r : Option (Bor (List ℕ))) → MatchOption r ((name : List ℕ) → value ≢ 64 ∷ name) (λ name. value ≡ 64 ∷ name.now)
    → IfSome r (λ name. name.now ≡ drop 1 value)
name-found value None none = tt
name-found value (Some name) is = sym (ap (drop 1) is)

-- the label of the last word, or this one if there is none
abbrev pub last_label : Option FileLabel → List (List ℕ) → Option FileLabel
last_label before [] = before
last_label before (w ∷ words) = last_label (label_of w) words

last-snoc : (before : Option FileLabel) (words : List (List ℕ)) (w : List ℕ) → label_of w ≡ last_label before (words ++ w ∷ [])
last-snoc before [] w = refl
last-snoc before (x ∷ words) w = last-snoc (label_of x) words w

read-snoc : (before : Option FileLabel) (words read : List (List ℕ)) (w r : List ℕ) → AreReadWords before words read
    → IsReadWord (last_label before words) w r → AreReadWords before (words ++ w ∷ []) (read ++ r ∷ [])
read-snoc before [] [] w r all one = (one, tt)
read-snoc before [] (y ∷ read) w r all one = absurd all
read-snoc before (x ∷ words) [] w r all one = absurd all
read-snoc before (x ∷ words) (y ∷ read) w r all one = (all.0, read-snoc (label_of x) words read w r all.1 one)

named : (before : Option FileLabel) (words rest : List (List ℕ)) (w : List ℕ) (l : FileLabel) → file_label (last_label before words) w ≡ Some l
    → NameFile before (words ++ w ∷ rest) l (named_file (last_label before words) w)
named before [] rest w l e = inl (e, refl)
named before (x ∷ words) rest w l e = inr (named (label_of x) words rest w l e)

-- one more word
pub next-label : (words : List (String Global)) (w : String Global) → label_of (string_bytes w) ≡ last_label None (map string_bytes (words ++ w ∷ []))
next-label words w = last-snoc None (map string_bytes words) (string_bytes w) ∙ ap (last_label None) (sym (map-append string_bytes words (w ∷ [])))

pub next-read : (words read : List (String Global)) (label : Option FileLabel) (w r : String Global)
    → AreReadWords None (map string_bytes words) (map string_bytes read) → label ≡ last_label None (map string_bytes words)
    → IsReadWord label (string_bytes w) (string_bytes r)
    → AreReadWords None (map string_bytes (words ++ w ∷ [])) (map string_bytes (read ++ r ∷ []))
next-read words read label w r all e one =
    rw (map-append string_bytes words (w ∷ []), map-append string_bytes read (r ∷ []))
    (read-snoc None (map string_bytes words) (map string_bytes read) (string_bytes w) (string_bytes r) all
    (subst (λ (l : Option FileLabel). IsReadWord l (string_bytes w) (string_bytes r)) e one))

-- why the first of the further words can't be had
pub next-fault : (words rest all : List (String Global)) (label : Option FileLabel) (w : String Global) (explain : Bool) (x : ExplainedFault)
    → words ++ w ∷ rest ≡ all → label ≡ last_label None (map string_bytes words) → IsWordError label (string_bytes w) explain x
    → IsListsError (map string_bytes all) explain x
next-fault words rest all label w explain x is e (inl memory) = inl memory
next-fault words rest all label w explain x is e (inr (l, names, why)) =
    let before = last_label None (map string_bytes words) in
    let here = subst (λ (b : Option FileLabel). file_label b (string_bytes w) ≡ Some l) e names in
    let there = named None (map string_bytes words) (map string_bytes rest) (string_bytes w) l here in
    inr (
      l,
      named_file before (string_bytes w),
      subst (λ (ws : List (List ℕ)). NameFile None ws l (named_file before (string_bytes w))) (sym (map-append string_bytes words (w ∷ rest)) ∙ ap (map string_bytes) is) there,
      subst (λ (b : Option FileLabel). IsListError explain x l (named_file b (string_bytes w))) e why,
    )

-- an iterator that moves on by one item
pub next-rest : {A : Type 0} (xs ys zs all : List A) (y : A) → ys ≡ y ∷ zs → xs ++ ys ≡ all → (xs ++ y ∷ []) ++ zs ≡ all
next-rest xs ys zs all y e is = append_assoc xs (y ∷ []) zs ∙ (ap (λ l. xs ++ l) (sym e) ∙ is)

pub next-len : {A : Type 0} (ys zs : List A) (y : A) (n m : ℕ) → ys ≡ y ∷ zs → n ≡ length ys → m + 1 ≡ n → m ≡ length zs
next-len ys zs y n m e len less = let l = ap length e in omega arith

pub of-fault : {A E : Type 0} (P : E → Type 0) (r : Result A E) (e : E) → r ≡ Err e → P e → IfErr r P
of-fault {A} {E} P r e is why = subst (λ (q : Result A E). IfErr q P) (sym is) why
