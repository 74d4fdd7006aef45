-- Tests of the texts behind references, and lines of the system.
use Rattle.std.proofs.Common.{◌≡◌, ◌∙◌, ◌||◌, ◌++◌, Bool, Bor, List, [], ◌∷◌, ap, codes, cond, false, map, refl, true, ◌+◌, ℕ, sym, take}
use Rattle.std.specs.Prelude.{None, Some}
use Rattle.std.specs.List.{list_any, prefix_len, take_while}
use Rattle.std.specs.Str.{bytes_eq}
use Rattle.rj_files.specs.FaultFiles.{table_name}
use Rattle.std.proofs.lemmas.List.{take-map}
use Rattle.rj_files.specs.Texts.{IsIndented, IsSystemLine}

module _ (p : List ℕ → Bool) where
  pub list_any-texts : (words : List (Bor (List ℕ))) → list_any (λ (w : Bor (List ℕ)). p w.now) words ≡ list_any p (map (λ w. w.now) words)
  list_any-texts [] = refl
  list_any-texts (w ∷ words) = ap (λ b. p w.now || b) (list_any-texts words)

  prefix_len-texts : (words : List (Bor (List ℕ))) → prefix_len (λ (w : Bor (List ℕ)). p w.now) words ≡ prefix_len p (map (λ w. w.now) words)
  prefix_len-texts [] = refl
  prefix_len-texts (w ∷ words) = ap (λ n. cond (p w.now) (1 + n) 0) (prefix_len-texts words)

  pub take_while-texts : (words : List (Bor (List ℕ))) → map (λ w. w.now) (take_while (λ (w : Bor (List ℕ)). p w.now) words) ≡ take_while p (map (λ w. w.now) words)
  take_while-texts words = sym (take-map (λ w. w.now) _ words) ∙ ap (λ (n : ℕ). take n (map (λ w. w.now) words)) (prefix_len-texts words)

-- a line of the system is indented
indented : (name text : List ℕ) → IsSystemLine name text → IsIndented text
indented name text (None, is) = (name, is)
indented name text (Some words, is) = (name ++ (codes ": " ++ words), is)

-- the line of standard input
pub line-of-input : (name text : List ℕ) → bytes_eq name (codes "-") ≡ true → text ≡ codes "  standard input" ++ 10 ∷ []
    → IsIndented text × IsSystemLine (table_name name) text
line-of-input name text dash is = ((codes "standard input", is), rw dash (None, is))

-- that of a file
pub line-of-file : (name text : List ℕ) → bytes_eq name (codes "-") ≡ false → IsSystemLine name text → IsIndented text × IsSystemLine (table_name name) text
line-of-file name text other line = (indented name text line, rw other line)
