-- The words without the options of a division, one word further.
use Rattle.std.proofs.Common.{◌≡◌, ◌∙◌, ◌<◌, ◌+◌, ◌++◌, ◌∷◌, ℕ, suc, List, [], Bool, true, false, Bor, drop, drop-cons, get_or, length, map, not, ap, refl, sym, arith, append_assoc}
use Rattle.shards.specs.Explained.{has_value, is_own_option, without_own}

abbrev pub texts : List (Bor (List ℕ)) → List (List ℕ)
texts words = map (λ (w : Bor (List ℕ)). w.now) words

pub next-word : (words : List (Bor (List ℕ))) (i : ℕ) (d : Bor (List ℕ)) → i < length words → texts (drop i words) ≡ (get_or words i d).now ∷ texts (drop (i + 1) words)
next-word words i d lt =
    let next : suc i ≡ i + 1 = omega arith in
    ap texts (drop-cons words i d lt) ∙ ap (λ n. (get_or words i d).now ∷ texts (drop n words)) next

module _ (kept : List (List ℕ)) (word : List ℕ) (rest : List (List ℕ)) where
  pub a-value : (v w : Bool) → v ≡ true → w ≡ false → kept ++ without_own w rest ≡ kept ++ without_own v (word ∷ rest)
  a-value v w is now = ap (λ b. kept ++ without_own b rest) now ∙ sym (ap (λ b. kept ++ without_own b (word ∷ rest)) is)

  pub own-option : (v w o h : Bool) → v ≡ false → o ≡ true → o ≡ is_own_option word → h ≡ has_value word → w ≡ not h → kept ++ without_own w rest ≡ kept ++ without_own v (word ∷ rest)
  own-option v w o h is own told has now =
      let option : is_own_option word ≡ true = sym told ∙ own in
      let value : w ≡ not (has_value word) = now ∙ ap not has in
      rw (is, option, value) refl

  pub kept-word : (v w o : Bool) → v ≡ false → o ≡ false → o ≡ is_own_option word → w ≡ v
      → (kept ++ word ∷ []) ++ without_own w rest ≡ kept ++ without_own v (word ∷ rest)
  kept-word v w o is own told same =
      let option : is_own_option word ≡ false = sym told ∙ own in
      let value : w ≡ false = same ∙ is in
      rw (is, option, value) (append_assoc kept (word ∷ []) (without_own false rest))
