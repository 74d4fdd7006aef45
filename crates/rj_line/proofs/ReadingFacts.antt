-- Words read as row numbers, one after the other.
use Rattle.std.proofs.Common.{◌≡◌, ℕ, suc, ◌==◌, ◌&&◌, Bool, true, false, if◌then◌else◌, codes, length, arith, List, ◌∷◌, ◌++◌, Option, Some, None, refl, ap, ◌∙◌}
use Rattle.rj_line.specs.Script.{rows_of, body_of, words_of}
use Rattle.std.specs.Prelude.{option_map}
use Rattle.std.specs.Str.{bytes_eq}
use Rattle.std.proofs.lemmas.Bool.Decides.{nat_tests}
use Rattle.rj_exchange.specs.declared.ledger.parcel.Body.TheVariants.{Rows, Close}
use Rattle.rj_line.proofs.SplitFacts.{split_some}

-- the rows so far, and then those of the words that are left
abbrev pub onto : List ℕ → Option (List ℕ) → Option (List ℕ)
onto done None = None
onto done (Some ns) = Some (done ++ ns)

no_end : (words : List (List ℕ)) → (p : List ℕ) × (ps : List (List ℕ)) × (words ≡ p ∷ ps) → (length words == 0) ≡ false
no_end words w = ap (λ (t : List (List ℕ)). length t == 0) w.2 ∙ apart (length w.1)
  where
    apart : (n : ℕ) → (suc n == 0) ≡ false
    apart n = grind (arith, nat_tests)

and_false : (t : Bool) → (t && false) ≡ false
and_false true = refl
and_false false = refl

-- what has words after another kind is no body
pub body-other : (kind words : List ℕ) → bytes_eq kind (codes "rows") ≡ false → body_of (kind ∷ words_of words) ≡ None
body-other kind words h =
    ap (λ (t : Bool). if t then option_map Rows (rows_of (words_of words)) else if bytes_eq kind (codes "close") && length (words_of words) == 0 then Some Close else None) h
    ∙ ap (λ (t : Bool). if t then Some Close else None) (ap (λ (t : Bool). bytes_eq kind (codes "close") && t) (no_end (words_of words) (split_some (λ b. b == 32) words)) ∙ and_false (bytes_eq kind (codes "close")))
