-- Texts that begin with a byte order mark.
use Rattle.std.proofs.Common.{◌≡◌, ◌<◌, ◌≤◌, ℕ, List, [], ◌∷◌, length, drop, get_or, true, false, refl, arith}
use Rattle.std.proofs.lemmas.Bool.{false≢true}
use Rattle.csv.specs.Reading.{strip_bom, is_bom}
use Rattle.rj_csv_io.specs.StrictReading.{has_mark}

pub mark-short : (text : List ℕ) → length text < 3 → has_mark text ≡ false
unfolding has_mark
mark-short [] h = refl
mark-short (a ∷ []) h = refl
mark-short (a ∷ b ∷ []) h = refl
mark-short (a ∷ b ∷ c ∷ rest) h = absurd (omega arith)

pub mark-long : (text : List ℕ) → 3 ≤ length text → has_mark text ≡ is_bom (get_or text 0 0) (get_or text 1 0) (get_or text 2 0)
unfolding has_mark
mark-long [] h = absurd (omega arith)
mark-long (a ∷ []) h = absurd (omega arith)
mark-long (a ∷ b ∷ []) h = absurd (omega arith)
mark-long (a ∷ b ∷ c ∷ rest) h = refl

pub strip-mark : (text : List ℕ) → has_mark text ≡ true → strip_bom text ≡ drop 3 text
unfolding has_mark strip_bom
strip-mark [] h = absurd (false≢true h)
strip-mark (a ∷ []) h = absurd (false≢true h)
strip-mark (a ∷ b ∷ []) h = absurd (false≢true h)
strip-mark (a ∷ b ∷ c ∷ rest) h = rw h refl

pub strip-none : (text : List ℕ) → has_mark text ≡ false → strip_bom text ≡ text
unfolding has_mark strip_bom
strip-none [] h = refl
strip-none (a ∷ []) h = refl
strip-none (a ∷ b ∷ []) h = refl
strip-none (a ∷ b ∷ c ∷ rest) h = rw h refl
