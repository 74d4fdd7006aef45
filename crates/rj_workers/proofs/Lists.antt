-- Places of lists.
use Rattle.std.proofs.Common.{◌≡◌, ℕ, ◌<◌, List, [], ◌∷◌, length, arith, subst}
use Rattle.std.specs.Prelude.{Contains}
pub use Rattle.rj_exchange.proofs.Of.{at_end, before_end, chosen, passed, past_end}
pub use Rattle.rj_exchange.proofs.Stubs.{any_default, get_or-map, row_fits}

pub along : {A : Type 0} (xs ys : List A) (x : A) → xs ≡ ys → Contains xs x → Contains ys x
along xs ys x e h = subst (λ l. Contains l x) e h

abbrev pub pick : {A : Type 0} (xs : List A) (i : ℕ) → i < length xs → A
pick [] i lt = absurd (omega arith)
pick (x ∷ xs) i lt = x
