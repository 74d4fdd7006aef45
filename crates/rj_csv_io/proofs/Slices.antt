-- Parts of a text.
use Rattle.std.proofs.Common.{◌≡◌, ◌+◌, ◌-◌, ℕ, List, length, take, drop, get_or, ap, ◌∙◌}
use Rattle.std.specs.Prelude.{Option, Some, None, IfSome}
use Rattle.std.proofs.lemmas.List.{take_rest, get_or-drop}

pub rest-at : (text : List ℕ) (at k : ℕ) → get_or (take (length text - at) (drop at text)) k 0 ≡ get_or text (at + k) 0
rest-at text at k = ap (λ t. get_or t k 0) (take_rest text at) ∙ get_or-drop at text k 0

-- a value that is there has more that is true of it
pub some-then : {X : Type 0} (o : Option X) (P Q : X → Type 0) → ((x : X) → P x → Q x) → IfSome o P → IfSome o Q
some-then None P Q f p = tt
some-then (Some x) P Q f p = f x p
