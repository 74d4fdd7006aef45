-- One more column, where it is wanted.
use Rattle.std.proofs.Common.{◌≡◌, ℕ, ◌+◌, List, [], ◌∷◌, ◌++◌, Bool, true, false, refl, map, filter, append_assoc, arith}
use Rattle.std.specs.Prelude.{if◌then◌else◌}
use Rattle.std.specs.List.{range_with_len}
use Rattle.std.proofs.lemmas.List.{map-append}
use Rattle.std.proofs.lemmas.List.Elements.{filter-append}
use Rattle.rj_hashjoin.proofs.Runs.{range_more}
use Rattle.rj_engine.specs.declared.origin.Origin.{Origin}

one : (made : ℕ → Origin) (wanted : ℕ → Bool) (n : ℕ) (b : Bool) → b ≡ wanted n → map made (filter wanted (n ∷ [])) ≡ (if b then made n ∷ [] else [])
one made wanted n true e = rw (← e) refl
one made wanted n false e = rw (← e) refl

pub grown : (made : ℕ → Origin) (wanted : ℕ → Bool) (n : ℕ) (first old new : List Origin) (b : Bool) → b ≡ wanted n → old ≡ first ++ map made (filter wanted (range_with_len 0 n))
    → new ≡ old ++ (if b then made n ∷ [] else []) → new ≡ first ++ map made (filter wanted (range_with_len 0 (n + 1)))
grown made wanted n first old new b test before e =
    let at : 0 + n ≡ n = omega arith in
    rw (range_more 0 n n at, filter-append, map-append, one made wanted n b test, ← append_assoc, ← before) e
