-- How deep parentheses and NOTs are nested.
use Rattle.std.specs.Prelude.{ℕ, ◌+◌, ◌-◌, Bool, false, ◌||◌, nat_lt, List, [], ◌∷◌, length, sum}
use Rattle.rj_condition.specs.declared.token.Keyword.TheVariants as keyword
use Rattle.rj_condition.specs.declared.token.Sign.TheVariants as sign
use Rattle.rj_condition.specs.declared.token.Token.{Token}
use Rattle.rj_condition.specs.declared.token.Token.TheVariants as token

-- The NOTs in a row: those that end with the token, and then those directly before each open
-- parenthesis, the innermost first. A closing parenthesis closes the innermost, if any.
abbrev pub runs_after : Token → List ℕ → List ℕ
runs_after t [] = []
runs_after (token.Keyword keyword.Not) (run ∷ runs) = (run + 1) ∷ runs
runs_after (token.Sign sign.Open) (run ∷ runs) = 0 ∷ run ∷ runs
runs_after (token.Sign sign.Close) (run ∷ []) = 0 ∷ []
runs_after (token.Sign sign.Close) (run ∷ before ∷ runs) = 0 ∷ runs
runs_after _ (run ∷ runs) = 0 ∷ runs

-- the open parentheses and these NOTs
abbrev pub depth : List ℕ → ℕ
depth runs = length runs - 1 + sum runs

-- whether it is over 64 after some token
abbrev pub is_deep_from : List ℕ → List Token → Bool
is_deep_from runs [] = false
is_deep_from runs (t ∷ ts) = nat_lt 64 (depth (runs_after t runs)) || is_deep_from (runs_after t runs) ts

-- no parenthesis is open before the first token, and no NOT comes before it
abbrev pub is_deep : List Token → Bool
is_deep ts = is_deep_from (0 ∷ []) ts
