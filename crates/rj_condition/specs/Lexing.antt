-- The tokens of a text, with white space between them (SQL-92, 5.2).
use Rattle.std.specs.Prelude.{◌≡◌, ℕ, true, false, List, [], ◌∷◌}
use Rattle.rj_condition.specs.declared.token.Token.{Token}
use Rattle.rj_condition.specs.declared.token.Token.TheVariants as token
use Rattle.rj_condition.specs.Tokens.{is_blank, IsToken}

-- `Lexes bytes ts`: the bytes are the tokens ts. If no token begins somewhere, an unreadable one
-- ends the list.
pub data Lexes : List ℕ → List Token → Type 0 where
  nothing : Lexes [] []
  blank : (b : ℕ) (bs : List ℕ) (ts : List Token) → is_blank b ≡ true → Lexes bs ts → Lexes (b ∷ bs) ts
  next : (bytes : List ℕ) (t : Token) (rest : List ℕ) (ts : List Token) → IsToken bytes t rest → Lexes rest ts → Lexes bytes (t ∷ ts)
  unreadable : (b : ℕ) (bs : List ℕ) → is_blank b ≡ false → ((t : Token) (rest : List ℕ) → IsToken (b ∷ bs) t rest → ⊥) → Lexes (b ∷ bs) (token.Unreadable ∷ [])
