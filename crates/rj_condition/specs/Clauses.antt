-- Clause: the syntax tree of a text, or its error. A text over 65,536 bytes is too long; that is
-- reported first, then that it is nested too deep, and then that it is no clause.
use Rattle.std.specs.Prelude.{◌≡◌, ◌≢◌, ◌<◌, ◌≤◌, ◌++◌, ℕ, suc, true, false, List, length, slice_get, take, unwrap_or, Result, Ok, Err, MatchResult}
use Rattle.rj_condition.specs.declared.token.Token.{Token}
use Rattle.rj_condition.specs.declared.tree.Clause.{Clause}
use Rattle.rj_condition.specs.declared.refused.ParseRefused.{ParseRefused}
use Rattle.rj_condition.specs.declared.refused.ParseRefused.TheVariants as refused
use Rattle.rj_condition.specs.Lexing.{Lexes}
use Rattle.rj_condition.specs.Nesting.{is_deep}
use Rattle.rj_condition.specs.Grammar.{Derives}
use Rattle.rj_condition.specs.Refusals.{BeginAt}

abbrev pub IsTooLong : List ℕ → Type 0
IsTooLong text = 65536 < length text

abbrev pub IsTooDeep : List ℕ → Type 0
IsTooDeep text = (ts : List Token) × (length text ≤ 65536) × Lexes text ts × (is_deep ts ≡ true)

-- the text's tokens are those of the clause
abbrev pub HasClause : List ℕ → Clause → Type 0
HasClause text c = (ts : List Token) × (length text ≤ 65536) × Lexes text ts × (is_deep ts ≡ false) × Derives ts c

-- the text's tokens are those of no clause
abbrev pub HasNoClause : List ℕ → Type 0
HasNoClause text = (ts : List Token) × (length text ≤ 65536) × Lexes text ts × (is_deep ts ≡ false) × ((c : Clause) → Derives ts c → ⊥)

-- the tokens begin a clause: with some more after them they are those of one
abbrev pub BeginsClause : List Token → Type 0
BeginsClause ts = (us : List Token) × (c : Clause) × Derives (ts ++ us) c

-- this many tokens begin a clause, and with the next one, if there is one, they begin none
pub record IsStop (ts : List Token) (n : ℕ) : Type 0 where
  pub within : n ≤ length ts
  pub begins : BeginsClause (take n ts)
  pub stops : n < length ts → BeginsClause (take (suc n) ts) → ⊥

-- the first byte of the first token with which the tokens so far begin no clause, or the text's length where there is no such token
pub record IsStopByte (text : List ℕ) (byte : ℕ) : Type 0 where
  pub tokens : List Token
  pub starts : List ℕ
  pub begin : BeginAt text text tokens starts
  pub place : ℕ
  pub stop : IsStop tokens place
  pub at : byte ≡ unwrap_or (slice_get starts place) (length text)

-- The error is the text's own, or memory ran out.
abbrev pub IsFault : List ℕ → ParseRefused → Type 0
IsFault text refused.TooLong = IsTooLong text
IsFault text refused.TooDeep = IsTooDeep text
IsFault text (refused.Syntax byte) = HasNoClause text × IsStopByte text byte
IsFault text refused.Memory = Unit {0}

-- The answer of a parser is the clause or the error of the text, unless memory ran out.
abbrev pub Parses : List ℕ → Result Clause ParseRefused → Type 0
Parses text (Ok c) = HasClause text c
Parses text (Err e) = IsFault text e

-- it is this clause, or an error of which more is known
abbrev pub IsAnswer : Result Clause ParseRefused → Clause → Type 0
IsAnswer (Ok c) d = c ≡ d
IsAnswer (Err e) d = e ≡ refused.Memory

-- it is an error: memory ran out, or the error meets the test
abbrev pub Refuses : Result Clause ParseRefused → (ParseRefused → Type 0) → Type 0
Refuses r P = MatchResult r (λ c. ⊥) (λ e. e ≢ refused.Memory → P e)

abbrev pub IsSyntax : ParseRefused → Type 0
IsSyntax (refused.Syntax byte) = Unit {0}
IsSyntax _ = ⊥
