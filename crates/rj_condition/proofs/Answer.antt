-- What an answer says of the text.
use Rattle.std.proofs.Common.{◌≡◌, ◌<◌, ◌≤◌, ◌-◌, ◌∙◌, [], ℕ, List, length, true, false, Result, Ok, Err, refl, ap, slice_get, subst, arith, unwrap_or}
use Rattle.rj_condition.specs.declared.token.Token.{Token}
use Rattle.rj_condition.specs.declared.tree.Clause.{Clause}
use Rattle.rj_condition.specs.declared.refused.ParseRefused.{ParseRefused}
use Rattle.rj_condition.specs.declared.refused.ParseRefused.TheVariants as refused
use Rattle.rj_condition.specs.Lexing.{Lexes}
use Rattle.rj_condition.specs.Nesting.{is_deep}
use Rattle.rj_condition.specs.Grammar.{Derives}
use Rattle.rj_condition.specs.Internal.Reading.{clause_at}
use Rattle.rj_condition.specs.Clauses.{IsStopByte, IsTooLong, IsTooDeep, HasClause, HasNoClause, Parses, IsAnswer, Refuses, IsSyntax}
use Rattle.rj_condition.proofs.Lexemes.{one_reading}
use Rattle.rj_condition.specs.Refusals.{BeginAt}
use Rattle.rj_condition.proofs.RefusalFacts.{begin_each}
use Rattle.rj_condition.proofs.Whole.{clause_sound, clause_complete, stop}
use Rattle.rj_condition.proofs.Whole as whole

-- no text is long and short, and none is deep and flat
long_short : (text : List ℕ) → 65536 < length text → length text ≤ 65536 → ⊥
long_short text a b = omega arith

deep_flat : (text : List ℕ) (ts us : List Token) → Lexes text ts → Lexes text us → is_deep ts ≡ true → is_deep us ≡ false → ⊥
deep_flat text ts us k l e f = let same = ap is_deep (one_reading text ts us k l) in cc

-- no text has two clauses
pub one_clause : (text : List ℕ) (c d : Clause) → HasClause text c → HasClause text d → c ≡ d
one_clause text c d p q =
    whole.one_clause p.0 c d p.4 (subst (λ (z : List Token). Derives z d) (one_reading text q.0 p.0 q.2 p.2) q.4)

some_none : (text : List ℕ) (c : Clause) → HasClause text c → HasNoClause text → ⊥
some_none text c p q = q.4 c (subst (λ (z : List Token). Derives z c) (one_reading text p.0 q.0 p.2 q.2) p.4)

pub only : (r : Result Clause ParseRefused) (text : List ℕ) (c : Clause) → Parses text r → HasClause text c → IsAnswer r c
only (Ok d) text c h p = one_clause text d c h p
only (Err refused.TooLong) text c h p = absurd (long_short text h p.1)
only (Err refused.TooDeep) text c h p = absurd (deep_flat text h.0 p.0 h.2 p.2 h.3 p.3)
only (Err (refused.Syntax byte)) text c h p = absurd (some_none text c p h.0)
only (Err refused.Memory) text c h p = refl

pub long : (r : Result Clause ParseRefused) (text : List ℕ) → Parses text r → IsTooLong text → Refuses r (λ e. e ≡ refused.TooLong)
long (Ok d) text h p = long_short text p h.1
long (Err refused.TooLong) text h p = λ n. refl
long (Err refused.TooDeep) text h p = absurd (long_short text p h.1)
long (Err (refused.Syntax byte)) text h p = absurd (long_short text p h.0.1)
long (Err refused.Memory) text h p = λ n. absurd (n refl)

pub deep : (r : Result Clause ParseRefused) (text : List ℕ) → Parses text r → IsTooDeep text → Refuses r (λ e. e ≡ refused.TooDeep)
deep (Ok d) text h p = deep_flat text p.0 h.0 p.2 h.2 p.3 h.3
deep (Err refused.TooLong) text h p = absurd (long_short text h p.1)
deep (Err refused.TooDeep) text h p = λ n. refl
deep (Err (refused.Syntax byte)) text h p = absurd (deep_flat text p.0 h.0.0 p.2 h.0.2 p.3 h.0.3)
deep (Err refused.Memory) text h p = λ n. absurd (n refl)

pub none : (r : Result Clause ParseRefused) (text : List ℕ) → Parses text r → HasNoClause text → Refuses r IsSyntax
none (Ok d) text h p = some_none text d h p
none (Err refused.TooLong) text h p = absurd (long_short text h p.1)
none (Err refused.TooDeep) text h p = absurd (deep_flat text h.0 p.0 h.2 p.2 h.3 p.3)
none (Err (refused.Syntax byte)) text h p = λ n. tt
none (Err refused.Memory) text h p = λ n. absurd (n refl)

-- what the reader of the tokens found
pub found : (text : List ℕ) (ts : List Token) (c : Clause) → length text ≤ 65536 → Lexes text ts → is_deep ts ≡ false → clause_at ts ≡ Ok (c, []) → HasClause text c
found text ts c le l flat e = (ts, le, l, flat, clause_sound ts c e)

pub not_found : (text : List ℕ) (ts : List Token) (left : ℕ) → length text ≤ 65536 → Lexes text ts → is_deep ts ≡ false → clause_at ts ≡ Err left → HasNoClause text
not_found text ts left le l flat e = (ts, le, l, flat, λ c d. let f = clause_complete ts c d in cc)

-- the byte at which it stopped
pub stop_byte : (text : List ℕ) (ts : List Token) (starts : List ℕ) (left byte : ℕ) → BeginAt text text ts starts → clause_at ts ≡ Err left
    → byte ≡ unwrap_or (slice_get starts (length starts - left)) (length text) → IsStopByte text byte
stop_byte text ts starts left byte begin e at =
    let s = stop ts left e in
    let many = begin_each text text ts starts begin in
    let place : length starts - left ≡ s.0 = omega (arith, s.1, many) in
    record {
      tokens = ts;
      starts = starts;
      begin = begin;
      place = s.0;
      stop = s.2;
      at = at ∙ ap (λ (i : ℕ). unwrap_or (slice_get starts i) (length text)) place;
    }

-- no more tokens are left than there are bytes at which one starts
pub left_within : (text : List ℕ) (ts : List Token) (starts : List ℕ) (left : ℕ) → BeginAt text text ts starts → clause_at ts ≡ Err left → left ≤ length starts
left_within text ts starts left begin e = let s = stop ts left e in omega (arith, s.1, begin_each text text ts starts begin)
