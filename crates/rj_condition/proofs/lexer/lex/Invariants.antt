use Rattle.std.proofs.Common.{List, ℕ, ◌++◌, length, ◌≤◌}
use Rattle.std.specs.Prelude.{IsUtf8}
use Rattle.rj_condition.specs.declared.token.Token.{Token}
use Rattle.rj_condition.specs.Lexing.{Lexes}
use Rattle.rj_condition.specs.Refusals.{BeginAt}
use Rattle.rj_condition.proofs.lexer.lex.Given as goal

abbrev pub invariant-loop-first : goal.invariant-loop-first
invariant-loop-first l = record {
  text : IsUtf8 l.rest;
  within : length l.rest ≤ length l.text;
  done : (ts : List Token) → Lexes l.rest ts → Lexes l.text (l.tokens ++ ts);
  begun : (ts : List Token) (starts : List ℕ) → BeginAt l.text l.rest ts starts → BeginAt l.text l.text (l.tokens ++ ts) (l.starts.items ++ starts);
}

abbrev pub decreases-loop-first : goal.decreases-loop-first
decreases-loop-first l = length l.rest
