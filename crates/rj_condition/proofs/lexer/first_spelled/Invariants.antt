use Rattle.std.proofs.Common.{◌≡◌, drop}
use Rattle.std.specs.List.{find}
use Rattle.rj_condition.specs.Tokens.{spells}
use Rattle.rj_condition.proofs.lexer.first_spelled.Given as goal

abbrev pub invariant-loop-keyword : goal.invariant-loop-keyword
invariant-loop-keyword l = find (spells l.word) (drop l.keyword-index l.keywords) ≡ find (spells l.word) l.keywords
