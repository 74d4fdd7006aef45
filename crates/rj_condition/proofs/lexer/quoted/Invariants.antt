use Rattle.std.proofs.Common.{◌≡◌, length}
use Rattle.std.specs.Prelude.{string_bytes, IsUtf8}
use Rattle.rj_condition.specs.Internal.Scanning.{in_front}
use Rattle.rj_condition.specs.Internal.Scanning as scanning
use Rattle.rj_condition.proofs.lexer.quoted.Given as goal

abbrev pub decreases-loop-found : goal.decreases-loop-found
decreases-loop-found l = length l.rest

abbrev pub invariant-loop-found : goal.invariant-loop-found
invariant-loop-found l = record {
  text : IsUtf8 l.rest;
  state : in_front (string_bytes l.found) (scanning.quoted l.quote l.rest) ≡ scanning.quoted l.quote l.text;
}
