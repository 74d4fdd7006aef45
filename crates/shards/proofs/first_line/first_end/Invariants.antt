use Rattle.std.proofs.Common.{◌≡◌, take}
use Rattle.shards.specs.Heads.{HasNoFeed, is_open}
use Rattle.shards.proofs.first_line.first_end.Given as goal

abbrev pub invariant-loop-at : goal.invariant-loop-at
invariant-loop-at l = record {
  none : HasNoFeed l.text l.at;
  opened : l.is_open ≡ is_open (take l.at l.text);
}
