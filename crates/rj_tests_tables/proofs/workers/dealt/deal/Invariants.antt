use Rattle.std.proofs.Common.{◌≡◌, length}
use Rattle.rj_tests_tables.proofs.workers.dealt.deal.Given as goal

abbrev pub invariant-loop-sender : goal.invariant-loop-sender
invariant-loop-sender l = length l.senders.items ≡ l.sender
