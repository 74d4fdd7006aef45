use Rattle.std.proofs.Common.{◌≡◌, ◌++◌, ◌&&◌, length}
use Rattle.std.specs.Prelude.{string_bytes}
use Rattle.rj_exchange.specs.Ledgers.{after_all}
use Rattle.rj_line.specs.Script.{readings, parcels_of, are_readable}
use Rattle.rj_line.specs.Report.{answers_text}
use Rattle.rj_line.proofs.script.answer_script.Given as goal

abbrev pub invariant-loop-rest : goal.invariant-loop-rest
invariant-loop-rest l = record {
  written : string_bytes l.fn.out ++ answers_text l.fn.ledger (readings l.script)
      ≡ string_bytes l.out ++ answers_text l.ledger (readings l.rest);
  ledger : after_all l.fn.ledger (parcels_of (readings l.script)) ≡ after_all l.ledger (parcels_of (readings l.rest));
  readable : are_readable (readings l.script) ≡ (l.readable && are_readable (readings l.rest));
  senders : length l.ledger.senders ≡ length l.fn.ledger.senders;
}

abbrev pub decreases-loop-rest : goal.decreases-loop-rest
decreases-loop-rest l = length l.rest
