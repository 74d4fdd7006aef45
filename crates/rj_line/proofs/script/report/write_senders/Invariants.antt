use Rattle.std.proofs.Common.{◌≡◌, ◌++◌, drop}
use Rattle.std.specs.Prelude.{string_bytes}
use Rattle.rj_line.specs.Report.{senders_lines, text_of_lines}
use Rattle.rj_line.proofs.script.report.write_senders.Given as goal

abbrev pub invariant-loop-sender : goal.invariant-loop-sender
invariant-loop-sender l = string_bytes l.fn.out ++ text_of_lines (senders_lines l.gaps 0 l.ledger.senders) ≡ string_bytes l.out ++ text_of_lines (senders_lines l.gaps l.sender (drop l.sender l.ledger.senders))
