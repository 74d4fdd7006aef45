use Rattle.std.proofs.Common.{◌+◌, ◌≤◌}
use Rattle.rj_csv_io.proofs.QuotingFacts.{Quotes}
use Rattle.rj_csv_io.proofs.strict.quoting.quote_empty_lines.Given as goal

abbrev pub invariant-loop-i : goal.invariant-loop-i
invariant-loop-i l = record {
  row : l.standing.row ≤ l.i + 1;
  column : l.standing.column ≤ l.i + 1;
  quotes : Quotes l.separator l.text l.i l.standing l.quoted.items;
}
