use Rattle.std.proofs.Common.{◌≡◌, ◌++◌, length, take}
use Rattle.rj_csv_io.proofs.records.RowTexts.append.Given as goal

abbrev pub invariant-loop-number : goal.invariant-loop-number
invariant-loop-number l = record {
  texts : l.self ≡ l.fn.self ++ take l.number l.fn.more;
  end : l.number-end ≡ length l.fn.more;
}
