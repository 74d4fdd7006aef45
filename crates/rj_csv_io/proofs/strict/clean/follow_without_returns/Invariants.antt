use Rattle.std.proofs.Common.{◌≡◌, false, true, take}
use Rattle.rj_csv_io.specs.Internal.StrictWalk.{all_follow}
use Rattle.rj_csv_io.proofs.strict.clean.follow_without_returns.Given as goal

abbrev pub invariant-loop-i : goal.invariant-loop-i
invariant-loop-i l = l.bad ≡ false → all_follow l.before (take l.i l.text) ≡ true
