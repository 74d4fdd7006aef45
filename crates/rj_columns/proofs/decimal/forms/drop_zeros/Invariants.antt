use Rattle.std.proofs.Common.{◌≡◌, ◌≤◌}
use Rattle.rj_columns.specs.Numbers.{number_of}
use Rattle.rj_columns.specs.LeastNumbers.{without_zeros, least_of}
use Rattle.rj_columns.proofs.decimal.forms.drop_zeros.Given as goal

abbrev pub invariant-loop-scale : goal.invariant-loop-scale
invariant-loop-scale l = record {
  form : without_zeros l.units l.scale ≡ least_of (number_of l.fn.decimal);
  in_range : l.scale ≤ 18;
}

abbrev pub decreases-loop-scale : goal.decreases-loop-scale
decreases-loop-scale l = l.scale
