use Rattle.std.proofs.Common.{◌≡◌, length, take, false}
use Rattle.rj_csv_io.specs.Typed.{is_null_field, null_texts}
use Rattle.rj_csv_io.proofs.fields.is_null_field.Given as goal

abbrev pub invariant-loop-i : goal.invariant-loop-i
invariant-loop-i l = record {
  none : is_null_field (null_texts (take l.i l.nulls)) l.field ≡ false;
  end : l.i-end ≡ length l.nulls;
}
