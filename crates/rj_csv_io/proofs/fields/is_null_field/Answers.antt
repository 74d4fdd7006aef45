use Rattle.std.proofs.Common.{sym}
use Rattle.rj_csv_io.proofs.NullFacts.{null-found}
use Rattle.rj_csv_io.proofs.fields.is_null_field.Goals as goal

pub returns-then-eq : goal.returns-then-eq
returns-then-eq c = sym (null-found c.args.nulls.now c.args.field.now c.as_bytes-null.result.now c.loop-i.i _ c.loop-i-test.true c.as_bytes-null.ensures.value c.if-eq.ensures)
