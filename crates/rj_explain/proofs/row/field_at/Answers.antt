use Rattle.std.proofs.Common.{arith}
use Rattle.rj_explain.proofs.PlaceFacts.{at-column}
use Rattle.rj_explain.proofs.row.field_at.Goals as goal

pub returns : goal.returns
returns c = at-column c.in_ok-fields.fields.items _ c.args.column c.index.result.now c.in_ok-fields.ensures c.if-column-eq0.false (omega arith) c.index.ensures
