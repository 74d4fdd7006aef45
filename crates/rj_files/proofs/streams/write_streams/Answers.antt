use Rattle.std.proofs.Common.{inr}
use Rattle.std.proofs.lemmas.Result.{IfErr-weaker, IfOk-weaker}
use Rattle.rj_files.proofs.streams.write_streams.Goals as goal

pub returns-in-Ok-complete_line-clause-written : goal.returns-in-Ok-complete_line-clause-written
returns-in-Ok-complete_line-clause-written g c =
    let read = c.in-Ok in
    let given = c.in-Ok-given_tables in
    IfOk-weaker c.write_tables.result.0 _ _ (λ written asked. (
      read.tables.left.items,
      read.tables.right.items,
      given.tables.left.items,
      given.tables.right.items,
      read.ensures.left,
      read.ensures.right,
      (given.ensures.left, given.ensures.right),
      c.in-Ok-complete_line.ensures.completed,
      asked,
    )) c.write_tables.ensures.written

pub returns-in-Ok-complete_line-clause-fault : goal.returns-in-Ok-complete_line-clause-fault
returns-in-Ok-complete_line-clause-fault g c =
    let read = c.in-Ok in
    let given = c.in-Ok-given_tables in
    IfErr-weaker c.write_tables.result.0 _ _ (λ e told. inr (inr (inr (
      read.tables.left.items,
      read.tables.right.items,
      given.tables.left.items,
      given.tables.right.items,
      read.ensures.left,
      read.ensures.right,
      (given.ensures.left, given.ensures.right),
      c.in-Ok-complete_line.ensures.completed,
      told,
    )))) c.write_tables.ensures.fault
