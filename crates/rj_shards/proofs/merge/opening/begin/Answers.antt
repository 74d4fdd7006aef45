use Rattle.std.proofs.Common.{◌∙◌, sym}
use Rattle.rj_shards.proofs.merge.opening.begin.Goals as goal

pub returns-in-Ok-clause-header : goal.returns-in-Ok-clause-header
returns-in-Ok-clause-header g c = λ text e.
    let between = rw e at c.open_reader-reader.ensures.between in
    let all = rw (e, c.comma.ensures) at c.open_reader-reader.ensures.records in
    let next = rw c.in-Ok-true.field-0-test at c.in-Ok-true.ensures.next in
    let more = next between in
    rw c.in-Ok.ensures.ok (more.1, sym all ∙ more.0)
