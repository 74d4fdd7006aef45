use Rattle.std.proofs.Common.{◌∙◌, sym}
use Rattle.std.proofs.lemmas.List.{length-map}
use Rattle.std.proofs.lemmas.List.FromFn.{length-range_with_len}
use Rattle.rj_shards.proofs.division.grouped.group_rows.Goals as goal

pub scatter-requires-clause-len : goal.scatter-requires-clause-len
scatter-requires-clause-len g c =
    rw (c.deref.ensures.value, c.deref-2.ensures.value, c.in_ok-routes.ensures.routes, c.in_ok-rows.ensures)
    (length-map c.args.table.now.rows _ ∙ sym (length-range_with_len 0 _ ∙ c.rows.ensures.count))
