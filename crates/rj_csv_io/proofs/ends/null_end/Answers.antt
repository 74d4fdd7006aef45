use Rattle.std.proofs.Common.{◌∷◌, [], refl, sym}
use Rattle.std.proofs.lemmas.List.{map-append}
use Rattle.rj_csv_io.proofs.EndFacts.{nulls-none, shown-nulls-more}
use Rattle.rj_csv_io.proofs.ends.null_end.Goals as goal

pub loop-column-init : goal.loop-column-init
loop-column-init c = rw (c.in_ok-push.ensures.items, c.new-fields.ensures.items, nulls-none) refl

pub loop-column-preserved : goal.loop-column-preserved
loop-column-preserved c =
    rw (c.in_ok-push-2.ensures.items, map-append, c.loop-column.invariant) (λ t. [] ∷ sym (shown-nulls-more c.args.format.now.null.now c.loop-column._column) t)
