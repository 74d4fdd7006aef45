use Rattle.std.proofs.Common.{inl, inr, refl}
use Rattle.shards.proofs.dividing.look_at_rows.Goals as goal

pub returns-in-Err : goal.returns-in-Err
returns-in-Err g c = inr (inl (c.in-Err.ensures.unwritten (λ o. refl), refl))
