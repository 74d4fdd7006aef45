use Rattle.rj_exchange.specs.declared.ledger.parcel.Parcel.{Parcel}
use Rattle.std.proofs.Common.{List, subst}
use Rattle.std.specs.List.Sorted.{IsPermutation}
use Rattle.rj_workers.specs.Posts.{to_post}
use Rattle.rj_workers.proofs.scan.cut_part.Goals as goal

pub returns : goal.returns
returns c = (c.new-list.result, c.in_ok-push.ensures.items, subst (λ (l : List Parcel). IsPermutation l (to_post c.new-list.result)) c.in_ok-cut.ensures.plan c.new-list.ensures)
