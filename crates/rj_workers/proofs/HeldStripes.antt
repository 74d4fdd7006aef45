-- The stripes that a scanner holds.
use Rattle.std.proofs.Common.{◌≡◌, ℕ, ◌+◌, ◌<◌, List, [], ◌∷◌, ◌++◌, ap, ◌∙◌, arith}
use Rattle.rj_exchange.specs.declared.boxes.Exchange.{Exchange}
use Rattle.rj_exchange.specs.Tickets.{times}
use Rattle.rj_exchange.specs.Striping.{without}
use Rattle.rj_exchange.proofs.Striping.{put_back_undoes}
use Rattle.rj_workers.specs.Posts.{Due, Posts, KeepsPosts}
use Rattle.rj_workers.specs.Internal.Scans.{HasPostedStripe}
use Rattle.rj_workers.proofs.Posts.{kept_posted}

-- what is held once the last number drawn was put back was held before it was drawn
pub held_before : (old new back : List ℕ) (s x : ℕ) → new ≡ old ++ s ∷ [] → back ≡ without s new → 0 < times x back → 0 < times x old
held_before old new back s x is put h =
    let t : times x back ≡ times x (without s (old ++ s ∷ [])) = ap (times x) (put ∙ ap (without s) is) in let u = put_back_undoes old s x in omega arith

pub kept_stripe : (due : Due) (block stripes : ℕ) (e : Exchange) (x : ℕ) (a b : Posts) → KeepsPosts a b → HasPostedStripe due block stripes e x a → HasPostedStripe due block stripes e x b
kept_stripe due block stripes e x a b keep has = (kept_posted due block e x e.partitions a b keep has.0, kept_posted due block e (stripes + x) e.partitions a b keep has.1)
