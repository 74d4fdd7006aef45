use Rattle.std.proofs.Common.{◌+◌, List, ℕ, subst, sym}
use Rattle.rj_explain.specs.Further.{AreBadTold}
use Rattle.rj_explain.proofs.FurtherFacts.{none_below}
use Rattle.rj_explain.proofs.further.lines_below.Goals as goal

pub returns-in-None : goal.returns-in-None
returns-in-None c =
    let column = c.args.column.now in
    let below = c.args.row + 1 in
    subst (λ (s : List ℕ). AreBadTold column below 19 s) (sym c.new.ensures.bytes) (AreBadTold.none below 19 (none_below column below c.in-None.ensures.place))
