use Rattle.std.proofs.Common.{◌+◌, List, ℕ, arith, subst}
use Rattle.rj_explain.specs.Places.{EndsFirst}
use Rattle.rj_explain.proofs.PlaceFacts.{no-row, rest-drop, stands-more}
use Rattle.rj_explain.proofs.further.place_below.Goals as goal

pub returns-in_err-size-clause-place : goal.returns-in_err-size-clause-place
returns-in_err-size-clause-place c =
    let text = c.args.text.now in
    let above = c.in_ok-above.above in
    let none = rw (rest-drop text above) at c.in_err-size.ensures.record in
    rw c.from_residual-in_err-size.ensures (no-row c.args.delimiter text c.args.row (c.args.row + 1) above c.in_ok-above.ensures.place (omega arith) none)

pub returns-clause-place : goal.returns-clause-place
returns-clause-place c =
    let text = c.args.text.now in
    let above = c.in_ok-above.above in
    let more = subst (λ (xs : List ℕ). EndsFirst c.args.delimiter xs c.in_ok-size.size) (rest-drop text above) c.in_ok-size.ensures.record in
    stands-more c.args.delimiter text c.args.row above c.in_ok-size.size c.in_ok-above.ensures.place more
