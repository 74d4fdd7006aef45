use Rattle.std.proofs.Common.{◌≡◌, length, drop, true}
use Rattle.rj_condition.specs.Partners.{natural, natural_from}
use Rattle.rj_condition.specs.Fits.{pairs_fit}
use Rattle.rj_condition.proofs.partners.common_partners.Given as goal

abbrev pub invariant-loop-i : goal.invariant-loop-i
invariant-loop-i l =
    (natural l.left l.right ≡ natural_from l.left l.right l.partners.items (drop l.i l.left.names))
    × (length l.partners.items ≡ l.i)
    × (pairs_fit l.left.types l.right.types l.partners.items ≡ true)
    × ((l.i-end ≡ length l.left.names) × (l.i-end ≡ length l.left.types))
