use Rattle.std.proofs.Common.{◌≡◌, length, drop, true}
use Rattle.rj_condition.specs.Partners.{using, using_from}
use Rattle.rj_condition.specs.Fits.{pairs_fit}
use Rattle.rj_condition.proofs.partners.partners_named.Given as goal

abbrev pub invariant-loop-name : goal.invariant-loop-name
invariant-loop-name l =
    (using l.left l.right l.names ≡ using_from l.left l.right l.partners.items (drop l.name-index l.names))
    × (length l.partners.items ≡ length l.left.types)
    × (pairs_fit l.left.types l.right.types l.partners.items ≡ true)
